-- A test of whether a run's events are accepted, to be computed.
use mathlib.Core.Bool.{Bool, ◌&&◌}
use lib.Dec.{eqb}
use Rattle.state_valid.specs.Holds.{profile_ok}
use Rattle.step_turns.specs.Promises.{later_ok}
use Rattle.laws_account.specs.History.{Run, powered, ◌▸◌}
use Rattle.laws_account.specs.Refused.{refusal_in, Accepted}
use Rattle.laws_third.proofs.Means.{Means, eqb-means, true-means, and-means}

unfoldable pub accepts : Run → Bool
accepts (powered p) = profile_ok p
accepts (r ▸ e) = accepts r && (later_ok e && eqb (refusal_in r e) 0)

pub accepts-means : (r : Run) → Means (accepts r) (Accepted r)
unfolding accepts
accepts-means (powered p) = true-means (profile_ok p)
accepts-means (r ▸ e) = and-means (accepts-means r) (and-means (true-means (later_ok e)) (eqb-means (refusal_in r e) 0))
