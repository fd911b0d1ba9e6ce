-- What is proved beside demand 3, of every run of accepted events: what its cycle's start, its sums and its done come to.
use Rattle.std.specs.Prelude.{ℕ, ◌≤◌, ◌≡◌, ◌↔◌, true, false, List}
use Rattle.laws_account.specs.History.{Run, Since}
use Rattle.laws_account.specs.Held.{was_reset}
use Rattle.laws_account.specs.Cycles.{Stage, held_in, number_at, time_in, phase_at}
use Rattle.log_event.specs.declared.Event.{Event}
use Rattle.laws_account.specs.Refused.{Accepted, none, some, past_of}
use Rattle.laws_third.specs.Crossed.{PinFault}
use Rattle.laws_third.specs.Banded.{Tapering, BelowRecharge, AtVoltage}
use Rattle.laws_third.specs.Allowed.{Allowed}
use Rattle.laws_third.specs.Stages.{WasDone, CycleStarts, StartedAt, time_since, Reached, Ends, Done}

-- the present cycle started once, and what the account has of a stage is the sum from there to now: no time is lost or invented
pub record Cycled (r : Run) : Type 0 where
  pub start : ℕ
  pub started : StartedAt r start
  pub only : (i : ℕ) → StartedAt r i → i ≡ start
  pub sum : (s : Stage) → time_in phase_at s r ≡ time_since start s r

abbrev pub TimeIsSum : Type 0
TimeIsSum = (r : Run) → Accepted r → Cycled r

-- a stage that is held has not reached its limit, and no stage of a cycle that is done has
abbrev pub HeldBelowLimit : Type 0
HeldBelowLimit = (s : Stage) (r : Run) → Accepted r → held_in s (phase_at r) ≡ true → ¬ Reached s r

abbrev pub DoneBelowLimit : Type 0
DoneBelowLimit = (s : Stage) (r : Run) → Accepted r → Done r → ¬ Reached s r

-- done, told of its moment alone, is: it began at a moment, and no cycle has started since
abbrev pub DoneSince : Type 0
DoneSince = (r : Run) → Accepted r → Done r ↔ Since (λ m. ¬ CycleStarts m) Ends r

-- and what the phases say: 5 at a moment, and since then neither a reset nor a phase but 5, 6 and 7
abbrev pub DoneByPhases : Type 0
DoneByPhases =
    (r : Run) → Accepted r → Done r ↔ Since (λ m. (was_reset m ≡ false) × (5 ≤ number_at phase_at m)) (λ m. number_at phase_at m ≡ 5) r

-- phase 5 is held where the cycle is done and nothing that comes before 5 in the order holds
abbrev pub DoneIsFive : Type 0
DoneIsFive = (r : Run) → Accepted r → Done r → Allowed r → number_at phase_at r ≡ 5

-- "Done begins, and 5 is reported": by the observation that ends the charge, in every band that charges
abbrev pub EndsInFive : Type 0
EndsInFive = (r : Run) → Accepted r → Ends r → number_at phase_at r ≡ 5

-- 02, R-1, for the operators: with VBAT at or above the charge voltage no cycle that is done starts again
abbrev pub StaysAtVoltage : Type 0
StaysAtVoltage = (r : Run) → Accepted r → WasDone r → Allowed r → AtVoltage r → (¬ CycleStarts r) × (number_at phase_at r ≡ 5)

-- 02, R-2: "The pack test group can't build a taper sample below R-1's recharge point." After no run of accepted events is there one, unless a pin fault forbids the charge anyway
abbrev pub TapersAbovePoint : Type 0
TapersAbovePoint = (r : Run) → Accepted r → ¬ PinFault r → Tapering r → ¬ BelowRecharge r

-- so the test that the rule for done has no longer would pass wherever a charge ends
abbrev pub EndsAbovePoint : Type 0
EndsAbovePoint = (r : Run) → Accepted r → Ends r → ¬ BelowRecharge r

-- none of this is of runs that no list of events leaves: every run of accepted events is left by one
abbrev pub EveryRunLeft : Type 0
EveryRunLeft = (r : Run) → Accepted r → (es : List Event) × (past_of none es ≡ some r)
