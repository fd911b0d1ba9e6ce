-- 01, "One observation, in order": when a stage's limit is reached.
use Rattle.std.specs.Prelude.{ℕ, Bool, not, ◌&&◌, ◌||◌, leb, eqb}
use Rattle.state_parts.specs.Stages.{limit_units}
use Rattle.state_parts.specs.declared.cycle.Cycle.{Cycle}
use Rattle.state_parts.specs.declared.profile.Profile.{Profile}

-- "A limit of s seconds is reached at 2,000s units; a limit 0 counts nothing."
abbrev pub limit_reached : ℕ → ℕ → Bool
limit_reached limit units = not (eqb limit 0) && leb (limit_units limit) units

-- "a stage limit reached"
unfoldable pub reached_of : Profile → Cycle → Bool
reached_of p c = limit_reached p.trickle c.trickle || limit_reached p.precharge c.precharge || limit_reached p.fast c.fast
