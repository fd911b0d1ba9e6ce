-- 01, "One observation, in order": the stages of a charge, which phase is in which, and a stage's limit in units.
use Rattle.std.specs.Prelude.{ℕ, ◌*◌, Bool, ◌&&◌, ◌||◌, leb, eqb}
use Rattle.state_parts.specs.Numbers.{phase_number}
use Rattle.state_parts.specs.declared.phase.Phase.{Phase}

-- "trickle, precharge; fast and taper share one"
abbrev pub in_trickle : Phase → Bool
in_trickle phase = eqb (phase_number phase) 1

abbrev pub in_precharge : Phase → Bool
in_precharge phase = eqb (phase_number phase) 2

abbrev pub in_fast : Phase → Bool
in_fast phase = eqb (phase_number phase) 3 || eqb (phase_number phase) 4

-- "Phases 1-4"
abbrev pub charging : Phase → Bool
charging phase = leb 1 (phase_number phase) && leb (phase_number phase) 4

-- "A limit of s seconds is reached at 2,000s units"
abbrev pub limit_units : ℕ → ℕ
limit_units seconds = seconds * 2000
