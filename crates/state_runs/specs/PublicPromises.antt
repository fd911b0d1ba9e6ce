-- What the calls of a run promise, and that each promise allows one outcome.
use Rattle.std.specs.Prelude.{ℕ, ◌≡◌, Result}
use Rattle.base.specs.Outcomes.{One}
use Rattle.base.specs.declared.refusal.Refusal.{Refusal}
use Rattle.log_raw.specs.Struct.{raw_of}
use Rattle.log_raw.specs.declared.RawBytes.{RawBytes}
use Rattle.state_parts.specs.declared.state.State.{State}
use Rattle.state_runs.specs.Runs.{run_told, write_run_of}
use Rattle.state_runs.specs.declared.registers.Kept.{Kept}

abbrev pub RunPromise : State → ℕ → RawBytes → Result Kept Refusal → Type 0
RunPromise s first raw r = run_told s r ≡ write_run_of s first (raw_of raw)

-- "equal inputs allow one outcome"
pub record OneOutcome : Type 0 where
  pub run : (s : State) (first : ℕ) (raw : RawBytes) → One (RunPromise s first raw)
