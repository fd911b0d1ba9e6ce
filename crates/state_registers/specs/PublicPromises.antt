-- What the registers' calls promise, and that each promise allows one outcome.
use Rattle.std.specs.Prelude.{ℕ, ◌≡◌, Result}
use Rattle.base.specs.Outcomes.{One}
use Rattle.base.specs.declared.refusal.Refusal.{Refusal}
use Rattle.state_parts.specs.declared.state.State.{State}
use Rattle.state_registers.specs.Writes.{write_told, write_of}
use Rattle.state_registers.specs.Resets.{reset_of}

abbrev pub WritePromise : State → ℕ → ℕ → Result State Refusal → Type 0
WritePromise s address byte r = write_told r ≡ write_of s address byte

abbrev pub ResetPromise : State → State → Type 0
ResetPromise s r = r ≡ reset_of s

-- "equal inputs allow one outcome"
pub record OneOutcome : Type 0 where
  pub write : (s : State) (address byte : ℕ) → One (WritePromise s address byte)
  pub reset : (s : State) → One (ResetPromise s)
