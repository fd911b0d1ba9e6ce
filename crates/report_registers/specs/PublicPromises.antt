-- What the calls promise, and that each promise allows one outcome.
use Rattle.std.specs.Prelude.{ℕ, ◌≡◌, Result}
use Rattle.base.specs.Outcomes.{One}
use Rattle.base.specs.declared.refusal.Refusal.{Refusal}
use Rattle.state_parts.specs.declared.state.State.{State}
use Rattle.state_parts.specs.declared.state.Model.{Model}
use Rattle.report_registers.specs.Reads.{register_told, read_of, read_register_of}

abbrev pub ReadPromise : State → ℕ → ℕ → Type 0
ReadPromise s address r = r ≡ read_of s address

abbrev pub ReadRegisterPromise : Model → ℕ → Result ℕ Refusal → Type 0
ReadRegisterPromise m address r = register_told r ≡ read_register_of m address

-- "equal inputs allow one outcome"
pub record OneOutcome : Type 0 where
  pub read : (s : State) (address : ℕ) → One (ReadPromise s address)
  pub read-register : (m : Model) (address : ℕ) → One (ReadRegisterPromise m address)
