-- What settling leaves of what a run wrote.
use Rattle.std.specs.Prelude.{ℕ, ◌≤◌, ◌≡◌, Bool}
use Rattle.base.specs.Pick.{pick}
use Rattle.settle_all.specs.Settle.{settle_of}
use Rattle.settle_levels.specs.Clamps.{fault_of}
use Rattle.state_parts.specs.declared.state.State.{State}
use Rattle.state_settings.specs.Numbered.{held_of}
use Rattle.state_settings.specs.Ranges.{last_setting}

-- "Pin fault .. forces EN_CHG 0": of stored fields, the count and settings, settling moves EN_CHG alone, setting 9, and that where a pin fault stands
pub record SettlingLeaves (s : State) (observed : Bool) : Type 0 where
  pub registers : (settle_of s observed).registers ≡ s.registers
  pub others : (n : ℕ) → 1 ≤ n → n ≤ last_setting → (n ≡ 9 → ⊥) → held_of (settle_of s observed).settings n ≡ held_of s.settings n
  pub enable : held_of (settle_of s observed).settings 9 ≡ pick (fault_of s.profile s.registers) 0 (held_of s.settings 9)

abbrev pub SettlingMovesEnable : Type 0
SettlingMovesEnable = (s : State) (observed : Bool) → SettlingLeaves s observed
