-- What a register reset leaves of the stored fields, by their names.
use Rattle.std.specs.Prelude.{ℕ, ◌≡◌, Bool, true, false, ◌||◌, eqb}
use Rattle.base.specs.Pick.{pick}
use Rattle.state_parts.specs.declared.state.State.{State}
use Rattle.state_fields.specs.Held.{field_of}
use Rattle.state_registers.specs.Resets.{reset_of}
use Rattle.state_table.specs.Rows.{Field, row, bit_of, is_stored}
use Rattle.state_table.specs.Packed.{field_at}
use Rattle.state_table.specs.declared.Access.TheVariants.{Stored}

abbrev pub vindpm : Field
vindpm = row 0x08 4 11 Stored 0x91 false

abbrev pub stop_wd_chg : Field
stop_wd_chg = row 0x12 1 1 Stored 0 false

-- "0x19 bit 7"
abbrev pub en_bypass_ll_exit : Field
en_bypass_ll_exit = row 0x19 7 1 Stored 1 false

abbrev pub is_left : Field → Bool
is_left f = eqb (bit_of f) (bit_of vindpm) || eqb (bit_of f) (bit_of stop_wd_chg) || eqb (bit_of f) (bit_of en_bypass_ll_exit)

-- they are the table's rows
pub record LeftRows : Type 0 where
  pub vindpm-row : field_at 13 ≡ vindpm
  pub stop-row : field_at 37 ≡ stop_wd_chg
  pub exit-row : field_at 80 ≡ en_bypass_ll_exit

-- "Register reset restores stored fields to their resets but for those that the sheet doesn't mark 'Reset by: REG_RESET' (VINDPM, STOP_WD_CHG), as 01 leaves 0x19 bit 7": those three stand, on every
-- state, and every other stored field has its reset
abbrev pub ResetLeavesThree : Type 0
ResetLeavesThree = (s : State) (i : ℕ) → is_stored (field_at i).access ≡ true
    → field_of (field_at i) (reset_of s).registers ≡ pick (is_left (field_at i)) (field_of (field_at i) s.registers) (field_at i).reset
