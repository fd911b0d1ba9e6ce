-- What a register reset leaves, and what it restores.
use Prim.Native.Nat.{ℕ, ◌%◌, ◌^◌, ◌<◌}
use mathlib.Core.Path.{◌≡◌, refl}
use Rattle.base.specs.Pick.{pick}
use Rattle.state_fields.specs.Held.{field_in, field_of, restored_by}
use Rattle.state_fields.proofs.Gathers.{nth, stored, gathered-field}
use Rattle.state_table.specs.Rows.{Field}
use Rattle.state_parts.specs.declared.state.State.{State}
use Rattle.state_registers.specs.Resets.{reset_registers, reset_of}

module _ (s : State) where
  -- "it leaves pin codes": those of the profile, and the CELL_PIN held now
  pub leaves-codes : ((reset_of s).profile ≡ s.profile) × ((reset_of s).registers.cells ≡ s.registers.cells)
  unfolding reset_of reset_registers
  leaves-codes = (refl, refl)

  -- "flags"
  pub leaves-flags : (reset_of s).flags ≡ s.flags
  unfolding reset_of
  leaves-flags = refl

  -- "comparators"
  pub leaves-latches : (reset_of s).latches ≡ s.latches
  unfolding reset_of
  leaves-latches = refl

  -- "and 0x19 bit 7", and the other stored fields that the sheet doesn't mark: all others have their resets
  pub leaves-fields : (i : ℕ) → i < 147 → field_of (nth i) (reset_of s).registers ≡ pick (stored (nth i)) (pick (nth i).restored (nth i).reset (field_of (nth i) s.registers) % 2 ^ (nth i).width) 0
  unfolding reset_of reset_registers restored_by
  leaves-fields i h = gathered-field s.profile (λ (f : Field). pick f.restored f.reset (field_in f s.registers.words)) i h
