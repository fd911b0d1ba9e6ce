-- What a run that isn't refused leaves, before a reset or service bit acts and before it settles: field by field what was written, and nothing else.
use Rattle.std.specs.Prelude.{ℕ, ◌-◌, ◌*◌, ◌^◌, ◌≡◌, Bool, true, false, ◌&&◌, ◌⊎◌, eqb}
use Rattle.base.specs.Pick.{pick}
use Rattle.base.specs.Told.{accepted}
use Rattle.base.specs.Units.{in_pack}
use Rattle.base.specs.Volts.{millivolts_of}
use Rattle.log_raw.specs.Raw.{Raw, byte_of}
use Rattle.state_fields.specs.Held.{field_of}
use Rattle.state_fields.specs.Words.{bits_at}
use Rattle.state_parts.specs.Pins.{vchg_of}
use Rattle.state_parts.specs.With.{with_settings, with_registers}
use Rattle.state_parts.specs.declared.state.State.{State}
use Rattle.state_registers.specs.Writes.{count_taken}
use Rattle.state_settings.specs.Numbered.{held_of}
use Rattle.state_start.specs.Values.{start_vsysmin}
use Rattle.state_table.specs.Rows.{cell_pin, is_stored}
use Rattle.state_table.specs.Packed.{field_at}
use Rattle.state_table.specs.declared.Access.TheVariants.{Setting, Mask}
use Rattle.state_valid.specs.Holds.{state_ok}
use Rattle.state_runs.specs.Bytes.{value_in, is_written, written_code}
use Rattle.state_runs.specs.Runs.{write_run_of}

-- "CELL_PIN takes a written count only if CELL_PIN_OVERRIDE stood before the write, the count is 1-7 and it differs": this run has such a count
abbrev pub takes_count : State → ℕ → Raw → Bool
takes_count s first raw = is_written first raw.count cell_pin && count_taken s.registers cell_pin.address (value_in (byte_of raw) (cell_pin.address - first))

pub record LeavesAsWritten (s : State) (first : ℕ) (raw : Raw) (t : State) : Type 0 where
  -- "other fields are only stored": each stored field of the run has its code, every other stands
  pub stored : (i : ℕ) → is_stored (field_at i).access ≡ true
      → field_of (field_at i) t.registers ≡ pick (is_written first raw.count (field_at i)) (written_code (byte_of raw) first (field_at i)) (field_of (field_at i) s.registers)
  -- each field that is a setting has its code's value, every other stands; but VREG and VSYSMIN by the CELL_PIN rule, where a count is taken
  pub settings : (i n step : ℕ) → (field_at i).access ≡ Setting n step → (takes_count s first raw ≡ false) ⊎ (((n ≡ 1 → ⊥) ⊎ (s.profile.vchg ≡ 0)) × (n ≡ 6 → ⊥))
      → held_of t.settings n ≡ pick (is_written first raw.count (field_at i)) (written_code (byte_of raw) first (field_at i) * step) (held_of s.settings n)
  -- "PG_MASK .. a write sets both": the bits of each mask of the run are all its code, those of every other stand
  pub masks : (i from count : ℕ) → (field_at i).access ≡ Mask from count
      → bits_at from count t.settings.masks
      ≡ pick (is_written first raw.count (field_at i)) (pick (eqb (written_code (byte_of raw) first (field_at i)) 0) 0 (2 ^ count - 1)) (bits_at from count s.settings.masks)
  -- "Then VSYSMIN takes its start value and VREG becomes vchg x count (unchanged if vchg is 0)": unchanged is as the run wrote it, or as it stood
  pub vsysmin : takes_count s first raw ≡ true → held_of t.settings 6 ≡ millivolts_of (start_vsysmin s.profile t.registers.cells)
  pub vreg : takes_count s first raw ≡ true → (s.profile.vchg ≡ 0 → ⊥) → held_of t.settings 1 ≡ millivolts_of (in_pack (vchg_of s.profile) t.registers.cells)
  -- nothing beside settings and registers moves
  pub others : t ≡ with_registers (with_settings s t.settings) t.registers
  -- the count
  pub cells : t.registers.cells ≡ pick (takes_count s first raw) (written_code (byte_of raw) first cell_pin) s.registers.cells

abbrev pub RunsReadBack : Type 0
RunsReadBack = (s : State) (first : ℕ) (raw : Raw) (t : State) → state_ok s ≡ true → write_run_of s first raw ≡ accepted t → LeavesAsWritten s first raw t
