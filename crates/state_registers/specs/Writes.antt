-- 01, "Registers 0x15-0x1C": what a written byte leaves, and "Model order: 6, 10, 5, 11 for writes". Refusal 6 is the caller's, who has no state to write to then.
use Rattle.std.specs.Prelude.{ℕ, Bool, not, ◌&&◌, leb, eqb, Result, Ok, Err}
use Rattle.base.specs.Pick.{pick}
use Rattle.base.specs.Refusals.{refusal_number}
use Rattle.base.specs.Told.{Told, accepted, refused}
use Rattle.base.specs.Units.{in_pack}
use Rattle.base.specs.declared.refusal.Refusal.{Refusal}
use Rattle.state_table.specs.Rows.{cell_pin, cell_override, fsw, digit_of, frequency_ok}
use Rattle.state_fields.specs.Held.{is_set, taken_by}
use Rattle.state_parts.specs.Pins.{vchg_of}
use Rattle.state_parts.specs.With.{with_volts, with_settings, with_registers}
use Rattle.state_start.specs.Values.{start_vsysmin}
use Rattle.state_parts.specs.declared.profile.Profile.{Profile}
use Rattle.state_parts.specs.declared.registers.Registers.{Registers}
use Rattle.state_parts.specs.declared.settings.Settings.{Settings}
use Rattle.state_parts.specs.declared.state.State.{State}

-- a write's answer in the paper's numbers
abbrev pub write_told : Result State Refusal → Told State
write_told (Ok s) = accepted s
write_told (Err r) = refused (refusal_number r)

-- "address not 0x15-0x1C" (10)
abbrev pub known_address : ℕ → Bool
known_address address = leb 0x15 address && leb address 0x1C

-- "CELL_PIN takes a written count only if CELL_PIN_OVERRIDE stood before the write, the count is 1-7 and it differs."
abbrev pub count_taken : Registers → ℕ → ℕ → Bool
count_taken g address byte = eqb address cell_pin.address && is_set cell_override g && not (eqb (digit_of cell_pin byte) 0) && not (eqb (digit_of cell_pin byte) g.cells)

-- "Then VSYSMIN takes its start value and VREG becomes vchg x count (unchanged if vchg is 0)."
unfoldable pub recounted : Profile → ℕ → Settings → Settings
recounted p cells t = with_volts t (pick (eqb p.vchg 0) t.vreg (in_pack (vchg_of p) cells)) (start_vsysmin p cells)

-- "Reserved and read-only bits ignore writes": the stored fields of the register take their codes of the byte, and CELL_PIN its count, if it is taken
unfoldable pub written_registers : Profile → Registers → ℕ → ℕ → Registers
written_registers p g address byte = record {
  words = taken_by p address byte g.words;
  cells = pick (count_taken g address byte) (digit_of cell_pin byte) g.cells;
}

-- the state after a write that isn't refused
unfoldable pub written_to : State → ℕ → ℕ → State
written_to s address byte =
    let count = count_taken s.registers address byte in
    with_registers (with_settings s (pick count (recounted s.profile (digit_of cell_pin byte) s.settings) s.settings))
    (written_registers s.profile s.registers address byte)

-- "3 write | address, byte 0-255"; "FSW (0x16 bits 2:0) written 0 or 7"
unfoldable pub write_of : State → ℕ → ℕ → Told State
write_of s address byte =
    pick (not (known_address address)) (refused 10)
    (pick (not (leb byte 255)) (refused 5)
    (pick (eqb address fsw.address && not (frequency_ok s.profile (digit_of fsw byte))) (refused 11)
    (accepted (written_to s address byte))))
