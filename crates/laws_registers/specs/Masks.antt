-- The theorem of R-3 for the masks: "the mask bits of one register together, as one field: its matching set is set 14 with the value that the whole byte stands for".
use Rattle.std.specs.Prelude.{ℕ, ◌+◌, ◌*◌, ◌/◌, ◌%◌, ◌^◌, ◌≡◌, true}
use Rattle.log_raw.specs.Raw.{Raw, byte_of}
use Rattle.log_raw.specs.Struct.{raw_of}
use Rattle.log_raw.specs.declared.RawBytes.{RawBytes}
use Rattle.state_fields.specs.Held.{field_of}
use Rattle.state_fields.specs.Words.{put_at}
use Rattle.state_parts.specs.With.{with_settings}
use Rattle.state_parts.specs.declared.state.State.{State}
use Rattle.state_parts.specs.declared.state.Model.TheVariants.{On}
use Rattle.state_settings.specs.Numbered.{store_of}
use Rattle.state_table.specs.Rows.{Field, row, digit_of, is_stored}
use Rattle.state_table.specs.Packed.{field_at}
use Rattle.state_table.specs.declared.Access.TheVariants.{Mask}
use Rattle.state_valid.specs.Holds.{state_ok}
use Rattle.step_turns.specs.declared.later.Later.TheVariants.{Set, WriteRun}
use Rattle.step_turns.specs.declared.turn.Turn.TheVariants.{Follows}
use Rattle.step_kinds.specs.Changes.{changed}
use Rattle.step_kinds.specs.declared.change.Way.TheVariants.{Plain}
use Rattle.step_kinds.specs.Plain.{set_of, run_from}
use Rattle.step_event.specs.Steps.{turned_by}
use Rattle.laws_registers.specs.Bytes.{OneByte}
use Rattle.laws_registers.specs.Fields.{FieldBytes}

abbrev pub bit_at : ℕ → ℕ → ℕ
bit_at k byte = byte / 2 ^ k % 2

-- "0x22 and 0x23 are setting 14's bits: PG 0 and 1, IINDPM 2, VINDPM 3, TREG 4, WD 5, CHARGE 6, TS 7": the value that a byte at 0x22 stands for, the bits of 0x23 as they are held
abbrev pub masks_low : ℕ → ℕ → ℕ
masks_low byte held =
    held / 256 * 256 + bit_at 7 byte * 3 + bit_at 6 byte * 4 + bit_at 5 byte * 8 + bit_at 4 byte * 16 + bit_at 3 byte * 32 + bit_at 0 byte * 64 + bit_at 1 byte * 128

-- "VIN_OVP 8, TSHUT 9, BAT_FAULT 10, CHG_TMR 11": the value that a byte at 0x23 stands for
abbrev pub masks_high : ℕ → ℕ → ℕ
masks_high byte held = held % 256 + bit_at 7 byte * 256 + bit_at 3 byte * 512 + bit_at 6 byte * 1024 + bit_at 5 byte * 2048

-- one byte, whose bits that are only stored (ICO_MASK, REV_MASK, BYPASS_MASK, CV_TMR_MASK) are as they are held
pub record MaskByte (s : State) (address : ℕ) (raw : Raw) : Type 0 where
  pub one : OneByte raw
  pub stored : (i : ℕ) → (field_at i).address ≡ address → is_stored (field_at i).access ≡ true → digit_of (field_at i) (byte_of raw 0) ≡ field_of (field_at i) s.registers

pub record MasksAsSet : Type 0 where
  pub low : (s : State) (raw : Raw) → state_ok s ≡ true → MaskByte s 0x22 raw → run_from s 0x22 raw ≡ set_of s 14 (masks_low (byte_of raw 0) s.settings.masks)
  pub high : (s : State) (raw : Raw) → state_ok s ≡ true → MaskByte s 0x23 raw → run_from s 0x23 raw ≡ set_of s 14 (masks_high (byte_of raw 0) s.settings.masks)

-- and so the two events have one outcome: state, flags and pulse
pub record MasksTurnAsSet : Type 0 where
  pub low : (s : State) (raw : RawBytes) → MaskByte s 0x22 (raw_of raw)
      → turned_by (On s) (Follows (WriteRun 0x22 raw)) ≡ turned_by (On s) (Follows (Set 14 (masks_low (byte_of (raw_of raw) 0) s.settings.masks)))
  pub high : (s : State) (raw : RawBytes) → MaskByte s 0x23 (raw_of raw)
      → turned_by (On s) (Follows (WriteRun 0x23 raw)) ≡ turned_by (On s) (Follows (Set 14 (masks_high (byte_of (raw_of raw) 0) s.settings.masks)))

-- CHARGE_MASK, as its row of the table has it
abbrev pub charge_mask : Field
charge_mask = row 0x22 0 1 (Mask 6 1) 0 true

-- bits 0 and 1 of setting 14 differ
abbrev pub Differ : State → Type 0
Differ s = bit_at 0 s.settings.masks ≡ bit_at 1 s.settings.masks → ⊥

-- "By single mask fields it is false where bits 0 and 1 differ": on no such state is a run of CHARGE_MASK's bytes the set of bit 6 alone, for PG_MASK in the same byte sets both bits alike
abbrev pub NotSingleMasks : Type 0
NotSingleMasks = (s : State) (code : ℕ) (raw : Raw) → state_ok s ≡ true → Differ s → FieldBytes s charge_mask code raw
    → run_from s 0x22 raw ≡ set_of s 14 (put_at 6 1 code s.settings.masks) → ⊥

-- and there are such states: a set of 14 to 1 leads to one from anywhere
abbrev pub MasksMayDiffer : Type 0
MasksMayDiffer = (s : State) → state_ok s ≡ true → let t = with_settings s (store_of s.settings 14 1) in (set_of s 14 1 ≡ changed t Plain) × (state_ok t ≡ true) × Differ t
