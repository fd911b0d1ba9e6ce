-- 02, R-3: "Prove once, over a table of fields, that writing a field's bytes and sending the matching set event leave the same state".
use Rattle.std.specs.Prelude.{ℕ, ◌+◌, ◌*◌, ◌%◌, ◌^◌, ◌<◌, ◌≡◌, true, [], ◌∷◌, eqb}
use Rattle.base.specs.Pick.{pick}
use Rattle.log_raw.specs.Raw.{Raw, byte_of, has_spelling}
use Rattle.log_raw.specs.Struct.{raw_of, raw_from}
use Rattle.log_raw.specs.declared.RawBytes.{RawBytes}
use Rattle.state_parts.specs.declared.profile.Profile.{Profile}
use Rattle.state_parts.specs.declared.state.State.{State}
use Rattle.state_parts.specs.declared.state.Model.TheVariants.{On}
use Rattle.state_table.specs.Rows.{Field, bit_of, digit_of}
use Rattle.state_table.specs.Packed.{field_at}
use Rattle.state_table.specs.declared.Access.TheVariants.{Setting}
use Rattle.state_valid.specs.Holds.{state_ok}
use Rattle.state_runs.specs.Bytes.{value_in}
use Rattle.state_runs.specs.Runs.{in_middle}
use Rattle.report_registers.specs.Reads.{code_of, byte_by}
use Rattle.step_turns.specs.declared.later.Later.TheVariants.{Set, WriteRun}
use Rattle.step_turns.specs.declared.turn.Turn.TheVariants.{Follows}
use Rattle.step_kinds.specs.Plain.{set_of, run_from}
use Rattle.step_event.specs.Steps.{turned_by}

-- how many bytes the register at an address has
abbrev pub register_size : Profile → ℕ → ℕ
register_size p address = pick (in_middle p (address + 1)) 2 1

-- all bytes of one register, in which each of its fields has this code
pub record Carries (p : Profile) (code : Field → ℕ) (address : ℕ) (raw : Raw) : Type 0 where
  pub spelled : has_spelling raw ≡ true
  pub whole : raw.count ≡ register_size p address
  pub each : (i : ℕ) → (field_at i).address ≡ address → digit_of (field_at i) (value_in (byte_of raw) 0) ≡ code (field_at i) % 2 ^ (field_at i).width

-- the codes as they read, but for one field's
abbrev pub recoded : State → Field → ℕ → Field → ℕ
recoded s f code g = pick (eqb (bit_of g) (bit_of f)) code (code_of s g)

-- "a field's bytes": its register's, as they read, with its code in it
abbrev pub FieldBytes : State → Field → ℕ → Raw → Type 0
FieldBytes s f code raw = Carries s.profile (recoded s f code) f.address raw

-- The theorem: of every field that is a setting, every code and every state that holds what it may, the run of the field's bytes and the matching set write the same, or both are 9.
abbrev pub WritesAsSet : Type 0
WritesAsSet = (s : State) (i n step code : ℕ) (raw : Raw) → state_ok s ≡ true → (field_at i).access ≡ Setting n step → code < 2 ^ (field_at i).width
    → FieldBytes s (field_at i) code raw → run_from s (field_at i).address raw ≡ set_of s n (code * step)

-- and so the two events have one outcome: state, flags and pulse, or the refusal
abbrev pub TurnsAsSet : Type 0
TurnsAsSet = (s : State) (i n step code : ℕ) (raw : RawBytes) → (field_at i).access ≡ Setting n step → code < 2 ^ (field_at i).width
    → FieldBytes s (field_at i) code (raw_of raw) → turned_by (On s) (Follows (WriteRun (field_at i).address raw)) ≡ turned_by (On s) (Follows (Set n (code * step)))

-- Bytes that would be read if the fields had these codes carry them: `byte_by` with `code_of s` is what is read.
abbrev pub ReadBytesCarry : Type 0
ReadBytesCarry = (p : Profile) (code : Field → ℕ) (i : ℕ) (raw : Raw) → has_spelling raw ≡ true → raw.count ≡ register_size p (field_at i).address
    → ((k : ℕ) → k < raw.count → byte_of raw k ≡ byte_by p code ((field_at i).address + k)) → Carries p code (field_at i).address raw

-- The bytes themselves: a register's, as they would be read if its fields had these codes. "Sixteen-bit registers are little-endian".
abbrev pub register_bytes : Profile → (Field → ℕ) → ℕ → RawBytes
register_bytes p code address =
    let upper = pick (in_middle p (address + 1)) (byte_by p code (address + 1)) 0 in
    raw_from (register_size p address) ((byte_by p code address + 256 * upper) ∷ [])

-- so the theorem said of them, with nothing left to suppose: of every state, every field that is a setting, and every code
abbrev pub ReadBytesAsSet : Type 0
ReadBytesAsSet = (s : State) (i n step code : ℕ) → (field_at i).access ≡ Setting n step → code < 2 ^ (field_at i).width
    → turned_by (On s) (Follows (WriteRun (field_at i).address (register_bytes s.profile (recoded s (field_at i) code) (field_at i).address)))
    ≡ turned_by (On s) (Follows (Set n (code * step)))
