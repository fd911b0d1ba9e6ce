-- Which bits of a run count: those of fields that a write has a part in.
use Rattle.std.specs.Prelude.{ℕ, ◌≡◌, Bool, true, false}
use Rattle.log_raw.specs.Raw.{Raw, byte_of, has_spelling}
use Rattle.state_parts.specs.declared.state.State.{State}
use Rattle.state_table.specs.Packed.{field_at}
use Rattle.state_table.specs.declared.Access.{Access}
use Rattle.state_table.specs.declared.Access.TheVariants.{Reserved, Fixed, Status, Flag, Stored, Setting, Mask, Counted, Pin, Acts}
use Rattle.state_runs.specs.Bytes.{is_written, written_code}
use Rattle.step_kinds.specs.Plain.{run_from}

-- a field that a write has a part in: it is stored, a setting, a mask, the count or a bit that acts
abbrev pub is_writable : Access → Bool
is_writable Reserved = false
is_writable (Fixed value) = false
is_writable (Status number) = false
is_writable (Flag first count) = false
is_writable Stored = true
is_writable (Setting number step) = true
is_writable (Mask first count) = true
is_writable Counted = true
is_writable (Pin number) = false
is_writable (Acts number) = true

-- two runs from an address that have the same codes in every such field
pub record Alike (first : ℕ) (one other : Raw) : Type 0 where
  pub one-spelled : has_spelling one ≡ true
  pub other-spelled : has_spelling other ≡ true
  pub long : one.count ≡ other.count
  pub codes : (i : ℕ) → is_writable (field_at i).access ≡ true → is_written first one.count (field_at i) ≡ true → written_code (byte_of one) first (field_at i) ≡ written_code (byte_of other) first (field_at i)

-- "Bytes on read-only registers are taken and change nothing"; "Reserved and read-only bits ignore writes": runs that differ in such bits alone write the same, or are refused alike
abbrev pub OnlyWrittenCount : Type 0
OnlyWrittenCount = (s : State) (first : ℕ) (one other : Raw) → Alike first one other → run_from s first one ≡ run_from s first other
