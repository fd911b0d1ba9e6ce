-- What a write leaves in each field: a stored field of the written register has its code of the byte, and every other field stands.
use Prim.Native.Nat.{ℕ, ◌<◌}
use mathlib.Core.Path.{◌≡◌}
use mathlib.Core.Bool.{true, ◌&&◌}
use lib.Dec.{eqb}
use Rattle.base.specs.Pick.{pick}
use Rattle.state_fields.specs.Held.{field_of, words_ok}
use Rattle.state_fields.proofs.Gathers.{nth, stored}
use Rattle.state_fields.proofs.Taken.{sound-whole, taken-field}
use Rattle.state_parts.specs.declared.state.State.{State}
use Rattle.state_table.specs.Rows.{digit_of}
use Rattle.state_registers.specs.Writes.{written_registers, written_to}

pub written-field : (s : State) → words_ok s.profile s.registers.words ≡ true → (a b i : ℕ) → i < 147
    → field_of (nth i) (written_to s a b).registers ≡ pick (stored (nth i) && eqb (nth i).address a) (digit_of (nth i) b) (field_of (nth i) s.registers)
unfolding written_to written_registers
written-field s ok a b i h = taken-field s.profile a b s.registers.words (sound-whole s.profile s.registers.words ok) i h
