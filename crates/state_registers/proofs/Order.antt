-- Each refusal of a write is given exactly when its row of 01 says, in 01's order; and when a written count is taken.
use Prim.Native.Nat.{ℕ}
use mathlib.Core.Path.{◌≡◌, refl}
use mathlib.Core.Bool.{Bool, true, false, not, ◌&&◌}
use lib.Dec.{leb, eqb}
use Rattle.base.specs.Pick.{pick}
use Rattle.base.specs.Told.{accepted, refused, answer_number}
use Rattle.state_fields.specs.Held.{is_set}
use Rattle.state_table.specs.Rows.{cell_pin, cell_override, fsw, digit_of, frequency_ok}
use Rattle.state_parts.specs.declared.registers.Registers.{Registers}
use Rattle.state_parts.specs.declared.state.State.{State}
use Rattle.state_registers.specs.Writes.{known_address, count_taken, written_to, write_of}

-- "10, 5, 11 for writes"
abbrev pub refusal_of : Bool → Bool → Bool → ℕ
refusal_of unknown large bad = pick unknown 10 (pick large 5 (pick bad 11 0))

module _ (s : State) (a b : ℕ) where
  numbers : (unknown large bad : Bool) (after : State)
      → answer_number (pick unknown (refused 10) (pick large (refused 5) (pick bad (refused 11) (accepted after)))) ≡ refusal_of unknown large bad
  numbers true large bad after = refl
  numbers false true bad after = refl
  numbers false false true after = refl
  numbers false false false after = refl

  pub write-number : answer_number (write_of s a b) ≡ refusal_of (not (known_address a)) (not (leb b 255)) (eqb a 0x16 && not (frequency_ok s.profile (digit_of fsw b)))
  unfolding write_of
  write-number = numbers (not (known_address a)) (not (leb b 255)) (eqb a 0x16 && not (frequency_ok s.profile (digit_of fsw b))) (written_to s a b)

  -- a bad address is 10 before a bad byte is 5
  pub address-first : known_address a ≡ false → write_of s a b ≡ refused 10
  unfolding write_of
  address-first e = simp e

  pub then-byte : known_address a ≡ true → leb b 255 ≡ false → write_of s a b ≡ refused 5
  unfolding write_of
  then-byte e f = simp (e, f)

  pub then-frequency : known_address a ≡ true → leb b 255 ≡ true → (eqb a 0x16 && not (frequency_ok s.profile (digit_of fsw b))) ≡ true → write_of s a b ≡ refused 11
  unfolding write_of
  then-frequency e f g = simp (e, f, g)

  pub else-stored : known_address a ≡ true → leb b 255 ≡ true → (eqb a 0x16 && not (frequency_ok s.profile (digit_of fsw b))) ≡ false → write_of s a b ≡ accepted (written_to s a b)
  unfolding write_of
  else-stored e f g = simp (e, f, g)

-- "only if CELL_PIN_OVERRIDE stood before the write": whatever the byte says
pub needs-override : (g : Registers) (a b : ℕ) → is_set cell_override g ≡ false → count_taken g a b ≡ false
needs-override g a b e = by (eqb a 0x1B)
  where
    by : (t : Bool) → (t && is_set cell_override g && not (eqb (digit_of cell_pin b) 0) && not (eqb (digit_of cell_pin b) g.cells)) ≡ false
    by true = simp e
    by false = refl

-- if it stood, a byte that clears it still brings its count
pub takes-count : (g : Registers) (b : ℕ) → is_set cell_override g ≡ true → count_taken g 0x1B b ≡ (not (eqb (digit_of cell_pin b) 0) && not (eqb (digit_of cell_pin b) g.cells))
takes-count g b e = simp e
