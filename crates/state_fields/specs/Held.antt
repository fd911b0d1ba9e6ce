-- What the registers hold of a field, by its row of the table; and the stored fields of a register that is written.
use Rattle.std.specs.Prelude.{ℕ, Bool, ◌&&◌, List, eqb}
use Rattle.base.specs.Pick.{pick}
use Rattle.state_parts.specs.declared.profile.Profile.{Profile}
use Rattle.state_parts.specs.declared.registers.Registers.{Registers}
use Rattle.state_parts.specs.declared.words.Words.{Words}
use Rattle.state_table.specs.Rows.{Field, fields_of, over, bit_of, digit_of, is_stored, vchg_override, cell_override, ichg_override}
use Rattle.state_fields.specs.Words.{bits_in, put_in, no_words}

-- a field's code, and the words with another code in it
abbrev pub field_in : Field → Words → ℕ
field_in f w = bits_in (bit_of f) f.width w

abbrev pub with_field : Field → ℕ → Words → Words
with_field f code w = put_in (bit_of f) f.width code w

-- a field's value, by its name
abbrev pub field_of : Field → Registers → ℕ
field_of f g = field_in f g.words

-- a field of one bit that is 1
abbrev pub is_set : Field → Registers → Bool
is_set f g = eqb (field_of f g) 1

-- some fields take these codes, one after the other, and all others stand
abbrev pub puts : (Field → Bool) → (Field → ℕ) → List Field → Words → Words
puts on code fs w = over on (λ (v : Words) (f : Field). with_field f (code f) v) fs w

-- the stored fields with these codes, and every other bit 0
unfoldable pub gathered : Profile → (Field → ℕ) → Words
gathered p code = puts (λ (f : Field). is_stored f.access) code (fields_of p) no_words

-- the stored fields of a register take their codes of a written value
unfoldable pub taken_by : Profile → ℕ → ℕ → Words → Words
taken_by p address value w =
    puts (λ (f : Field). is_stored f.access && eqb f.address address) (λ (f : Field). digit_of f value) (fields_of p) w

-- what they start with
unfoldable pub start_words : Profile → Words
start_words p = gathered p (λ (f : Field). f.reset)

-- "Register reset restores .. the resets above": those that the sheet marks; the others stand
unfoldable pub restored_by : Profile → Words → Words
restored_by p w = gathered p (λ (f : Field). pick f.restored f.reset (field_in f w))

-- "Reserved .. bits ignore writes; reserved read 0": a bit that is no stored field's is 0, so that words are what their own stored fields come to
abbrev pub same_words : Words → Words → Bool
same_words a b = eqb a.w0 b.w0 && eqb a.w1 b.w1 && eqb a.w2 b.w2 && eqb a.w3 b.w3 && eqb a.w4 b.w4

unfoldable pub words_ok : Profile → Words → Bool
words_ok p w = same_words w (gathered p (λ (f : Field). field_in f w))

-- "all three overrides clear"
unfoldable pub without_overrides : Words → Words
without_overrides w = with_field ichg_override 0 (with_field vchg_override 0 (with_field cell_override 0 w))
