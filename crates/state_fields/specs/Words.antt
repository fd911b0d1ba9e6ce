-- Bits of a number, and of the five words that hold the register map: the map is one number, address 0x00 lowest, so a sixteen-bit register is little-endian.
use Rattle.std.specs.Prelude.{ℕ, ◌+◌, ◌-◌, ◌*◌, ◌/◌, ◌%◌, ◌^◌, List, [], ◌∷◌, get_or, eqb}
use Rattle.base.specs.Pick.{pick}
use Rattle.state_parts.specs.declared.words.Words.{Words}

-- `width` bits from bit `at` up
abbrev pub bits_at : ℕ → ℕ → ℕ → ℕ
bits_at at width n = n / 2 ^ at % 2 ^ width

-- the number with the low bits of a code there
unfoldable pub put_at : ℕ → ℕ → ℕ → ℕ → ℕ
put_at at width code n = n - bits_at at width n * 2 ^ at + code % 2 ^ width * 2 ^ at

abbrev pub words_of : Words → List ℕ
words_of w = w.w0 ∷ w.w1 ∷ w.w2 ∷ w.w3 ∷ w.w4 ∷ []

abbrev pub no_words : Words
no_words = record { w0 = 0; w1 = 0; w2 = 0; w3 = 0; w4 = 0 }

-- the word of a number, and the words with another one at that number
abbrev pub word_at : Words → ℕ → ℕ
word_at w number = get_or (words_of w) (number % 5) 0

unfoldable pub with_word : Words → ℕ → ℕ → Words
with_word w number x = record {
  w0 = pick (eqb number 0) x w.w0;
  w1 = pick (eqb number 1) x w.w1;
  w2 = pick (eqb number 2) x w.w2;
  w3 = pick (eqb number 3) x w.w3;
  w4 = pick (eqb number 4) x w.w4;
}

-- the map's bits, and the map with other bits, in the word that has them
abbrev pub bits_in : ℕ → ℕ → Words → ℕ
bits_in at width w = bits_at (at % 64) width (word_at w (at / 64))

unfoldable pub put_in : ℕ → ℕ → ℕ → Words → Words
put_in at width code w = with_word w (at / 64) (put_at (at % 64) width code (word_at w (at / 64)))
