-- The header: "a head holds the model as an image, a plain array of bytes of its own".
use Rattle.std.specs.Prelude.{ℕ, zero, suc, ◌+◌, ◌*◌, Bool, List, [], ◌∷◌, length, drop, eqb, Option, Some, None}
use Rattle.base.specs.Pick.{pick}
use Rattle.base.specs.Told.{Told, accepted, refused}
use Rattle.state_parts.specs.declared.state.Model.{Model}
use Rattle.state_parts.specs.declared.state.Model.TheVariants.{Off, On}
use Rattle.c_words.specs.Words.{bytes_of, word_at, words_in}
use Rattle.c_words.specs.Same.{same_bytes}
use Rattle.c_list.specs.Places.{state_count}
use Rattle.c_list.specs.Numbers.{state_numbers}
use Rattle.c_list.specs.Back.{state_from}

abbrev pub zeros : ℕ → List ℕ
zeros zero = []
zeros (suc k) = 0 ∷ zeros k

-- "CHEUKDANE_FORMAT": the number of this list of numbers, and of the rules that make them: a landing that changes the list, or what a log means, gives it another. It is never 0.
abbrev pub image_format : ℕ
image_format = 8

-- "58 words. Word 0 is 0 before a power-on, and then all other words are 0 too; after it, it is the format's number, CHEUKDANE_FORMAT, and the state's numbers follow".
abbrev pub model_numbers : Model → List ℕ
model_numbers Off = 0 ∷ zeros state_count
model_numbers (On s) = image_format ∷ state_numbers s

unfoldable pub image_of : Model → List ℕ
image_of m = bytes_of (model_numbers m)

-- the model that bytes would be the image of
unfoldable pub model_from : List ℕ → Model
model_from bytes = pick (eqb (word_at bytes 0) 0) Off (On (state_from (words_in state_count (drop 4 bytes))))

-- "bytes that aren't an image, or are of another length .., are 5": bytes are an image if and only if they are the image of the model that they would be
unfoldable pub model_in : List ℕ → Told Model
model_in bytes = pick (same_bytes (image_of (model_from bytes)) bytes) (accepted (model_from bytes)) (refused 5)

abbrev pub loaded_told : Option Model → Told Model
loaded_told (Some m) = accepted m
loaded_told None = refused 5

-- four bytes to a word: the first word's and those of the state's numbers
abbrev pub image_length : ℕ
image_length = 4 + state_count * 4

-- whether a part is as long as an image
abbrev pub is_long : List ℕ → Bool
is_long bytes = eqb (length bytes) image_length

-- a part that a model's image was saved in: a part of another length stays as it was
unfoldable pub saved_in : List ℕ → Model → List ℕ
saved_in bytes m = pick (is_long bytes) (image_of m) bytes
