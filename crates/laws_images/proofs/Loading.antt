-- What loads is a model that can be stored: its numbers are words of bytes.
use Prim.Native.Nat.{ℕ, zero, suc, ◌/◌, ◌%◌, ◌^◌, ◌<◌, ◌+◌, ◌*◌}
use mathlib.Core.Path.{◌≡◌, sym, subst}
use mathlib.Core.Bool.{Bool, true, false}
use mathlib.Core.List.{List, [], ◌∷◌}
use native.Mathlib.Omega.{arith}
use lib.Dec.{eqb}
use lib.ListN.{drop, get_or}
use Rattle.base.specs.Pick.{pick, bit_of}
use Rattle.base.specs.Told.{accepted, refused}
use Rattle.log_number.specs.Promises.{Bytes}
use Rattle.state_parts.specs.declared.state.Model.{Model}
use Rattle.state_parts.specs.declared.state.Model.TheVariants.{Off, On}
use Rattle.log_number.proofs.SignLaws.{signs}
use Rattle.log_number.proofs.Strings.{bytes_drop}
use Rattle.state_settings.specs.Numbered.{setting_numbers}
use Rattle.c_words.specs.Words.{bytes_of, word_at, words_in}
use Rattle.c_words.specs.Promises.{AllWords}
use Rattle.c_words.specs.Same.{same_bytes}
use Rattle.c_list.specs.Back.{state_from}
use Rattle.c_list.specs.Places.{state_count}
use Rattle.c_image.specs.Images.{model_numbers, image_of, model_from, model_in}
use Rattle.c_image.specs.Promises.{Storable}
use Rattle.c_image.proofs.ImageLaws.{one-image}
use Rattle.laws_images.specs.Promises.{LoadedStorable}
use Rattle.laws_images.proofs.Fitting.{bit-fits, fits, each, Fitting, all_fit}

-- bytes of words are bytes, and words of bytes are words
four_bytes : (n : ℕ) (s : List ℕ) → Bytes s → Bytes (n % 256 ∷ n / 256 % 256 ∷ n / 65536 % 256 ∷ n / 16777216 % 256 ∷ s)
four_bytes n s h zero = omega arith
four_bytes n s h (suc zero) = omega arith
four_bytes n s h (suc (suc zero)) = omega arith
four_bytes n s h (suc (suc (suc zero))) = omega arith
four_bytes n s h (suc (suc (suc (suc i)))) = h i

no-bytes : Bytes []
no-bytes i = omega arith

all-bytes : (ns : List ℕ) → Bytes (bytes_of ns)
unfolding bytes_of
all-bytes [] = no-bytes
all-bytes (n ∷ ns) = four_bytes n (bytes_of ns) (all-bytes ns)

word_fits : (s : List ℕ) → Bytes s → word_at s 0 < 2 ^ 32
unfolding word_at
word_fits s h = omega (arith, h 0, h 1, h 2, h 3)

pub all_words : (k : ℕ) (s : List ℕ) → Bytes s → AllWords (words_in k s)
unfolding words_in
all_words zero s h = tt
all_words (suc k) s h = (word_fits s h, all_words k (drop 4 s) (bytes_drop 4 s h))

-- a state that is made of words
module _ (all : List ℕ) (words : AllWords all) where
  word : (i : ℕ) → get_or all i 0 < 2 ^ 32
  word i = each all words i

  bit : (i : ℕ) → bit_of (eqb (get_or all i 0) 1) < 2 ^ 32
  bit i = bit-fits (eqb (get_or all i 0) 1)

  -- the halves of a word that was made of two numbers
  low : (i : ℕ) → (get_or all i 0 + get_or all (i + 1) 0 * 0x100000000) % 0x100000000 < 2 ^ 32
  low i = omega arith

  high : (i : ℕ) → (get_or all i 0 + get_or all (i + 1) 0 * 0x100000000) / 0x100000000 < 2 ^ 32
  high i = let a = word i in let b = word (i + 1) in omega arith

  made-fits : Fitting (state_from all)
  unfolding state_from setting_numbers
  made-fits = record {
    profile = fits (word 0, (word 1, (word 2, (word 3, (word 4, (word 5, (word 6, (word 7, (word 8, (word 9, (word 10, tt)))))))))));
    settings = fits (word 11, (word 12, (word 13, (word 14, (word 15, (word 16, (word 17, (word 18, (bit 19, (bit 20, (bit 21, (bit 22, (bit 23, (word 24, tt))))))))))))));
    registers = fits (low 25, (high 25, (low 27, (high 27, (low 29, (high 29, (low 31, (high 31, (low 33, (high 33, (word 35, tt)))))))))));
    cycle = fits (word 41, (word 42, (word 43, (bit 44, tt))));
    watchdog = fits (word 45, tt);
    sample = rw (signs.again (get_or all 49 0)) (fits (word 46, (word 47, (word 48, (word 49, (word 50, (word 51, (word 52, tt))))))));
    flags = omega arith;
  }

  made-storable : Storable (On (state_from all))
  unfolding state_from
  made-storable = (all_fit (state_from all) made-fits, omega arith)

from-storable : (bytes : List ℕ) → Bytes bytes → Storable (model_from bytes)
unfolding model_from
from-storable bytes h = go (eqb (word_at bytes 0) 0)
  where
    all : List ℕ
    all = words_in state_count (drop 4 bytes)

    go : (off : Bool) → Storable (pick off Off (On (state_from all)))
    go true = tt
    go false = made-storable all (all_words state_count (drop 4 bytes) (bytes_drop 4 bytes h))

-- what loads was made from the bytes
loads-from : (bytes : List ℕ) (m : Model) → model_in bytes ≡ accepted m → model_from bytes ≡ m
unfolding model_in
loads-from bytes m e = go (same_bytes (image_of (model_from bytes)) bytes) (model_from bytes) e
  where
    go : (t : Bool) (n : Model) → pick t (accepted n) (refused 5) ≡ accepted m → n ≡ m
    go true n e = cc
    go false n e = absurd (let z : ◌≡◌ {A = ℕ} 0 1 = cc in omega arith)

image-bytes : (m : Model) → Bytes (image_of m)
unfolding image_of
image-bytes m = all-bytes (model_numbers m)

pub loaded-storable : LoadedStorable
loaded-storable image m e =
    let bytes : Bytes image = subst Bytes (sym (one-image image m e)) (image-bytes m) in
    subst Storable (loads-from image m e) (from-storable image bytes)
