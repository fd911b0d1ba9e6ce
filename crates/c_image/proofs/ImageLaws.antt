-- Images: load after save is the model, one image each, and no image of another format.
use Prim.Native.Nat.{ℕ, suc}
use mathlib.Core.Path.{◌≡◌, refl, sym, ap, ◌∙◌}
use mathlib.Core.Bool.{Bool, true, false}
use mathlib.Core.List.{List, ◌∷◌}
use native.Mathlib.Omega.{arith}
use lib.ListN.{length, drop}
use Rattle.base.specs.Pick.{pick}
use Rattle.base.specs.Told.{Told, accepted, refused}
use Rattle.state_parts.specs.declared.state.State.{State}
use Rattle.state_parts.specs.declared.state.Model.{Model}
use Rattle.state_parts.specs.declared.state.Model.TheVariants.{Off, On}
use Rattle.c_words.specs.Words.{bytes_of, word_at, words_in}
use Rattle.c_words.specs.Same.{same_bytes}
use Rattle.c_words.proofs.WordLaws.{length-bytes, reads-back}
use Rattle.c_words.proofs.Sames.{same-told}
use Rattle.c_list.specs.Numbers.{state_numbers}
use Rattle.c_list.proofs.Lengths.{state-long}
use Rattle.c_list.proofs.Again.{made_again}
use Rattle.c_list.specs.Places.{state_count}
use Rattle.c_image.specs.Images.{image_format, image_length, model_numbers, image_of, model_from, model_in}
use Rattle.c_image.specs.Promises.{Storable, LoadsBack, OneImage, ImageLong, ImagesDiffer, FormatNotZero, OffIsZeros, OtherFormat, OlderFormat}

pub format-not-zero : FormatNotZero
format-not-zero e = omega arith

numbers-long : (m : Model) → length (model_numbers m) ≡ suc state_count
numbers-long Off = refl
numbers-long (On s) = let e = state-long s in omega arith

pub image-long : ImageLong
unfolding image_of
image-long m = let e = numbers-long m in length-bytes (model_numbers m) ∙ omega arith

-- the words of a model's image make the model
from-off : model_from (image_of Off) ≡ Off
unfolding model_from image_of bytes_of word_at
from-off = refl

first_word : (n : ℕ) (ns : List ℕ) (e : words_in (length (n ∷ ns)) (bytes_of (n ∷ ns)) ≡ n ∷ ns) → word_at (bytes_of (n ∷ ns)) 0 ≡ n
unfolding words_in
first_word n ns e = cc

rest-words : (n : ℕ) (ns : List ℕ) (e : words_in (length (n ∷ ns)) (bytes_of (n ∷ ns)) ≡ n ∷ ns) → words_in (length ns) (drop 4 (bytes_of (n ∷ ns))) ≡ ns
unfolding words_in
rest-words n ns e = cc

from_on : (s : State) → Storable (On s) → model_from (image_of (On s)) ≡ On s
unfolding model_from image_of
from_on s h =
    let all : List ℕ = state_numbers s in
    let e = reads-back (image_format ∷ all) (omega arith, h.0) in
    let words : words_in state_count (drop 4 (bytes_of (image_format ∷ all))) ≡ all = ap (λ k. words_in k (drop 4 (bytes_of (image_format ∷ all)))) (sym (state-long s)) ∙ rest-words image_format all e in
    rw (first_word image_format all e, words, made_again s h.1)

from-image : (m : Model) → Storable m → model_from (image_of m) ≡ m
from-image Off h = from-off
from-image (On s) h = from_on s h

pub loads-back : LoadsBack
unfolding model_in
loads-back m h = rw (from-image m h, same-told.holds (image_of m))

told-one : (t : Bool) (bytes image : List ℕ) (m n : Model) → (t ≡ true → image ≡ bytes) → image ≡ image_of n → pick t (accepted n) (refused 5) ≡ accepted m → bytes ≡ image_of m
told-one true bytes image m n same is e = let q : n ≡ m = cc in sym (same refl) ∙ is ∙ ap image_of q
told-one false bytes image m n same is e = absurd (let z : ◌≡◌ {A = ℕ} 0 1 = cc in omega arith)

pub one-image : OneImage
unfolding model_in
one-image bytes m e = told-one (same_bytes (image_of (model_from bytes)) bytes) bytes (image_of (model_from bytes)) m (model_from bytes) (same-told.told (image_of (model_from bytes)) bytes) refl e

-- what loads has an image's length
pub loaded-long : (bytes : List ℕ) (m : Model) → model_in bytes ≡ accepted m → length bytes ≡ image_length
loaded-long bytes m e = ap length (one-image bytes m e) ∙ image-long m

pub images-differ : ImagesDiffer
images-differ m n hm hn e =
    let told : accepted m ≡ accepted n = sym (loads-back m hm) ∙ ap model_in e ∙ loads-back n hn in
    cc

pub off-is-zeros : OffIsZeros
unfolding image_of bytes_of
off-is-zeros = refl

-- the first word of a model's image
image-first : (m : Model) → (word_at (image_of m) 0 ≡ 0 → ⊥) → (word_at (image_of m) 0 ≡ image_format → ⊥) → ⊥
unfolding image_of bytes_of word_at
image-first Off off other = off refl
image-first (On s) off other = other refl

told-other : (t : Bool) (bytes image : List ℕ) (m : Model) → (t ≡ true → image ≡ bytes) → image ≡ image_of m → (word_at bytes 0 ≡ 0 → ⊥) → (word_at bytes 0 ≡ image_format → ⊥)
    → ◌≡◌ {A = Told Model} (pick t (accepted m) (refused 5)) (refused 5)
told-other true bytes image m same is off other =
    let e : image_of m ≡ bytes = sym is ∙ same refl in
    absurd (image-first m (λ z. off (ap (λ b. word_at b 0) (sym e) ∙ z)) (λ z. other (ap (λ b. word_at b 0) (sym e) ∙ z)))
told-other false bytes image m same is off other = refl

pub other_format : OtherFormat
unfolding model_in
other_format bytes off other =
    let m = model_from bytes in
    told-other (same_bytes (image_of m) bytes) bytes (image_of m) m (same-told.told (image_of m) bytes) refl off other

pub older-format : OlderFormat
older-format bytes off older = other_format bytes off (λ e. omega (arith, older, e))
