-- What the functions of `image` ask, over plain values.
use Prim.Native.Nat.{ℕ, ◌-◌}
use mathlib.Core.Path.{◌≡◌, sym, ap, ◌∙◌}
use mathlib.Core.Bool.{◌&&◌}
use mathlib.Core.List.{List, [], ◌∷◌}
use native.Mathlib.Omega.{arith}
use lib.ListN.{length, take, drop, get_or, length-drop}
use lib.Seq.{sets, length-sets, take_all}
use borrow.Rule.Slice.PartMut.{put_mid}
use borrow.Author.Tests.{ne_eqb}
use Rattle.std.proofs.Math.Bool.{and_assoc}
use Rattle.base.specs.Told.{Told, refused}
use Rattle.base.specs.Writing.{put}
use Rattle.base.proofs.Puts.{put-fits, lent, sets-append}
use Rattle.state_parts.specs.declared.state.State.{State}
use Rattle.state_parts.specs.declared.state.Model.{Model}
use Rattle.state_parts.specs.declared.state.Model.TheVariants.{Off, On}
use Rattle.c_words.specs.Words.{bytes_of, word_at, words_in}
use Rattle.c_words.specs.Same.{same_bytes}
use Rattle.c_words.proofs.WordLaws.{length-bytes, sets-whole}
use Rattle.c_words.proofs.Sames.{differ}
use Rattle.c_list.specs.Back.{state_from}
use Rattle.c_list.specs.Places.{state_count}
use Rattle.c_image.specs.Images.{image_length, image_of, model_from, model_in}
use Rattle.c_image.proofs.ImageLaws.{image-long}

-- a first word, and the numbers in the rest of a part of an image's length
pub both_put : (image a b ns : List ℕ) (first : ℕ) → length image ≡ image_length → length ns ≡ state_count → a ≡ put (bytes_of (first ∷ [])) image
    → b ≡ put (bytes_of ns) (take (length a - 4) (drop 4 a)) → put_mid 4 (length a - 4) a b ≡ bytes_of (first ∷ ns)
unfolding bytes_of
both_put image a b ns first l n ea eb =
    let one : a ≡ sets image 0 (bytes_of (first ∷ [])) = ea ∙ sym (put-fits (bytes_of (first ∷ [])) image (omega arith)) in
    let long : length a ≡ image_length = ap length one ∙ length-sets image 0 (bytes_of (first ∷ [])) ∙ l in
    let all = length-bytes ns in
    rw eb (lent (bytes_of ns) a 4 (omega arith))
    ∙ ap (λ t. sets t 4 (bytes_of ns)) one
    ∙ sym (sets-append (bytes_of (first ∷ [])) (bytes_of ns) image 0)
    ∙ sets-whole (bytes_of (first ∷ ns)) image (omega (arith, length-bytes (first ∷ ns)))

-- the words of a part
pub off_is : (bytes first : List ℕ) → first ≡ words_in 1 bytes → get_or first 0 0 ≡ 0 → Off ≡ model_from bytes
unfolding model_from words_in
off_is bytes first e z = let w : word_at bytes 0 ≡ 0 = sym (ap (λ l. get_or l 0 0) e) ∙ z in rw w

pub on_is : (bytes first all : List ℕ) (s : State) → length bytes ≡ image_length → first ≡ words_in 1 bytes → (get_or first 0 0 ≡ 0 → ⊥)
    → all ≡ words_in state_count (take (length bytes - 4) (drop 4 bytes)) → s ≡ state_from all → On s ≡ model_from bytes
unfolding model_from words_in
on_is bytes first all s l e nz ea es =
    let w : word_at bytes 0 ≡ get_or first 0 0 = sym (ap (λ t. get_or t 0 0) e) in
    rw (es, ea, take_all (length bytes - 4) (drop 4 bytes) (rw length-drop (omega arith)), w, ne_eqb (get_or first 0 0) 0 nz)

-- loading: bytes of another length are no image's
pub not_long : (bytes : List ℕ) → (length bytes ≡ image_length → ⊥) → ◌≡◌ {A = Told Model} (refused 5) (model_in bytes)
unfolding model_in
not_long bytes h = rw (← differ (image_of (model_from bytes)) bytes (λ e. h (sym (ap length e) ∙ image-long (model_from bytes))))

-- comparing: a first word's bytes, and those after it
pub both_same : (bytes ns : List ℕ) (first : ℕ) → length bytes ≡ image_length
    → (same_bytes (bytes_of (first ∷ [])) (take 4 bytes) && same_bytes (bytes_of ns) (take (length bytes - 4) (drop 4 bytes))) ≡ same_bytes (bytes_of (first ∷ ns)) bytes
unfolding bytes_of same_bytes
both_same (a ∷ b ∷ c ∷ d ∷ bytes) ns first l = rw (take_all (length (a ∷ b ∷ c ∷ d ∷ bytes) - 4) bytes (omega arith)) (simp and_assoc)
both_same [] ns first l = absurd (omega arith)
both_same (a ∷ []) ns first l = absurd (omega arith)
both_same (a ∷ b ∷ []) ns first l = absurd (omega arith)
both_same (a ∷ b ∷ c ∷ []) ns first l = absurd (omega arith)
