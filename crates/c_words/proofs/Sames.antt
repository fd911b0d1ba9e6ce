-- The test for the bytes of words: what it says, and what its loop asks.
use Prim.Native.Nat.{ℕ, suc, ◌+◌, ◌*◌, ◌/◌, ◌%◌, ◌^◌, ◌≤◌, ◌<◌}
use mathlib.Core.Path.{◌≡◌, refl, sym, ap, ◌∙◌}
use mathlib.Core.Bool.{Bool, true, false, ◌&&◌, false≢true}
use mathlib.Core.List.{List, [], ◌∷◌}
use native.Mathlib.Omega.{arith}
use lib.Dec.{eqb}
use lib.ListN.{length, drop, get_or, drop_of_length-le}
use lib.Seq.{drop-cons}
use borrow.Author.Tests.{eq-eqb}
use Rattle.base.proofs.Tests.{eqb-iff, and-iff}
use Rattle.c_words.specs.Same.{same_bytes}
use Rattle.c_words.specs.Words.{bytes_of, word_at}
use Rattle.c_words.specs.Promises.{SameTold}
use Rattle.c_words.proofs.WordLaws.{length-bytes, four-of, word-drop, word_next}

same_head : (x y : ℕ) (xs ys : List ℕ) (rest : Bool) → (rest ≡ true → xs ≡ ys) → (eqb x y && rest) ≡ true → x ∷ xs ≡ y ∷ ys
same_head x y xs ys rest ih e =
    let both = (and-iff (eqb x y) rest).0 e in
    let head : x ≡ y = (eqb-iff x y).0 both.0 in
    ap (λ n. n ∷ xs) head ∙ ap (λ l. y ∷ l) (ih both.1)

told : (a b : List ℕ) → same_bytes a b ≡ true → a ≡ b
unfolding same_bytes
told [] [] e = refl
told [] (y ∷ ys) e = absurd (false≢true e)
told (x ∷ xs) [] e = absurd (false≢true e)
told (x ∷ xs) (y ∷ ys) e = same_head x y xs ys (same_bytes xs ys) (told xs ys) e

holds-head : (x : ℕ) (rest : Bool) → rest ≡ true → (eqb x x && rest) ≡ true
holds-head x rest e = simp (eq-eqb x x refl, e)

holds : (a : List ℕ) → same_bytes a a ≡ true
unfolding same_bytes
holds [] = refl
holds (x ∷ xs) = holds-head x (same_bytes xs xs) (holds xs)

pub same-told : SameTold
same-told = record { told = told; holds = holds }

-- what isn't the same is told so
pub differ : (a b : List ℕ) → (a ≡ b → ⊥) → false ≡ same_bytes a b
differ a b h = go (same_bytes a b) refl
  where
    go : (t : Bool) → same_bytes a b ≡ t → false ≡ t
    go true e = absurd (h (told a b e))
    go false e = refl

-- ---- the loop: what is left to compare comes to the same
-- a word that is read is exactly its bytes
digits : (n a b c d : ℕ) → a < 256 → b < 256 → c < 256 → d < 256 → a + b * 256 + c * 65536 + d * 16777216 ≡ n
    → (n % 256 ≡ a) × (n / 256 % 256 ≡ b) × (n / 65536 % 256 ≡ c) × (n / 16777216 % 256 ≡ d)
digits n a b c d ha hb hc hd e = (omega arith, omega arith, omega arith, omega arith)

eqb_same : (n : ℕ) → eqb n n ≡ true
eqb_same n = eq-eqb n n refl

left-more : (all bytes : List ℕ) (i : ℕ) → ((k : ℕ) → get_or bytes k 0 < 256) → i < length all → i * 4 + 4 ≤ length bytes → word_at bytes (i * 4) ≡ get_or all i 0
    → same_bytes (bytes_of (drop i all)) (drop (i * 4) bytes) ≡ same_bytes (bytes_of (drop (i + 1) all)) (drop ((i + 1) * 4) bytes)
unfolding same_bytes bytes_of word_at
left-more all bytes i known h l e =
    let at = i * 4 in
    let d = digits (get_or all i 0) (get_or bytes at 0) (get_or bytes (at + 1) 0) (get_or bytes (at + 2) 0) (get_or bytes (at + 3) 0) (known at) (known (at + 1)) (known (at + 2)) (known (at + 3)) e in
    let four : (i + 1) * 4 ≡ i * 4 + 4 = omega arith in
    let one : i + 1 ≡ suc i = omega arith in
    rw (four, one, four-of bytes at l, drop-cons all i 0 h, d.0, d.1, d.2, d.3, eqb_same (get_or bytes at 0), eqb_same (get_or bytes (at + 1) 0), eqb_same (get_or bytes (at + 2) 0), eqb_same (get_or bytes (at + 3) 0))

-- words are left that don't start with the one that is read
left_other : (all bytes : List ℕ) (i : ℕ) → i < length all → get_or all i 0 < 2 ^ 32 → eqb (word_at bytes (i * 4)) (get_or all i 0) ≡ false
    → false ≡ same_bytes (bytes_of (drop i all)) (drop (i * 4) bytes)
left_other all bytes i h small other =
    differ (bytes_of (drop i all)) (drop (i * 4) bytes)
    (λ e. false≢true (sym other ∙ eq-eqb (word_at bytes (i * 4)) (get_or all i 0) (sym (word-drop bytes (i * 4)) ∙ ap (λ l. word_at l 0) (sym e) ∙ word_next all i h small)))

left_word : (all bytes : List ℕ) (i : ℕ) → ((k : ℕ) → get_or bytes k 0 < 256) → i < length all → get_or all i 0 < 2 ^ 32 → i * 4 + 4 ≤ length bytes
    → same_bytes (bytes_of (drop i all)) (drop (i * 4) bytes) ≡ (eqb (word_at bytes (i * 4)) (get_or all i 0) && same_bytes (bytes_of (drop (i + 1) all)) (drop ((i + 1) * 4) bytes))
left_word all bytes i known h small l = go (eqb (word_at bytes (i * 4)) (get_or all i 0)) refl
  where
    go : (t : Bool) → eqb (word_at bytes (i * 4)) (get_or all i 0) ≡ t
        → same_bytes (bytes_of (drop i all)) (drop (i * 4) bytes) ≡ (t && same_bytes (bytes_of (drop (i + 1) all)) (drop ((i + 1) * 4) bytes))
    go true e = left-more all bytes i known h l ((eqb-iff (word_at bytes (i * 4)) (get_or all i 0)).0 e)
    go false e = sym (left_other all bytes i h small e)

and-turn : (r w rest : Bool) → ((r && w) && rest) ≡ (r && (w && rest))
and-turn true w rest = refl
and-turn false w rest = refl

-- one word more is compared
pub left-turn : (all bytes : List ℕ) (i w : ℕ) (r : Bool) → ((k : ℕ) → get_or bytes k 0 < 256) → i < length all → get_or all i 0 < 2 ^ 32 → i * 4 + 4 ≤ length bytes → w ≡ word_at bytes (i * 4)
    → ((r && eqb w (get_or all i 0)) && same_bytes (bytes_of (drop (i + 1) all)) (drop ((i + 1) * 4) bytes)) ≡ (r && same_bytes (bytes_of (drop i all)) (drop (i * 4) bytes))
left-turn all bytes i w r known h small l e =
    ap (λ n. (r && eqb n (get_or all i 0)) && same_bytes (bytes_of (drop (i + 1) all)) (drop ((i + 1) * 4) bytes)) e
    ∙ and-turn r (eqb (word_at bytes (i * 4)) (get_or all i 0)) (same_bytes (bytes_of (drop (i + 1) all)) (drop ((i + 1) * 4) bytes))
    ∙ ap (λ t. r && t) (sym (left_word all bytes i known h small l))

and-true : (r t : Bool) → true ≡ t → r ≡ (r && t)
and-true true t e = e
and-true false t e = refl

-- no word is left
pub left-none : (all bytes : List ℕ) (i : ℕ) (r : Bool) → length all ≤ i → length bytes ≤ i * 4 → r ≡ (r && same_bytes (bytes_of (drop i all)) (drop (i * 4) bytes))
unfolding same_bytes bytes_of
left-none all bytes i r ha hb = and-true r _ (rw (drop_of_length-le all {i = i} ha, drop_of_length-le bytes {i = i * 4} hb))

-- bytes of another length
pub other-length : (all bytes : List ℕ) → (length bytes ≡ length all * 4 → ⊥) → false ≡ same_bytes (bytes_of all) bytes
other-length all bytes h = differ (bytes_of all) bytes (λ e. h (sym (ap length e) ∙ length-bytes all))
