-- What the loops of `read` and `write` ask: one word more.
use Prim.Native.Nat.{ℕ, suc, ◌+◌, ◌-◌, ◌*◌, ◌≤◌, ◌<◌}
use mathlib.Core.Path.{◌≡◌, sym, ap, ◌∙◌}
use mathlib.Core.List.{List, [], ◌∷◌, ◌++◌, append_assoc}
use native.Mathlib.Omega.{arith}
use native.Mathlib.Numerals.{add-one}
use lib.ListN.{length, take, drop, get_or, set, drop_of_length-le}
use lib.Seq.{sets, sets-eq, drop-cons, drop-drop}
use borrow.Rule.Slice.PartMut.{put_mid}
use Rattle.base.proofs.Puts.{sets-append}
use Rattle.c_words.specs.Words.{word_bytes, bytes_of, word_at, words_in}
use Rattle.c_words.proofs.WordLaws.{length-words, sets-whole, word-drop}

-- reading: what is left to be stored after i of n words
unfoldable pub to_read : List ℕ → ℕ → ℕ → List ℕ
to_read bytes n i = words_in (n - i) (drop (i * 4) bytes)

one-more : (bytes : List ℕ) (k i : ℕ) → words_in (suc k) (drop (i * 4) bytes) ≡ word_at bytes (i * 4) ∷ words_in k (drop ((i + 1) * 4) bytes)
unfolding words_in
one-more bytes k i =
    let e : i * 4 + 4 ≡ (i + 1) * 4 = omega arith in
    rw (word-drop bytes (i * 4), drop-drop 4 (i * 4) bytes, e)

pub read_more : (bytes all : List ℕ) (n i : ℕ) → i < n → sets (set all i (word_at bytes (i * 4))) (i + 1) (to_read bytes n (i + 1)) ≡ sets all i (to_read bytes n i)
unfolding to_read
read_more bytes all n i h =
    let e : n - i ≡ suc (n - (i + 1)) = omega arith in
    rw (e, one-more bytes (n - (i + 1)) i, add-one)

pub read_none : (bytes all first : List ℕ) (i : ℕ) → length first ≤ i → sets all i (to_read bytes (length first) i) ≡ sets first 0 (to_read bytes (length first) 0) → all ≡ words_in (length first) bytes
unfolding to_read words_in
read_none bytes all first i h e =
    let z : length first - i ≡ 0 = omega arith in
    let y : length first - 0 ≡ length first = omega arith in
    (rw (z, y) at e) ∙ sets-whole (words_in (length first) bytes) first (length-words (length first) bytes)

-- writing: the four bytes of one word are laid over the next four places
laid : (out four : List ℕ) (at k : ℕ) → at + 4 ≤ length out → k ≡ 4 → length four ≡ 4 → put_mid at k out four ≡ sets out at four
laid out four at k h ek long =
    let e : at + k ≡ at + length four = omega arith in
    rw (drop-drop k at out, e) (sym (sets-eq four out at (omega arith) ∙ append_assoc (take at out) four (drop (at + length four) out)))

pub write-more : (out all four : List ℕ) (i k : ℕ) → i < length all → i * 4 + 4 ≤ length out → k ≡ 4 → four ≡ word_bytes (get_or all i 0)
    → sets (put_mid (i * 4) k out four) ((i + 1) * 4) (bytes_of (drop (i + 1) all)) ≡ sets out (i * 4) (bytes_of (drop i all))
unfolding bytes_of
write-more out all four i k h room ek e =
    let long : length four ≡ 4 = ap length e in
    let next : (i + 1) * 4 ≡ i * 4 + length four = omega arith in
    rw (laid out four (i * 4) k room ek long, next, drop-cons all i 0 h, add-one)
    (sym (sets-append four (bytes_of (drop (suc i) all)) out (i * 4)) ∙ ap (λ bs. sets out (i * 4) (bs ++ bytes_of (drop (suc i) all))) e)

pub write-none : (all : List ℕ) (i : ℕ) → length all ≤ i → bytes_of (drop i all) ≡ []
unfolding bytes_of
write-none all i h = rw (drop_of_length-le all {i = i} h)
