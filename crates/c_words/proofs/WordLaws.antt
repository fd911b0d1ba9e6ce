-- Words and their bytes: lengths, and that words read back.
use Prim.Native.Nat.{ℕ, zero, suc, ◌+◌, ◌*◌, ◌/◌, ◌%◌, ◌^◌, ◌≤◌, ◌<◌}
use mathlib.Core.Path.{◌≡◌, refl, ap, ◌∙◌}
use mathlib.Core.List.{List, [], ◌∷◌, ◌++◌, append-nil}
use native.Mathlib.Omega.{arith}
use native.Mathlib.Nat.{zero-add, add-zero, not-suc-le-zero, le_of_suc-le-suc}
use lib.ListN.{length, take, drop, get_or, drop_of_length-le}
use lib.Seq.{sets, sets-eq, drop-cons, get_or-drop}
use Rattle.c_words.specs.Words.{word_bytes, bytes_of, word_at, words_in}
use Rattle.c_words.specs.Promises.{ReadsBack}

pub length-words : (k : ℕ) (s : List ℕ) → length (words_in k s) ≡ k
unfolding words_in
length-words zero s = refl
length-words (suc k) s = ap suc (length-words k (drop 4 s))

four-more : (a b : ℕ) → a ≡ b * 4 → suc (suc (suc (suc a))) ≡ suc b * 4
four-more a b e = omega arith

pub length-bytes : (ns : List ℕ) → length (bytes_of ns) ≡ length ns * 4
unfolding bytes_of
length-bytes [] = refl
length-bytes (n ∷ ns) = four-more (length (bytes_of ns)) (length ns) (length-bytes ns)

-- a run of stores over a whole list is what was stored
pub sets-whole : (xs l : List ℕ) → length xs ≡ length l → sets l 0 xs ≡ xs
sets-whole xs l e =
    sets-eq xs l 0 (omega arith) ∙ simp (zero-add, drop_of_length-le l {i = length xs} (omega arith)) (append-nil xs)

-- a number is its four digits, each taken off the rest
digits : (n q r s a b c : ℕ) → a + q * 256 ≡ n → b + r * 256 ≡ q → c + s * 256 ≡ r → a + b * 256 + c * 65536 + s * 16777216 ≡ n
digits n q r s a b c x y z = omega arith

digit : (n : ℕ) → n % 256 + n / 256 * 256 ≡ n
digit n = omega arith

first_back : (n : ℕ) (s : List ℕ) → n < 2 ^ 32 → word_at (word_bytes n ++ s) 0 ≡ n
unfolding word_at
first_back n s h =
    let third : n / 65536 ≡ n / 256 / 256 = omega arith in
    let last : n / 16777216 % 256 ≡ n / 256 / 256 / 256 = omega arith in
    rw (third, last) (digits n (n / 256) (n / 256 / 256) (n / 256 / 256 / 256) (n % 256) (n / 256 % 256) (n / 256 / 256 % 256) (digit n) (digit (n / 256)) (digit (n / 256 / 256)))

both-back : (n : ℕ) (ns s ms : List ℕ) → n < 2 ^ 32 → ms ≡ ns → word_at (word_bytes n ++ s) 0 ∷ ms ≡ n ∷ ns
both-back n ns s ms h e = ap (λ k. k ∷ ms) (first_back n s h) ∙ ap (λ l. n ∷ l) e

pub reads-back : ReadsBack
unfolding bytes_of words_in
reads-back [] h = refl
reads-back (n ∷ ns) h = both-back n ns (bytes_of ns) (words_in (length ns) (bytes_of ns)) h.0 (reads-back ns h.1)

few-more : (w : ℕ) (a b : List ℕ) → a ≡ b → w ∷ a ≡ w ∷ b
few-more w a b e = ap (λ l. w ∷ l) e

-- fewer words are the first of more
pub few_words : (n m : ℕ) (s : List ℕ) → n ≤ m → take n (words_in m s) ≡ words_in n s
unfolding words_in
few_words zero m s h = refl
few_words (suc n) zero s h = absurd (not-suc-le-zero h)
few_words (suc n) (suc m) s h = few-more (word_at s 0) (take n (words_in m (drop 4 s))) (words_in n (drop 4 s)) (few_words n m (drop 4 s) (le_of_suc-le-suc h))

-- the next four bytes of a list
pub four-of : (s : List ℕ) (at : ℕ) → at + 4 ≤ length s
    → drop at s ≡ get_or s at 0 ∷ get_or s (at + 1) 0 ∷ get_or s (at + 2) 0 ∷ get_or s (at + 3) 0 ∷ drop (at + 4) s
four-of s at h =
    let a : at + 1 ≡ suc at = omega arith in
    let b : at + 2 ≡ suc (suc at) = omega arith in
    let c : at + 3 ≡ suc (suc (suc at)) = omega arith in
    let d : at + 4 ≡ suc (suc (suc (suc at))) = omega arith in
    rw (a, b, c, d) (drop-cons s at 0 (omega arith) ∙ ap (λ t. get_or s at 0 ∷ t) (drop-cons s (suc at) 0 (omega arith) ∙ ap (λ t. get_or s (suc at) 0 ∷ t) (drop-cons s (suc (suc at)) 0 (omega arith) ∙ ap (λ t. get_or s (suc (suc at)) 0 ∷ t) (drop-cons s (suc (suc (suc at))) 0 (omega arith)))))

pub word-drop : (s : List ℕ) (k : ℕ) → word_at (drop k s) 0 ≡ word_at s k
unfolding word_at
word-drop s k = rw (get_or-drop k s 0 0, get_or-drop k s 1 0, get_or-drop k s 2 0, get_or-drop k s 3 0, add-zero)

-- the next word reads back from the bytes of the words that are left
pub word_next : (ns : List ℕ) (i : ℕ) → i < length ns → get_or ns i 0 < 2 ^ 32 → word_at (bytes_of (drop i ns)) 0 ≡ get_or ns i 0
unfolding bytes_of
word_next ns i h small = ap (λ l. word_at (bytes_of l) 0) (drop-cons ns i 0 h) ∙ first_back (get_or ns i 0) (bytes_of (drop (suc i) ns)) small
