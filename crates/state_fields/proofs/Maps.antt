-- The words as one number: what is read and put in a word is read and put in the number.
use Prim.Native.Nat.{ℕ, zero, suc, ◌+◌, ◌*◌, ◌/◌, ◌%◌, ◌^◌, ◌≤◌, ◌<◌}
use mathlib.Core.Path.{◌≡◌, refl, sym, ap, subst, ◌∙◌}
use mathlib.Core.List.{List, [], ◌∷◌}
use native.Mathlib.Nat.{mod-eq_of_lt, mul_assoc, mul_comm, not-suc-le-zero}
use native.Mathlib.Omega.{arith}
use lib.ListN.{length, get_or, set}
use lib.Pow.{pow-add, high, low, shr-shr}
use Rattle.base.proofs.Span.{span}
use Rattle.state_fields.specs.Words.{bits_at, put_at, words_of, with_word, bits_in, put_in}
use Rattle.state_parts.specs.declared.words.Words.{Words}
use Rattle.state_fields.proofs.Puts.{same-below, part_held, put_small}

-- the words as one number
abbrev pub number_of : List ℕ → ℕ
number_of [] = 0
number_of (x ∷ xs) = number_of xs * 2 ^ 64 + x

unfoldable pub map_of : Words → ℕ
map_of w = number_of (words_of w)

-- each is one of 64 bits
abbrev pub Fit : List ℕ → Type 0
Fit [] = Unit {0}
Fit (x ∷ xs) = (x < 2 ^ 64) × Fit xs

module _ (n x : ℕ) (small : x < 2 ^ 64) where
  -- in the lowest word
  pub bits-first : (at width : ℕ) → at + width ≤ 64 → bits_at at width (n * 2 ^ 64 + x) ≡ bits_at at width x
  bits-first at width h = same-below 64 at width (n * 2 ^ 64 + x) x h (low n 64 small ∙ sym (mod-eq_of_lt small))

  pub put_first : (at width v : ℕ) → at + width ≤ 64 → n * 2 ^ 64 + put_at at width v x ≡ put_at at width v (n * 2 ^ 64 + x)
  unfolding put_at
  put_first at width v h = let e = bits-first at width h in let k = part_held at width x in rw e (omega arith)

  -- in a word above it
  pub bits-next : (at width : ℕ) → bits_at (64 + at) width (n * 2 ^ 64 + x) ≡ bits_at at width n
  bits-next at width =
      ap (λ (m : ℕ). m % 2 ^ width) (sym (shr-shr (n * 2 ^ 64 + x) 64 at) ∙ ap (λ (m : ℕ). m / 2 ^ at) (high n 64 small))

  up : (a at : ℕ) → a * 2 ^ (64 + at) ≡ a * 2 ^ at * 2 ^ 64
  up a at = ap (λ (m : ℕ). a * m) (pow-add 2 64 at ∙ mul_comm (2 ^ 64) (2 ^ at)) ∙ sym (mul_assoc a (2 ^ at) (2 ^ 64))

  pub put_next : (at width v : ℕ) → put_at at width v n * 2 ^ 64 + x ≡ put_at (64 + at) width v (n * 2 ^ 64 + x)
  unfolding put_at
  put_next at width v =
      let k = part_held at width n in
      rw (bits-next at width, up (bits_at at width n) at, up (v % 2 ^ width) at) (omega arith)

abbrev next : ℕ → ℕ → ℕ
next i at = i * 64 + at

pub bits-number : (xs : List ℕ) (i at width : ℕ) → Fit xs → i < length xs → at + width ≤ 64 → bits_at (i * 64 + at) width (number_of xs) ≡ bits_at at width (get_or xs i 0)
bits-number [] i at width f l h = absurd (not-suc-le-zero l)
bits-number (x ∷ xs) zero at width f l h = ap (λ (k : ℕ). bits_at k width (number_of xs * 2 ^ 64 + x)) (omega arith) ∙ bits-first (number_of xs) x f.0 at width h
bits-number (x ∷ xs) (suc i) at width f l h =
    ap (λ (k : ℕ). bits_at k width (number_of xs * 2 ^ 64 + x)) (omega arith) ∙ bits-next (number_of xs) x f.0 (i * 64 + at) width
    ∙ bits-number xs i at width f.1 (omega arith) h

pub put-number : (xs : List ℕ) (i at width v : ℕ) → Fit xs → i < length xs → at + width ≤ 64
    → number_of (set xs i (put_at at width v (get_or xs i 0))) ≡ put_at (i * 64 + at) width v (number_of xs)
put-number [] i at width v f l h = absurd (not-suc-le-zero l)
put-number (x ∷ xs) zero at width v f l h = put_first (number_of xs) x f.0 at width v h ∙ ap (λ (k : ℕ). put_at k width v (number_of xs * 2 ^ 64 + x)) (omega arith)
put-number (x ∷ xs) (suc i) at width v f l h =
    ap (λ (n : ℕ). n * 2 ^ 64 + x) (put-number xs i at width v f.1 (omega arith) h)
    ∙ put_next (number_of xs) x f.0 (i * 64 + at) width v ∙ ap (λ (k : ℕ). put_at k width v (number_of xs * 2 ^ 64 + x)) (omega arith)

with-set : (w : Words) (x i : ℕ) → i < 5 → words_of (with_word w i x) ≡ set (words_of w) i x
unfolding with_word
with-set w x i h = span (λ (n : ℕ). words_of (with_word w n x) ≡ set (words_of w) n x) 0 5 i (refl, (refl, (refl, (refl, (refl, tt))))) (omega arith) h

module _ (w : Words) (f : Fit (words_of w)) (at width : ℕ) (inside : at < 320) (one : at % 64 + width ≤ 64) where
  abbrev i : ℕ
  i = at / 64

  around : i % 5 ≡ i
  around = mod-eq_of_lt (omega arith)

  -- the map's bits are the number's
  pub get-map : bits_in at width w ≡ bits_at at width (map_of w)
  unfolding map_of
  get-map =
      ap (λ (k : ℕ). bits_at (at % 64) width (get_or (words_of w) k 0)) around
      ∙ sym (bits-number (words_of w) i (at % 64) width f (omega arith) one) ∙ ap (λ (k : ℕ). bits_at k width (number_of (words_of w))) (omega arith)

  pub put_map : (v : ℕ) → map_of (put_in at width v w) ≡ put_at at width v (map_of w)
  unfolding put_in map_of
  put_map v =
      ap number_of (with-set w (put_at (at % 64) width v (get_or (words_of w) (i % 5) 0)) i (omega arith))
      ∙ ap (λ (k : ℕ). number_of (set (words_of w) i (put_at (at % 64) width v (get_or (words_of w) k 0)))) around
      ∙ put-number (words_of w) i (at % 64) width v f (omega arith) one ∙ ap (λ (k : ℕ). put_at k width v (number_of (words_of w))) (omega arith)

-- words stay words
fit-set : (xs : List ℕ) (i x : ℕ) → Fit xs → x < 2 ^ 64 → Fit (set xs i x)
fit-set [] i x f h = tt
fit-set (y ∷ ys) zero x f h = (h, f.1)
fit-set (y ∷ ys) (suc i) x f h = (f.0, fit-set ys i x f.1 h)

fit_at : (xs : List ℕ) (i : ℕ) → Fit xs → get_or xs i 0 < 2 ^ 64
fit_at [] i f = omega arith
fit_at (y ∷ ys) zero f = f.0
fit_at (y ∷ ys) (suc i) f = fit_at ys i f.1

pub fit-put : (w : Words) → Fit (words_of w) → (at width v : ℕ) → at < 320 → at % 64 + width ≤ 64 → Fit (words_of (put_in at width v w))
unfolding put_in
fit-put w f at width v inside one =
    subst Fit (sym (with-set w (put_at (at % 64) width v (get_or (words_of w) (at / 64 % 5) 0)) (at / 64) (omega arith)))
    (fit-set (words_of w) (at / 64) _ f (put_small (at % 64) width v (get_or (words_of w) (at / 64 % 5) 0) 64 one (fit_at (words_of w) (at / 64 % 5) f)))

-- the number settles the words
numbers-one : (xs ys : List ℕ) → length xs ≡ length ys → Fit xs → Fit ys → number_of xs ≡ number_of ys → xs ≡ ys
numbers-one [] [] l f g e = refl
numbers-one [] (y ∷ ys) l f g e = absurd (omega arith)
numbers-one (x ∷ xs) [] l f g e = absurd (omega arith)
numbers-one (x ∷ xs) (y ∷ ys) l f g e =
    let first : x ≡ y = sym (low (number_of xs) 64 f.0) ∙ ap (λ (n : ℕ). n % 2 ^ 64) e ∙ low (number_of ys) 64 g.0 in
    let rest : number_of xs ≡ number_of ys = sym (high (number_of xs) 64 f.0) ∙ ap (λ (n : ℕ). n / 2 ^ 64) e ∙ high (number_of ys) 64 g.0 in
    ap (λ (a : ℕ). a ∷ xs) first ∙ ap (λ (l : List ℕ). y ∷ l) (numbers-one xs ys (omega arith) f.1 g.1 rest)

words_from : List ℕ → Words
words_from l = record { w0 = get_or l 0 0; w1 = get_or l 1 0; w2 = get_or l 2 0; w3 = get_or l 3 0; w4 = get_or l 4 0 }

pub words-one : (a b : Words) → Fit (words_of a) → Fit (words_of b) → map_of a ≡ map_of b → a ≡ b
unfolding map_of words_from
words-one a b f g e = ap words_from (numbers-one (words_of a) (words_of b) refl f g e)
