-- Laws of a number's decimal text: digit by digit, its length, and how it is put into a part.
use Prim.Native.Nat.{ℕ, zero, suc, ◌+◌, ◌*◌, ◌/◌, ◌%◌, ◌^◌, ◌≤◌, ◌<◌}
use mathlib.Core.Path.{◌≡◌, refl, sym, ap, ◌∙◌}
use mathlib.Core.List.{List, [], ◌∷◌, ◌++◌}
use native.Mathlib.Omega.{arith}
use native.Mathlib.Decide.{dec_lt}
use lib.ListN.{length, set, length-append}
use borrow.Author.Tests.{lt-ltb, le-ltb}
use Rattle.report_text.specs.Decimal.{digit, decimal_by, decimal}
use Rattle.report_text.specs.Writing.{over}
use Rattle.report_text.proofs.Parts.{next-byte}

-- turns past the number's value change nothing
enough : (k m n : ℕ) → n ≤ k → n ≤ m → decimal_by k n ≡ decimal_by m n
unfolding decimal_by
enough zero zero n p q = refl
enough zero (suc m) n p q = simp (lt-ltb n 10 (omega arith))
enough (suc k) zero n p q = simp (lt-ltb n 10 (omega arith))
enough (suc k) (suc m) n p q = go (dec_lt n 10) (λ h. enough k m (n / 10) (omega arith) (omega arith))
  where
    go : Dec (n < 10) → (10 ≤ n → decimal_by k (n / 10) ≡ decimal_by m (n / 10)) → decimal_by (suc k) n ≡ decimal_by (suc m) n
    go (yes l) before = simp (lt-ltb n 10 l)
    go (no l) before = simp (le-ltb n 10 (omega arith), before (omega arith))

pub one-digit : (n : ℕ) → n < 10 → decimal n ≡ digit n ∷ []
unfolding decimal decimal_by
one-digit zero h = refl
one-digit (suc n) h = simp (lt-ltb (suc n) 10 h)

pub more-digits : (n : ℕ) → 10 ≤ n → decimal n ≡ decimal (n / 10) ++ (digit (n % 10) ∷ [])
unfolding decimal decimal_by
more-digits zero h = absurd (omega arith)
more-digits (suc n) h = simp (le-ltb (suc n) 10 h) (ap (λ l. l ++ (digit (suc n % 10) ∷ [])) (enough n (suc n / 10) (suc n / 10) (omega arith) (omega arith)))

-- what holds of a digit alone, and of a text with one more digit if it holds of the text before, holds of every number's text
module _ (P : ℕ → List ℕ → Type 0) (one : (n : ℕ) → n < 10 → P n (digit n ∷ [])) (more : (n : ℕ) (tens : List ℕ) → 10 ≤ n → P (n / 10) tens → P n (tens ++ (digit (n % 10) ∷ []))) where
  by-turns : (turns n : ℕ) → n ≤ turns → P n (decimal n)
  by-turns zero n h = rw (one-digit n (omega arith)) (one n (omega arith))
  by-turns (suc turns) n h = go (dec_lt n 10) (λ l. by-turns turns (n / 10) (omega arith))
    where
      go : Dec (n < 10) → (10 ≤ n → P (n / 10) (decimal (n / 10))) → P n (decimal n)
      go (yes l) before = rw (one-digit n l) (one n l)
      go (no l) before = rw (more-digits n (omega arith)) (more n (decimal (n / 10)) (omega arith) (before (omega arith)))

  pub by_digits : (n : ℕ) → P n (decimal n)
  by_digits n = by-turns n n (omega arith)

pub one-long : (n : ℕ) → n < 10 → length (decimal n) ≡ 1
one-long n h = ap length (one-digit n h)

pub one-longer : (n : ℕ) → 10 ≤ n → length (decimal n) ≡ length (decimal (n / 10)) + 1
one-longer n h = ap length (more-digits n h) ∙ simp length-append

pub not-empty : (n : ℕ) → 0 < length (decimal n)
not-empty = by_digits (λ n text. 0 < length text) (λ n h. omega arith) (λ n tens h before. simp length-append (omega arith))

-- ten times itself, so often
abbrev tenfold : ℕ → ℕ
tenfold zero = 1
tenfold (suc k) = 10 * tenfold k

no_longer : (n : ℕ) (k : ℕ) → n < tenfold (suc k) → length (decimal n) ≤ suc k
no_longer = by_digits (λ n text. (k : ℕ) → n < tenfold (suc k) → length text ≤ suc k) (λ n h k l. omega arith) more
  where
    more : (n : ℕ) (tens : List ℕ) → 10 ≤ n → ((k : ℕ) → n / 10 < tenfold (suc k) → length tens ≤ suc k) → (k : ℕ) → n < tenfold (suc k) → length (tens ++ (digit (n % 10) ∷ [])) ≤ suc k
    more n tens h before zero l = absurd (omega arith)
    more n tens h before (suc k) l = simp length-append (omega (arith, before k (omega arith)))

-- a number of 32 bits has at most ten digits
pub ten-at-most : (n : ℕ) → n < 2 ^ 32 → length (decimal n) ≤ 10
ten-at-most n h = no_longer n 9 (omega arith)

-- a number's text over the start of a part with room for it: its digit, or its last digit after the text of its tens
module _ (n : ℕ) (part : List ℕ) (room : length (decimal n) ≤ length part) where
  pub digit-put : n < 10 → set part 0 (digit n) ≡ over (decimal n) part
  unfolding over
  digit-put h = next-byte [] part (digit n) 0 refl (omega (arith, one-long n h)) ∙ ap (λ text. over text part) (sym (one-digit n h))

  pub last-put : 10 ≤ n → (at : ℕ) (put : List ℕ) → at ≡ length (decimal (n / 10)) → put ≡ over (decimal (n / 10)) part
      → set put at (digit (n % 10)) ≡ over (decimal n) part
  last-put h at put e f =
      ap (λ l. set l at (digit (n % 10))) f
      ∙ next-byte (decimal (n / 10)) part (digit (n % 10)) at e (omega (arith, one-longer n h))
      ∙ ap (λ text. over text part) (sym (more-digits n h))
