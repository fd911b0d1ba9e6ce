-- What a number's text is made of: digits alone, the first of them no zero unless the number is 0.
use Prim.Native.Nat.{ℕ, zero, suc, ◌/◌, ◌%◌, ◌≤◌, ◌<◌}
use mathlib.Core.List.{List, [], ◌∷◌, ◌++◌}
use native.Mathlib.Omega.{arith}
use native.Mathlib.Decide.{dec_lt}
use lib.ListN.{length, get_or, length-append, get_or-append}
use lib.Seq.{get_or_at}
use Rattle.report_text.specs.Decimal.{digit, decimal}
use Rattle.report_text.proofs.Decimals.{by_digits}

abbrev Digits : ℕ → List ℕ → Type 0
Digits n text = (i : ℕ) → i < length text → (48 ≤ get_or text i 0) × (get_or text i 0 ≤ 57)

pub all_digits : (n i : ℕ) → i < length (decimal n) → (48 ≤ get_or (decimal n) i 0) × (get_or (decimal n) i 0 ≤ 57)
all_digits = by_digits Digits one more
  where
    one : (n : ℕ) → n < 10 → Digits n (digit n ∷ [])
    one n h zero l = omega arith
    one n h (suc i) l = absurd (omega arith)

    more : (n : ℕ) (tens : List ℕ) → 10 ≤ n → Digits (n / 10) tens → Digits n (tens ++ (digit (n % 10) ∷ []))
    more n tens h before i l = go (dec_lt i (length tens))
      where
        go : Dec (i < length tens) → (48 ≤ get_or (tens ++ (digit (n % 10) ∷ [])) i 0) × (get_or (tens ++ (digit (n % 10) ∷ [])) i 0 ≤ 57)
        go (yes k) = rw (get_or-append tens (digit (n % 10) ∷ []) 0 i k) (before i k)
        go (no k) = rw (get_or_at tens (digit (n % 10)) [] 0 i (omega (arith, simp length-append at l))) (omega arith)

pub no-leading-zero : (n : ℕ) → 0 < n → 48 < get_or (decimal n) 0 0
no-leading-zero n h = (by_digits (λ n text. 0 < n → (0 < length text) × (48 < get_or text 0 0)) (λ n l p. omega arith) more n h).1
  where
    more : (n : ℕ) (tens : List ℕ) → 10 ≤ n → (0 < n / 10 → (0 < length tens) × (48 < get_or tens 0 0)) → 0 < n
        → (0 < length (tens ++ (digit (n % 10) ∷ []))) × (48 < get_or (tens ++ (digit (n % 10) ∷ [])) 0 0)
    more n [] l before p = let b = before (omega arith) in absurd (omega arith)
    more n (b ∷ tens) l before p = (omega arith, (before (omega arith)).1)
