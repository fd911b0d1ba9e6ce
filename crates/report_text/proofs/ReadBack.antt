-- A line reads back as its numbers, so two reports never print alike.
use Prim.Native.Nat.{ℕ, ◌+◌, ◌-◌, ◌*◌, ◌/◌, ◌%◌, ◌≤◌, ◌<◌}
use mathlib.Core.Path.{◌≡◌, refl, sym, ap, ◌∙◌}
use mathlib.Core.List.{List, [], ◌∷◌, ◌++◌, append_assoc}
use native.Mathlib.Omega.{arith}
use lib.Dec.{ltb}
use borrow.Author.Tests.{le-ltb}
use Rattle.base.specs.Pick.{pick}
use Rattle.report_text.specs.Decimal.{digit, decimal}
use Rattle.report_text.specs.Text.{byte_after, line_text}
use Rattle.report_text.proofs.Decimals.{by_digits}

-- the numbers of a line, when so much of the first is read: a byte below 48 ends a number, any other is a digit more
unfoldable pub read_line : ℕ → List ℕ → List ℕ
read_line n [] = []
read_line n (b ∷ s) = pick (ltb b 48) (n ∷ read_line 0 s) (read_line (n * 10 + (b - 48)) s)

number_read : (n : ℕ) (s : List ℕ) → read_line 0 (decimal n ++ s) ≡ read_line n s
unfolding read_line
number_read = by_digits (λ n text. (s : List ℕ) → read_line 0 (text ++ s) ≡ read_line n s) one more
  where
    one : (n : ℕ) → n < 10 → (s : List ℕ) → read_line 0 ((digit n ∷ []) ++ s) ≡ read_line n s
    one n h s = simp (le-ltb (48 + n) 48 (omega arith)) (ap (λ v. read_line v s) (omega arith))

    more : (n : ℕ) (tens : List ℕ) → 10 ≤ n → ((s : List ℕ) → read_line 0 (tens ++ s) ≡ read_line (n / 10) s) → (s : List ℕ) → read_line 0 ((tens ++ (digit (n % 10) ∷ [])) ++ s) ≡ read_line n s
    more n tens h before s = rw (append_assoc, before) (simp (le-ltb (48 + n % 10) 48 (omega arith)) (ap (λ v. read_line v s) (omega arith)))

after_small : (ns : List ℕ) → ltb (byte_after ns) 48 ≡ ltb 10 48
after_small [] = refl
after_small (n ∷ ns) = refl

pub read_back : (ns : List ℕ) → read_line 0 (line_text ns) ≡ ns
unfolding read_line line_text
read_back [] = refl
read_back (n ∷ ns) = number_read n (byte_after ns ∷ line_text ns) ∙ simp after_small (ap (λ l. n ∷ l) (read_back ns))

pub one_line : (ns ms : List ℕ) → line_text ns ≡ line_text ms → ns ≡ ms
one_line ns ms e = sym (read_back ns) ∙ ap (read_line 0) e ∙ read_back ms

pub one_number : (n m : ℕ) → decimal n ≡ decimal m → n ≡ m
unfolding line_text
one_number n m e = let l : (n ∷ []) ≡ (m ∷ []) = one_line (n ∷ []) (m ∷ []) (ap (λ text. text ++ (byte_after [] ∷ [])) e) in cc
