-- How long a line can be: what room always suffices.
use Prim.Native.Nat.{ℕ, suc, ◌+◌, ◌*◌, ◌^◌, ◌≤◌, ◌<◌}
use mathlib.Core.List.{List, [], ◌∷◌}
use native.Mathlib.Omega.{arith}
use lib.ListN.{length, get_or, length-append}
use Rattle.std.proofs.Common.{◌≡◌, refl, sum_by}
use Rattle.std.proofs.lemmas.List.Sums.{sum_by-cons}
use Rattle.report_text.specs.Decimal.{decimal}
use Rattle.report_text.specs.Text.{line_text, headed_text, end_text}
use Rattle.report_text.proofs.Decimals.{ten-at-most}

-- a line's bytes: of each number its digits and the byte after them
pub line-sum : (ns : List ℕ) → sum_by (λ n. length (decimal n) + 1) ns ≡ length (line_text ns)
unfolding line_text
line-sum [] = refl
line-sum (n ∷ ns) = simp length-append (omega (arith, sum_by-cons (λ n. length (decimal n) + 1) n ns, line-sum ns))

-- ten digits and the byte after them
pub line-at-most : (ns : List ℕ) → ((i : ℕ) → get_or ns i 0 < 2 ^ 32) → length (line_text ns) ≤ 11 * length ns
unfolding line_text
line-at-most [] h = omega arith
line-at-most (n ∷ ns) h = simp length-append (omega (arith, ten-at-most n (h 0), line-at-most ns (λ i. h (suc i))))

pub end-at-most : (ns : List ℕ) → ((i : ℕ) → get_or ns i 0 < 2 ^ 32) → length (end_text ns) ≤ 4 + 11 * length ns
unfolding end_text headed_text
end-at-most ns h = omega (arith, line-at-most ns h)
