-- How long the last line can be.
use Prim.Native.Nat.{ℕ, zero, suc, ◌^◌, ◌≤◌, ◌<◌}
use mathlib.Core.List.{[], ◌∷◌}
use native.Mathlib.Omega.{arith}
use native.Mathlib.Nat.{mod-lt}
use lib.ListN.{length, get_or}
use Rattle.report_text.specs.Text.{end_text, low32}
use Rattle.report_text.proofs.Sizes.{end-at-most}

-- its three numbers have 32 bits
pub end_short : (number code place : ℕ) → number < 2 ^ 32 → code < 2 ^ 32 → length (end_text (number ∷ code ∷ low32 place ∷ [])) ≤ 37
end_short number code place n c = end-at-most (number ∷ code ∷ low32 place ∷ []) each
  where
    each : (i : ℕ) → get_or (number ∷ code ∷ low32 place ∷ []) i 0 < 2 ^ 32
    each zero = n
    each (suc zero) = c
    each (suc (suc zero)) = mod-lt place (omega arith)
    each (suc (suc (suc i))) = omega arith
