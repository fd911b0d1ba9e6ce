-- The number reader tells the place that decided its refusal.
use Prim.Native.Nat.{ℕ}
use mathlib.Core.Path.{◌≡◌, sym, ap, ◌∙◌, subst}
use mathlib.Core.List.{List, [], ◌∷◌, append-nil}
use native.Mathlib.Omega.{arith}
use native.Mathlib.Decide.{ℕ_discrete}
use borrow.Author.Rules.{rules}
use Rattle.base.specs.Found.{Found, refused}
use Rattle.log_number.specs.Number.{read_number}
use Rattle.log_number.proofs.Strings.{bytes-each}
use Rattle.laws_format.specs.Unreadable.{NoNumber}
use Rattle.laws_format.specs.Deciding.{Decided, by_byte, by_end, number_refused, NumberDecides}
use Rattle.laws_format.proofs.Formats.{number_read}
use Rattle.laws_format.proofs.NumbersRefused.{Numbered, value, no_number, numbered, refused-number}
use Rattle.laws_format.proofs.NumbersDecided.{number-among, number-within, number-ends, number-enough, number_cut, number-grows}

row_of : {s : List ℕ} {x : Found ℕ} → Numbered s x → (n p : ℕ) → x ≡ refused n p → NoNumber n s p
row_of (value m groups rest h g) n p e = absurd (let z : ◌≡◌ {A = ℕ} 0 1 = cc in omega arith)
row_of (no_number m q s bad) n p e =
    let same : m ≡ n = cc in
    let there : q ≡ p = cc in
    subst (λ (k : ℕ). NoNumber n s k) there (subst (λ (k : ℕ). NoNumber k s q) same bad)

pub number-decides : NumberDecides
number-decides s bs n p told = go (ℕ_discrete n 1)
  where
    bad : NoNumber n s p
    bad = row_of (numbered s bs) n p told

    is : number_refused (read_number s) ≡ n
    is = ap number_refused told

    go : Dec (n ≡ 1) → Decided (λ t. number_refused (read_number t)) s p
    go (yes one) =
        let g = number-grows bad one bs in
        let whole = number_read g.0 _ [] (omega (arith, g.2)) g.3 in
        by_end (number-ends bad one) (1 ∷ []) (bytes-each (1 ∷ []) (search rules)) (λ same. let z : 0 ≡ n = sym (ap number_refused (rw append-nil at whole)) ∙ same ∙ is in omega (arith, z, (number-among bad).0))
    go (no other) =
        by_byte ((number-within bad).1 other) (λ rest br. ap number_refused (refused-number (number-enough bad other rest)) ∙ sym is)
        (λ same. other (sym is ∙ sym same ∙ ap number_refused (refused-number (number_cut bad))))
