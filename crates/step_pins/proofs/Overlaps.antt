-- What matches a resistor is a span, and in a table whose spans keep apart at most one code matches.
use Prim.Native.Nat.{ℕ, zero, suc, ◌<◌}
use mathlib.Core.Path.{◌≡◌, refl, ap}
use mathlib.Core.Bool.{true}
use mathlib.Core.List.{List, [], ◌∷◌}
use native.Mathlib.Omega.{arith}
use lib.ListN.{length, get_or}
use lib.Dec.{ltb}
use borrow.Author.Tests.{ltb-true}
use Rattle.base.proofs.Tests.{and-iff, leb-iff}
use Rattle.step_pins.specs.Codes.{matches}
use Rattle.step_pins.specs.Spans.{span_of, keeps_apart}
use Rattle.step_pins.specs.Theorems.{Matches, MatchIsSpan, SpansApart}
use Rattle.step_pins.proofs.Lowest.{lowest-taken}

pub match-is-span : MatchIsSpan
match-is-span nominal ohms = (
  λ e. let k = simp leb-iff at e in (omega (arith, k), omega (arith, k)),
  λ k. simp leb-iff (omega (arith, k.0, k.1)),
)

-- a span of the table ends before every later one starts
before : (one : ℕ) (t : List ℕ) → keeps_apart (one ∷ t) ≡ true → (i : ℕ) → i < length t → (span_of one).high < (span_of (get_or t i 0)).low
before one [] a i l = absurd (omega arith)
before one (next ∷ t) a zero l = ltb-true (span_of one).high (span_of next).low ((and-iff (ltb (span_of one).high (span_of next).low) (keeps_apart (next ∷ t))).0 a).0
before one (next ∷ t) a (suc i) l =
    let k = (and-iff (ltb (span_of one).high (span_of next).low) (keeps_apart (next ∷ t))).0 a in
    let later = before next t k.1 i (omega arith) in
    let here = ltb-true (span_of one).high (span_of next).low k.0 in
    omega (arith, later, here)

rest-apart : (one : ℕ) (t : List ℕ) → keeps_apart (one ∷ t) ≡ true → keeps_apart t ≡ true
rest-apart one [] a = refl
rest-apart one (next ∷ t) a = ((and-iff (ltb (span_of one).high (span_of next).low) (keeps_apart (next ∷ t))).0 a).1

not-both : (one : ℕ) (t : List ℕ) → keeps_apart (one ∷ t) ≡ true → (i ohms : ℕ) → matches one ohms ≡ true → Matches t i ohms → ⊥
not-both one t a i ohms m n =
    let here = (match-is-span one ohms).0 m in
    let there = (match-is-span (get_or t i 0) ohms).0 n.1 in
    omega (arith, before one t a i n.0, here.1, there.0)

one_code : (t : List ℕ) → keeps_apart t ≡ true → (ohms i j : ℕ) → Matches t i ohms → Matches t j ohms → i ≡ j
one_code [] a ohms i j m n = absurd (omega (arith, m.0))
one_code (r ∷ t) a ohms zero zero m n = refl
one_code (r ∷ t) a ohms zero (suc j) m n = absurd (not-both r t a j ohms m.1 (omega (arith, n.0), n.1))
one_code (r ∷ t) a ohms (suc i) zero m n = absurd (not-both r t a i ohms n.1 (omega (arith, m.0), m.1))
one_code (r ∷ t) a ohms (suc i) (suc j) m n = ap suc (one_code t (rest-apart r t a) ohms i j (omega (arith, m.0), m.1) (omega (arith, n.0), n.1))

-- a resistor is within 2% of itself
itself : (nominal : ℕ) → matches nominal nominal ≡ true
itself nominal = (match-is-span nominal nominal).1 (omega arith, omega arith)

pub spans_apart : SpansApart
spans_apart = record {
  one = one_code;
  own = λ t a i l.
      let m : Matches t i (get_or t i 0) = (l, itself (get_or t i 0)) in
      (lowest-taken.code t i (get_or t i 0)).1 (m, λ j less n. let same = one_code t a (get_or t i 0) i j m n in omega (arith, same));
}
