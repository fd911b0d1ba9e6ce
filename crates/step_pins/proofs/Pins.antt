-- The pins' table: its spans are those listed, they keep apart, and codes go by them.
use Prim.Native.Nat.{ℕ, zero, suc}
use mathlib.Core.Path.{refl}
use mathlib.Core.List.{List, [], ◌∷◌}
use mathlib.Core.Logic.{◌↔◌}
use native.Mathlib.Omega.{arith}
use Rattle.step_pins.specs.Codes.{resistors, code_of}
use Rattle.step_pins.specs.Spans.{Within, spans_of, span_at}
use Rattle.step_pins.specs.Theorems.{Matches, PinTable}
use Rattle.step_pins.proofs.Lowest.{most, lowest-taken}
use Rattle.step_pins.proofs.Overlaps.{match-is-span, spans_apart}

-- an entry matches exactly in the span at its place
within : (t : List ℕ) (i ohms : ℕ) → Matches t i ohms ↔ Within ohms (span_at (spans_of t) i)
within [] i ohms = (λ m. absurd (omega (arith, m.0)), λ k. absurd (omega (arith, k.0, k.1)))
within (r ∷ t) zero ohms = (λ m. (match-is-span r ohms).0 m.1, λ k. (omega arith, (match-is-span r ohms).1 k))
within (r ∷ t) (suc i) ohms =
    let k = within t i ohms in
    (λ m. k.0 (omega (arith, m.0), m.1), λ w. let m = k.1 w in (omega (arith, m.0), m.1))

pub pin-table : PinTable
unfolding code_of
pin-table = record {
  spans = refl;
  apart = refl;
  one = spans_apart.one resistors refl;
  own = spans_apart.own resistors refl;
  code = λ i ohms. (
    λ e. (within resistors i ohms).0 ((lowest-taken.code resistors i ohms).0 e).0,
    λ w.
        let m = (within resistors i ohms).1 w in
        (lowest-taken.code resistors i ohms).1 (m, λ j less n. let same = spans_apart.one resistors refl ohms i j m n in omega (arith, same)),
  );
  none = λ ohms. (
    λ e i w. (lowest-taken.none resistors ohms).0 e i ((within resistors i ohms).1 w),
    λ out. (lowest-taken.none resistors ohms).1 (λ i m. out i ((within resistors i ohms).0 m)),
  );
  most = λ ohms. most resistors ohms;
}
