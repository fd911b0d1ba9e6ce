-- The kinds that the paper's table has, by number.
use Prim.Native.Nat.{ℕ, ◌≤◌, ◌<◌}
use mathlib.Core.Path.{◌≡◌, sym, subst}
use mathlib.Core.List.{List}
use mathlib.Core.Logic.{◌≢◌, ◌↔◌, ◌⊎◌, inl, inr}
use native.Mathlib.Omega.{arith}
use native.Mathlib.Decide.{dec_lt}
use Rattle.log_event.specs.Items.{Item}
use Rattle.log_event.specs.Kinds.{kind_byte}
use Rattle.log_event.specs.declared.Event.{Event}
use Rattle.log_event.specs.declared.kinds.Kind.{Kind}
use Rattle.log_event.specs.declared.kinds.Kind.TheVariants.{PowerOn, Set, Write, TakeFlags, Observe, Service, Reset, WriteRun, PowerOnResistors, ObserveTwo, PowerOnEdition, ReadFlags}
use Rattle.laws_format.specs.Format.{Listed, power-on, set, write, take-flags, observe, service, reset, write-run, power-on-resistors, observe-two, power-on-edition, read-flags, NoKind}
use Rattle.laws_format.proofs.RecordsRefused.{an-event}

-- none of those outside
abbrev Outside : ℕ → Type 0
Outside b = (b ≡ 0) ⊎ (((11 < b) × (b < 14)) ⊎ (14 < b))

not-outside : (b : ℕ) → 0 < b → b ≤ 11 → Outside b → ⊥
not-outside b some most (inl z) = omega arith
not-outside b some most (inr (inl z)) = omega (arith, z.0)
not-outside b some most (inr (inr z)) = omega arith

not-fourteen : Outside 14 → ⊥
not-fourteen (inl z) = omega arith
not-fourteen (inr (inl z)) = omega (arith, z.1)
not-fourteen (inr (inr z)) = omega arith

among : {e : Event} {b : ℕ} {is : List Item} → Listed e b is → Outside b → ⊥
among (power-on p) = not-outside 1 (omega arith) (omega arith)
among (set number value) = not-outside 2 (omega arith) (omega arith)
among (write address byte) = not-outside 3 (omega arith) (omega arith)
among take-flags = not-outside 4 (omega arith) (omega arith)
among (observe s ibat i) = not-outside 5 (omega arith) (omega arith)
among service = not-outside 6 (omega arith) (omega arith)
among reset = not-outside 7 (omega arith) (omega arith)
among (write-run address held) = not-outside 8 (omega arith) (omega arith)
among (power-on-resistors r) = not-outside 9 (omega arith) (omega arith)
among (observe-two t ibat i) = not-outside 10 (omega arith) (omega arith)
among (power-on-edition p edition) = not-outside 11 (omega arith) (omega arith)
among (read-flags address) = not-fourteen

other : (b : ℕ) → NoKind b → (k : Kind) → b ≢ kind_byte k
other b n k is =
    let a = an-event k in
    n a.0 a.2.0 (subst (λ (c : ℕ). Listed a.0 c a.2.0) (sym is) a.2.1)

outside : (b : ℕ) → NoKind b → Outside b
outside b n = by (dec_lt 11 b) (dec_lt 14 b)
  where
    by : Dec (11 < b) → Dec (14 < b) → Outside b
    by d (yes z) = inr (inr z)
    by (yes y) (no z) = inr (inl (y, omega (arith, other b n ReadFlags)))
    by (no y) (no z) =
        let mid : b ≤ 7 = omega (arith, other b n PowerOnEdition, other b n ObserveTwo, other b n PowerOnResistors, other b n WriteRun) in
        let low : b ≤ 4 = omega (arith, other b n Reset, other b n Service, other b n Observe) in
        inl (omega (arith, other b n TakeFlags, other b n Write, other b n Set, other b n PowerOn))

pub kinds-listed : (b : ℕ) → NoKind b ↔ Outside b
kinds-listed b = (outside b, λ out e is l. among l out)
