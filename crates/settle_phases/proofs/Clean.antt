-- If a charge runs, it is permitted and nothing is a fault.
use mathlib.Core.Path.{◌≡◌, refl}
use mathlib.Core.Bool.{Bool, true, false, false≢true}
use Rattle.state_parts.specs.Stages.{charging}
use Rattle.settle_phases.specs.Order.{judged_of, ends_of, phase_of}
use Rattle.settle_phases.specs.declared.tests.Tests.{Tests}

clean : (t : Tests) (p f : Bool) → t.permitted ≡ p → t.fault ≡ f → charging (phase_of t) ≡ true → (p ≡ true) × (f ≡ false)
unfolding phase_of ends_of judged_of
clean t true false a b e = (refl, refl)
clean t true true a b e = absurd (false≢true (simp (a, b) at e))
clean t false f a b e = absurd (false≢true (simp a at e))

pub charging-clean : (t : Tests) → charging (phase_of t) ≡ true → (t.permitted ≡ true) × (t.fault ≡ false)
charging-clean t = clean t t.permitted t.fault refl refl
