-- The clauses of the demand's first sentence, together: they hold exactly where a phase that charges is held.
use mathlib.Core.Path.{◌≡◌, refl}
use mathlib.Core.Bool.{Bool, true, false, not, ◌&&◌}
use Rattle.state_parts.specs.Stages.{charging}
use Rattle.laws_account.specs.History.{Run}
use Rattle.laws_account.specs.Judged.{permitted, suspended}
use Rattle.laws_account.specs.Refused.{Accepted}
use Rattle.laws_account.specs.Cycles.{is_done, limit_reached, phase_at}
use Rattle.laws_account.proofs.Past.{phase-keeps-rule}
use Rattle.laws_third.specs.Demand.{Charging}
use Rattle.laws_third.proofs.Means.{Means, and-means, not-means, re-means, by-test}
use Rattle.laws_third.proofs.Charges.{faulty, charges_at, charges-is}
use Rattle.laws_third.proofs.Allowing.{may-means}
use Rattle.laws_third.proofs.Cycling.{within-means, done-means}

apart : (p f s d l : Bool) → (p && (f && (s && (d && l)))) ≡ ((p && (f && s)) && (d && l))
apart true true true d l = refl
apart true true false d l = refl
apart true false s d l = refl
apart false f s d l = refl

pub tests-mean : (r : Run) → Accepted r → Means (charges_at phase_at r) (Charging r)
tests-mean r a =
    by-test (apart (permitted r) (not (faulty r)) (not (suspended r)) (not (is_done phase_at r)) (not (limit_reached phase_at r)))
    (re-means (λ h. record { allowed = h.0; undone = h.1.0; within = h.1.1 }) (λ h. (h.allowed, (h.undone, h.within)))
    (and-means (may-means r a) (and-means (not-means (done-means r a)) (within-means r a))))

pub charging-means : (r : Run) → Accepted r → Means (charging (phase_at r)) (Charging r)
charging-means r a = by-test (charges-is phase_at phase-keeps-rule r) (tests-mean r a)
