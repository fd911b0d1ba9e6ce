-- Done is phase 5, from the observation that ends the charge on; and 02, R-1: at the charge voltage a cycle that is done stays so.
use Prim.Native.Nat.{◌%◌, ◌≤◌}
use native.Mathlib.Omega.{arith}
use mathlib.Core.Path.{◌≡◌, sym, subst, ◌∙◌}
use mathlib.Core.Logic.{inl, inr}
use mathlib.Core.Bool.{true, false≢true}
use borrow.Author.Tests.{eqb-true}
use Rattle.state_parts.specs.declared.band.Band.{Band}
use Rattle.settle_levels.proofs.Points.{highest-share, share-below}
use Rattle.laws_account.specs.History.{Run, powered, ◌▸◌}
use Rattle.laws_account.specs.Held.{profile_of, sample_of, was_reset}
use Rattle.laws_account.specs.Valued.{setting_of}
use Rattle.laws_account.specs.Cycles.{number_at, phase_at}
use Rattle.laws_third.specs.Banded.{charge_to, BelowRecharge, AtVoltage}
use Rattle.laws_third.specs.Allowed.{Allowed}
use Rattle.laws_third.specs.Stages.{WasDone, CycleStarts}
use Rattle.laws_third.specs.Laws.{DoneIsFive, EndsInFive, StaysAtVoltage}
use Rattle.laws_third.proofs.Bands.{only-band}
use Rattle.laws_third.proofs.Allowing.{may-means}
use Rattle.laws_third.proofs.Cycling.{done-means}
use Rattle.laws_third.proofs.Ended.{done-five}

pub done-is-five : DoneIsFive
done-is-five r a d h = eqb-true (number_at phase_at r) 5 (done-five r ((done-means r a).test d) ((may-means r a).test h))

-- one band holds, and 97% of its charge voltage is less than all of it
full : (r : Run) → AtVoltage r → ¬ BelowRecharge r
full r at below =
    let same : below.0 ≡ at.0 = sym (only-band r below.0 below.1) ∙ only-band r at.0 at.1 in
    let high = subst (λ (b : Band). charge_to b r ≤ (sample_of r).pack) (sym same) at.2 in
    let share = highest-share (profile_of r) (setting_of 8 r % 4) in
    omega (arith, share-below (charge_to below.0 r) (sample_of r).pack _ share high, below.2)

pub ends-in-five : EndsInFive
ends-in-five r a ends = done-is-five r a (inl ends) ends.allowed

not-reset : (r : Run) → WasDone r → ¬ (was_reset r ≡ true)
not-reset (powered p) was reset = was
not-reset (r ▸ e) was reset = false≢true (sym was.0 ∙ reset)

runs_on : (r : Run) → WasDone r → Allowed r → AtVoltage r → ¬ CycleStarts r
runs_on r was may at (inl reset) = not-reset r was reset
runs_on r was may at (inr (inl stops)) = stops (may.good, may.permitted)
runs_on r was may at (inr (inr again)) = full r at again.2

pub stays-at-voltage : StaysAtVoltage
stays-at-voltage r a was may at =
    let on = runs_on r was may at in
    (on, done-is-five r a (inr (was, on)) may)
