-- Where the rule for done holds a charge ends; and at the charge voltage one that is done stays done.
use mathlib.Core.Path.{◌≡◌, refl}
use mathlib.Core.Bool.{Bool, true, false}
use Rattle.settle_levels.proofs.Points.{full-at-voltage}
use Rattle.settle_levels.specs.Clamps.{base_of}
use Rattle.settle_levels.specs.Voltage.{charge_voltage_of, below_recharge}
use Rattle.state_parts.specs.declared.phase.Phase.TheVariants.{Done}
use Rattle.state_parts.specs.declared.state.State.{State}
use Rattle.settle_phases.specs.Order.{is_taper, judged_of, ends_of, phase_of}
use Rattle.settle_phases.specs.declared.tests.Tests.{Tests}
use Rattle.settle_permission.specs.Ending.{ending_of}
use Rattle.settle_all.specs.Gather.{tests_of}
use Rattle.settle_all.specs.Settle.{Bander, forced_of, settled_of}
use Rattle.settle_all.specs.Theorems.{tested_in, TaperEnds, Charged, ChargedStays}

-- the recharge point isn't below: EN_CHG, which a pin fault forces, is no part of the charge voltage
above : (band : Bander) (s : State) (observed : Bool) → Charged band s → (tested_in band s observed).recharge ≡ false
unfolding tests_of settled_of forced_of charge_voltage_of base_of below_recharge
above band s observed h = full-at-voltage s.profile s.settings (charge_voltage_of s.profile s.settings s.registers _) s.sample h

ends : (t : Tests) → is_taper (judged_of t) ≡ true → t.observed ≡ true → t.tapered ≡ true → t.ending ≡ true → phase_of t ≡ Done
unfolding phase_of ends_of
ends t judged observed tapered ending = rw (judged, observed, tapered, ending)

stays : (t : Tests) → t.recharge ≡ false → t.done ≡ true → t.permitted ≡ true → t.fault ≡ false → t.suspended ≡ false → phase_of t ≡ Done
unfolding phase_of ends_of judged_of
stays t full done permitted sound mild = rw (full, done, permitted, sound, mild)

pub taper-ends : (band : Bander) → TaperEnds band
unfolding settled_of forced_of tests_of ending_of
taper-ends band s held judged ending = ends (tested_in band s true) judged refl held ending

pub charged-stays : (band : Bander) → ChargedStays band
unfolding settled_of forced_of tests_of
charged-stays band s observed h done permitted sound mild = stays (tested_in band s observed) (above band s observed h) done permitted sound mild
