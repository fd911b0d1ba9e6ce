-- No limit is reached in the stage that a settling comes to.
use mathlib.Core.Path.{◌≡◌, refl, ◌∙◌}
use mathlib.Core.Bool.{Bool, true, false, ◌||◌}
use Rattle.settle_bands.specs.Joined.{pack_band}
use Rattle.base.specs.Pick.{pick}
use Rattle.base.proofs.Tests.{neither}
use Rattle.settle_levels.specs.Comparators.{latches_of}
use Rattle.state_parts.specs.Stages.{charging}
use Rattle.state_parts.specs.declared.band.Band.{Band}
use Rattle.state_parts.specs.declared.latches.Latches.{Latches}
use Rattle.state_parts.specs.declared.state.State.{State}
use Rattle.settle_phases.proofs.Clean.{charging-clean}
use Rattle.settle_phases.specs.Cycles.{cycle_of}
use Rattle.settle_phases.specs.Order.{clears_of, phase_of}
use Rattle.settle_phases.specs.declared.tests.Tests.{Tests}
use Rattle.settle_permission.proofs.Cleared.{reached-cleared}
use Rattle.settle_permission.specs.Bits.{shutdown_of}
use Rattle.settle_permission.specs.Limits.{reached_of}
use Rattle.settle_all.specs.Gather.{tests_of}
use Rattle.settle_all.specs.Settle.{Bander, forced_of, settled_of}
use Rattle.settle_all.specs.Theorems.{BelowLimits}

pick_same : (test b : Bool) → b ≡ false → pick test false b ≡ false
pick_same true b e = refl
pick_same false b e = e

module _ (s : State) (k : Latches) (b : Band) (o : Bool) where
  abbrev t : Tests
  t = tests_of s k b o

  unreached : t.fault ≡ false → reached_of s.profile s.cycle ≡ false
  unfolding tests_of
  unreached e = (neither (shutdown_of s.sample || k.packover) _ e).1

  below : charging (phase_of t) ≡ true → reached_of s.profile (cycle_of t s.cycle) ≡ false
  unfolding cycle_of
  below e = reached-cleared s.profile s.cycle _ (clears_of t) ∙ pick_same (clears_of t) _ (unreached (charging-clean t e).1)

pub below-limits : (band : Bander) → BelowLimits band
unfolding settled_of forced_of
below-limits band s o =
    let f = forced_of s in
    below f (latches_of f.profile f.settings f.registers f.sample f.latches) (pack_band (band f.profile f.registers f.sample f.bands)) o
