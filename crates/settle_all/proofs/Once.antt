-- Settling again changes nothing: EN_CHG stays stored, the comparators are at rest, and the tests judge the same phase and cycle.
use mathlib.Core.Path.{◌≡◌, refl}
use mathlib.Core.Bool.{Bool, true, false, not, ◌&&◌, ◌||◌}
use Rattle.settle_bands.specs.Joined.{pack_band}
use Rattle.settle_bands.specs.Held.{Rests}
use Rattle.base.specs.Pick.{pick}
use Rattle.settle_levels.proofs.Rest.{latches-rest}
use Rattle.settle_levels.specs.Clamps.{fault_of}
use Rattle.settle_levels.specs.Comparators.{latches_of}
use Rattle.state_parts.specs.declared.band.Bands.{Bands}
use Rattle.state_parts.specs.declared.latches.Latches.{Latches}
use Rattle.state_parts.specs.declared.settings.Settings.{Settings}
use Rattle.state_parts.specs.declared.state.State.{State}
use Rattle.settle_phases.proofs.Again.{NoneBelow, same}
use Rattle.settle_phases.specs.After.{after_of}
use Rattle.settle_phases.specs.Cycles.{cycle_of}
use Rattle.settle_phases.specs.Order.{clears_of, phase_of}
use Rattle.settle_phases.specs.declared.tests.Tests.{Tests}
use Rattle.settle_permission.proofs.Cleared.{reached-cleared}
use Rattle.settle_permission.specs.Bits.{shutdown_of}
use Rattle.settle_permission.specs.Limits.{reached_of}
use Rattle.settle_all.specs.Gather.{tests_of}
use Rattle.settle_all.specs.Settle.{Bander, stored_of, forced_of, settled_of}
use Rattle.settle_all.specs.Theorems.{SettlesOnce}
use Rattle.settle_all.proofs.Above.{none_below}

and_again : (a b : Bool) → ((a && b) && b) ≡ (a && b)
and_again true true = refl
and_again true false = refl
and_again false b = refl

stored-again : (fault : Bool) (s : Settings) → stored_of fault (stored_of fault s) ≡ stored_of fault s
stored-again fault s = simp (and_again s.enchg (not fault))

-- the tests of a state that was settled by t
tests-after : (s : State) (k : Latches) (b : Bands) (o : Bool)
    → let t = tests_of s k (pack_band b) o in
    tests_of (settled_of s k b t) k (pack_band b) false ≡ after_of t ((shutdown_of s.sample || k.packover) || pick (clears_of t) false (reached_of s.profile s.cycle))
unfolding tests_of settled_of after_of cycle_of
tests-after s k b o = simp (reached-cleared s.profile s.cycle)

module _ (s : State) (k : Latches) (b : Bands) (o : Bool) (above : NoneBelow (tests_of s k (pack_band b) o)) where
  abbrev t : Tests
  t = tests_of s k (pack_band b) o

  abbrev stays : Bool
  stays = shutdown_of s.sample || k.packover

  abbrev u : Tests
  u = after_of t (stays || pick (clears_of t) false (reached_of s.profile s.cycle))

  judged-again : (phase_of u ≡ phase_of t) × (cycle_of u (cycle_of t s.cycle) ≡ cycle_of t s.cycle)
  unfolding tests_of
  judged-again =
      same o t.tapered t.ending s.cycle.trickle s.cycle.precharge s.cycle.fast _ refl t.permitted stays (reached_of s.profile s.cycle) t.suspended
      t.done t.recharge t.short t.low t.taper above

  kept : settled_of (settled_of s k b t) k b u ≡ settled_of s k b t
  unfolding settled_of
  kept = simp (judged-again.0, judged-again.1)

  settled-again : settled_of (settled_of s k b t) k b (tests_of (settled_of s k b t) k (pack_band b) false) ≡ settled_of s k b t
  settled-again = rw (tests-after s k b o) kept

pub settles-once : (band : Bander) → Rests band → SettlesOnce band
unfolding forced_of settled_of
settles-once band rests s o =
    let fault = fault_of s.profile s.registers in
    let settings = stored_of fault s.settings in
    let k = latches_of s.profile settings s.registers s.sample s.latches in
    let b = band s.profile s.registers s.sample s.bands in
    simp (stored-again fault s.settings, latches-rest s.profile settings s.registers s.sample s.latches, rests s.profile s.registers s.sample s.bands) (settled-again (forced_of s) k b o (none_below (forced_of s) s.latches (pack_band b) o))
