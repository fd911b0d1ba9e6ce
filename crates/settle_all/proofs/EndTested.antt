-- 02, R-2: the rules for done with the test and without settle every state alike.
use mathlib.Core.Path.{◌≡◌, refl, ap}
use mathlib.Core.Bool.{Bool, true, false, not, ◌&&◌, and-true, true≢false}
use Rattle.settle_bands.specs.Joined.{pack_band}
use Rattle.settle_levels.specs.Comparators.{latches_of}
use Rattle.state_parts.specs.declared.band.Bands.{Bands}
use Rattle.state_parts.specs.declared.latches.Latches.{Latches}
use Rattle.state_parts.specs.declared.state.State.{State}
use Rattle.settle_phases.proofs.Again.{NoneBelow}
use Rattle.settle_phases.specs.Cycles.{cycle_of}
use Rattle.settle_phases.specs.Order.{is_taper, first_phase, judged_of, restarts_of, clears_of, ends_of, phase_of}
use Rattle.settle_phases.specs.declared.tests.Tests.{Tests}
use Rattle.settle_all.specs.Gather.{tests_of}
use Rattle.settle_all.specs.Settle.{Bander, forced_of, settled_of}
use Rattle.settle_all.specs.EndTested.{end_tested}
use Rattle.settle_all.specs.Theorems.{EndTestUnmet, TestDecidesNothing}
use Rattle.settle_all.proofs.Above.{none_below}

-- where phase 4 is judged short has ended, and taper holds
judged-alike : (p f s d sh lo ta below ready ending : Bool) → (not sh && (ta && below)) ≡ false
    → (is_taper (first_phase p f s d sh lo ta) && (ready && (ending && not below))) ≡ (is_taper (first_phase p f s d sh lo ta) && (ready && ending))
judged-alike false f s d sh lo ta below ready ending h = refl
judged-alike true true s d sh lo ta below ready ending h = refl
judged-alike true false true d sh lo ta below ready ending h = refl
judged-alike true false false true sh lo ta below ready ending h = refl
judged-alike true false false false true lo ta below ready ending h = refl
judged-alike true false false false false true ta below ready ending h = refl
judged-alike true false false false false false false below ready ending h = refl
judged-alike true false false false false false true true ready ending h = absurd (true≢false h)
judged-alike true false false false false false true false ready ending h = rw (and-true ending)

module _ (t : Tests) (above : NoneBelow t) where
  ends-alike : ends_of (end_tested t t.recharge) ≡ ends_of t
  unfolding ends_of judged_of
  ends-alike =
      judged-alike t.permitted t.fault t.suspended (t.done && not t.recharge) t.short t.low t.taper t.recharge (t.observed && t.tapered) t.ending above

  settled-alike : (s : State) (k : Latches) (b : Bands) → settled_of s k b (end_tested t t.recharge) ≡ settled_of s k b t
  unfolding settled_of cycle_of phase_of judged_of clears_of restarts_of
  settled-alike s k b = rw ends-alike

regrouped : (a b c d : Bool) → (a && (b && (c && d))) ≡ ((a && (b && c)) && d)
regrouped true true c d = refl
regrouped true false c d = refl
regrouped false b c d = refl

-- tests that no state has
abbrev unmet : Tests
unmet = record {
  permitted = true;
  fault = false;
  suspended = false;
  done = false;
  recharge = true;
  short = false;
  low = false;
  taper = true;
  observed = true;
  tapered = true;
  ending = true;
}

pub end-test-unmet : (band : Bander) → EndTestUnmet band
end-test-unmet band s observed =
    let f = forced_of s in
    let k = latches_of f.profile f.settings f.registers f.sample f.latches in
    let b = band f.profile f.registers f.sample f.bands in
    settled-alike (tests_of f k (pack_band b) observed) (none_below f f.latches (pack_band b) observed) f k b

pub test-decides-nothing : TestDecidesNothing
unfolding phase_of ends_of judged_of
test-decides-nothing = record {
  stood = λ t. regrouped (is_taper (judged_of t)) (t.observed && t.tapered) t.ending (not t.recharge);
  rules = (unmet, λ e. true≢false (ap is_taper e));
  settles = end-test-unmet;
}
