-- An observation with its two values in each other's place comes to the same.
use mathlib.Core.Path.{◌≡◌, refl, sym, ap, subst, ◌∙◌}
use mathlib.Core.Bool.{Bool, true, false, ◌&&◌}
use native.Mathlib.Omega.{arith}
use lib.Dec.{leb, ltb}
use lib.IntN.{pos, negsuc}
use lib.Signed.{le_z}
use Rattle.base.specs.Pick.{pick}
use Rattle.base.specs.Told.{refused}
use Rattle.base.specs.Stamps.{elapsed_of}
use Rattle.log_event.specs.declared.spelled.SpelledTwo.{SpelledTwo}
use Rattle.state_parts.specs.Edges.{merged, pulse_of, no_flags, all_flags}
use Rattle.state_parts.specs.Numbers.{phase_number, band_number}
use Rattle.state_parts.specs.With.{with_flags}
use Rattle.state_parts.specs.declared.band.Band.{Band}
use Rattle.state_parts.specs.declared.sample.Sample.{Sample}
use Rattle.state_parts.specs.declared.state.State.{State}
use Rattle.state_parts.specs.declared.state.Model.{Model}
use Rattle.state_parts.specs.declared.state.Model.TheVariants.{Off, On}
use Rattle.state_settings.specs.Kept.{settings_ok}
use Rattle.state_valid.specs.Holds.{profile_ok, sample_ok, registers_ok, cycle_ok, watchdog_ok, state_ok}
use Rattle.settle_bands.specs.Joining.{exchanged}
use Rattle.settle_bands.proofs.Joining.{either_end}
use Rattle.settle_levels.specs.Comparators.{good_of}
use Rattle.settle_permission.specs.Bits.{iindpm_of, vindpm_of, thermal_of, shutdown_of, regulated_of}
use Rattle.settle_permission.specs.Limits.{reached_of}
use Rattle.settle_all.specs.Settle.{settle_of}
use Rattle.settle_all.specs.Theorems.{other_way}
use Rattle.settle_all.proofs.Ends.{ends-alike}
use Rattle.step_turns.specs.Ranges.{sample_in_range, two_in_range}
use Rattle.step_turns.specs.Turns.{held_sample, turn_of}
use Rattle.step_turns.specs.declared.later.Later.TheVariants.{Observe}
use Rattle.step_turns.specs.declared.turn.Turn.TheVariants.{Follows, FollowsOutside}
use Rattle.step_flags.specs.Edges.{seen_of, edges_of}
use Rattle.step_flags.specs.Expiry.{expired_of}
use Rattle.step_flags.specs.declared.between.Seen.{Seen}
use Rattle.step_kinds.specs.Answers.{Outcome}
use Rattle.step_kinds.specs.Changes.{changed}
use Rattle.step_kinds.specs.Finish.{finish_of}
use Rattle.step_kinds.specs.declared.change.Way.TheVariants.{Observes}
use Rattle.step_event.specs.Clock.{units_of, observed_of}
use Rattle.step_event.specs.Steps.{seen_on, observe_of, followed_of, moved_of, first_of, change_of, closed_by, turned_by, step_of}
use Rattle.laws_step.specs.Observed.{exchanged_two, held_other_way, SameOtherWay, ExchangedActAlike}

-- ---- its range
turned : (x a b c : Bool) → (((x && a) && b) && c) ≡ (((x && c) && b) && a)
turned false a b c = refl
turned true true true true = refl
turned true true true false = refl
turned true true false true = refl
turned true true false false = refl
turned true false true true = refl
turned true false true false = refl
turned true false false true = refl
turned true false false false = refl

range-alike : (t : SpelledTwo) → two_in_range (exchanged_two t).sample (exchanged_two t).second ≡ two_in_range t.sample t.second
unfolding two_in_range sample_in_range
range-alike t =
    let s = t.sample in
    turned (leb s.input 45000 && leb s.pack 45000 && le_z (negsuc 9999) s.ibat && le_z s.ibat (pos 5000)) (leb t.second 100000) (leb s.bits 63) (leb s.ts 100000)

-- ---- the model with the thermistors in each other's place
sample-alike : (x : Sample) → sample_ok (exchanged x) ≡ sample_ok x
unfolding sample_ok
sample-alike x =
    turned (leb x.input 45000 && leb x.pack 45000 && le_z (negsuc 9999) x.ibat && le_z x.ibat (pos 5000)) (leb x.secondts 100000) (leb x.bits 63) (leb x.ts 100000)

ok-alike : (s : State) → state_ok (other_way s) ≡ state_ok s
unfolding state_ok
ok-alike s =
    ap (λ (t : Bool).
    profile_ok s.profile && settings_ok s.profile s.settings && registers_ok s.profile s.registers && cycle_ok s.cycle s.profile s.phase && watchdog_ok s.watchdog s.profile && t && leb s.flags all_flags)
    (sample-alike s.sample)

seen_alike : (s : State) → seen_of (other_way s) ≡ seen_of s
unfolding seen_of
seen_alike s =
    ap (λ (b : Band). record {
      good = good_of s.latches;
      iindpm = iindpm_of s.sample;
      vindpm = vindpm_of s.sample;
      thermal = thermal_of s.sample;
      expired = expired_of s.profile s.watchdog;
      phase = phase_number s.phase;
      band = band_number b;
      inputover = s.latches.inputover;
      shutdown = shutdown_of s.sample;
      packover = s.latches.packover;
      limit = reached_of s.profile s.cycle;
    }) (either_end.joined s.bands)

-- ---- what it comes to
module _ (s : State) (x : Sample) where
  abbrev written : State
  written = observed_of s x

  abbrev after : State
  after = settle_of written true

  -- the end of the event, by what was seen before, the state that it settled to and what is seen of it
  abbrev ended_with : Seen → State → Seen → Outcome
  ended_with before settled seen =
      let edges = edges_of before seen in
      record { number = 0; place = 0; model = On (with_flags settled (merged s.flags edges)); pulse = pulse_of edges settled.settings.masks; handed = no_flags }

  abbrev one : Outcome
  one = finish_of (seen_of s) written Observes

  observed-alike : observed_of (other_way s) (exchanged x) ≡ other_way (observed_of s x)
  unfolding observed_of units_of regulated_of
  observed-alike = refl

  finished : finish_of (seen_of (other_way s)) (observed_of (other_way s) (exchanged x)) Observes ≡ record { number = 0; place = 0; model = held_other_way one.model; pulse = one.pulse; handed = no_flags }
  unfolding finish_of observed_of
  finished =
      (λ i. ended_with (seen_alike s i) (settle_of (observed-alike i) true) (seen_of (settle_of (observed-alike i) true)))
      ∙ (λ i. ended_with (seen_of s) (ends-alike written true i) (seen_of (ends-alike written true i)))
      ∙ ap (ended_with (seen_of s) (other_way after)) (seen_alike after)

  in-time : (late : Bool) → SameOtherWay (closed_by (On s) (pick late (refused 7) (changed (observed_of s x) Observes))) (closed_by (On (other_way s)) (pick late (refused 7) (changed (observed_of (other_way s) (exchanged x)) Observes)))
  unfolding finish_of seen_on
  in-time true = record { number = refl; place = refl; pulse = refl; handed = refl; model = λ z. absurd (omega (arith, z)) }
  in-time false = record {
    number = refl;
    place = refl;
    pulse = ap (λ (o : Outcome). o.pulse) finished;
    handed = refl;
    model = λ z. ap (λ (o : Outcome). o.model) finished;
  }

  moved : (t : Bool) → SameOtherWay (closed_by (On s) (pick t (moved_of s (Follows (Observe x))) (refused 5))) (closed_by (On (other_way s)) (pick t (moved_of (other_way s) (Follows (Observe (exchanged x)))) (refused 5)))
  unfolding moved_of followed_of observe_of
  moved true = in-time (ltb 3600000 (elapsed_of s.sample.stamp x.stamp))
  moved false = record { number = refl; place = refl; pulse = refl; handed = refl; model = λ z. absurd (omega (arith, z)) }

  turned_on : SameOtherWay (turned_by (On s) (Follows (Observe x))) (turned_by (On (other_way s)) (Follows (Observe (exchanged x))))
  unfolding turned_by change_of
  turned_on =
      subst (λ (t : Bool). SameOtherWay (closed_by (On s) (pick (state_ok s) (moved_of s (Follows (Observe x))) (refused 5))) (closed_by (On (other_way s)) (pick t (moved_of (other_way s) (Follows (Observe (exchanged x)))) (refused 5))))
      (sym (ok-alike s)) (moved (state_ok s))

-- outside its range it is refused with one number
outside-alike : (m : Model) → SameOtherWay (turned_by m FollowsOutside) (turned_by (held_other_way m) FollowsOutside)
unfolding turned_by change_of first_of moved_of
outside-alike Off = record { number = refl; place = refl; pulse = refl; handed = refl; model = λ z. absurd (omega (arith, z)) }
outside-alike (On s) = by (state_ok s) (state_ok (other_way s))
  where
    by : (t u : Bool) → SameOtherWay (closed_by (On s) (pick t (refused 5) (refused 5))) (closed_by (On (other_way s)) (pick u (refused 5) (refused 5)))
    by true true = record { number = refl; place = refl; pulse = refl; handed = refl; model = λ z. absurd (omega (arith, z)) }
    by true false = record { number = refl; place = refl; pulse = refl; handed = refl; model = λ z. absurd (omega (arith, z)) }
    by false true = record { number = refl; place = refl; pulse = refl; handed = refl; model = λ z. absurd (omega (arith, z)) }
    by false false = record { number = refl; place = refl; pulse = refl; handed = refl; model = λ z. absurd (omega (arith, z)) }

off-alike : (x : Sample) → SameOtherWay (turned_by Off (Follows (Observe x))) (turned_by Off (Follows (Observe (exchanged x))))
unfolding turned_by change_of first_of
off-alike x = record { number = refl; place = refl; pulse = refl; handed = refl; model = λ z. absurd (omega (arith, z)) }

ranged : (m : Model) (x : Sample) (b : Bool) → SameOtherWay (turned_by m (pick b (Follows (Observe x)) FollowsOutside)) (turned_by (held_other_way m) (pick b (Follows (Observe (exchanged x))) FollowsOutside))
ranged Off x true = off-alike x
ranged (On s) x true = turned_on s x
ranged m x false = outside-alike m

pub exchanged-act-alike : ExchangedActAlike step_of
unfolding step_of turn_of
exchanged-act-alike m t =
    let x = held_sample t.sample t.second in
    let b = two_in_range t.sample t.second in
    subst (λ (c : Bool). SameOtherWay (turned_by m (pick b (Follows (Observe x)) FollowsOutside)) (turned_by (held_other_way m) (pick c (Follows (Observe (exchanged x))) FollowsOutside)))
    (sym (range-alike t)) (ranged m x b)
