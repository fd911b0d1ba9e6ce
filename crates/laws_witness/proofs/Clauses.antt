-- Each clause of demand 3 at the run that meets it and the run that doesn't: its test is computed, and the test means the clause.
use Prim.Native.Nat.{ℕ}
use mathlib.Core.Path.{◌≡◌, refl, sym, ap, ◌∙◌}
use mathlib.Core.List.{List, [], ◌∷◌}
use mathlib.Core.Bool.{Bool, true, false, not, ◌&&◌, true≢false}
use lib.Dec.{leb, eqb}
use lib.ListN.{get_or}
use borrow.Author.Tests.{eq-eqb}
use Rattle.base.specs.Units.{in_pack, below_share}
use Rattle.base.specs.Volts.{millivolts_of}
use Rattle.state_parts.specs.Numbers.{band_number}
use Rattle.state_parts.specs.declared.band.Band.{Band}
use Rattle.state_parts.specs.declared.band.Band.TheVariants.{Normal, Cold, Cool, Warm, Hot, Mixed}
use Rattle.state_parts.specs.declared.band.TsBand.TheVariants as ts
use Rattle.state_settings.specs.Ranges.{ranges, range_of}
use Rattle.state_valid.specs.Holds.{profile_ok, sample_ok}
use Rattle.settle_bands.specs.Joined.{is_band}
use Rattle.laws_account.specs.History.{Run, since, sum_after, count, up_to}
use Rattle.laws_account.specs.Held.{profile_of, sample_of, elapsed, was_observed, was_reset, was_served, unserved, expired, ichg, overridden, cells_of, field_at}
use Rattle.laws_account.specs.Valued.{pin_fault, start_value, setting_of}
use Rattle.laws_account.specs.Judged.{vbat, pack_clamp, base_at, input_ok, input_over, input_good, short, low, pack_over, suspended, charge_voltage, permitted, tapering, recharge_due, ending}
use Rattle.laws_account.specs.Bands.{first_ts, second_ts, cold_at, hot_at, cool_at, warm_at, ts_band_at, band_at}
use Rattle.laws_account.specs.Cycles.{trickle, precharge, fast, limit_of, reaches, units_after, gave, is_done, was_done, restarts, starts, time_in, time_found, limit_found, fault, charge_ends, phase_by, limit_reached, phases_of, phase_at}
use Rattle.laws_account.specs.Refused.{Accepted, refusal_in}
use Rattle.laws_third.specs.Banded.{InBand}
use Rattle.laws_third.proofs.Means.{Means, eqb-means, false-means, and-means, not-means, re-means}
use Rattle.laws_third.proofs.TsBands.{is-means}
use Rattle.laws_third.proofs.Bands.{one-band, suspended-means, tapering-means, recharge-means, voltage-means}
use Rattle.laws_third.proofs.Crossings.{ok-means, over-means, good-means, short-means, low-means, pack-means}
use Rattle.laws_third.proofs.Ended.{may_charge, restarts_now, ends_now}
use Rattle.laws_third.proofs.Allowing.{allowed, allowed-means, fault-means, may-means}
use Rattle.laws_third.proofs.Cycling.{was-means, reached-means, within-means, restarts-means, starts-means, ends-means, done-means}
use Rattle.laws_third.proofs.Charges.{faulty, charges_at}
use Rattle.laws_third.proofs.Charging.{tests-mean}
use Rattle.laws_witness.specs.Days.{day, slow, unattended, beside, turning, packs, inputs, stays, warm}
use Rattle.laws_witness.specs.Clauses.{Part, good_input, permission, no_fault, no_suspension, not_done, no_limit, part_of, Stop, lacks, cool_beside_warm, lacking, stopped, place_of, Clause, part, ok_input, over_input, shorted, low_pack, over_pack, tapers, below_recharge, at_voltage, at_end, lasting, banded, reached, restarted, started, ends, ended, stays_done, charges, in_trickle, in_precharge, otherwise, clamped, ClauseHolds, meeting, failing, EachTried, EachAlone}
use Rattle.laws_witness.proofs.Accepting.{accepts, accepts-means}

-- the test of each part and of each clause
abbrev part_test : Part → Run → Bool
part_test good_input r = input_good r
part_test permission r = allowed r
part_test no_fault r = not (faulty r)
part_test no_suspension r = not (suspended r)
part_test not_done r = not (is_done phase_at r)
part_test no_limit r = not (limit_reached phase_at r)

part-means : (p : Part) (r : Run) → Accepted r → Means (part_test p r) (part_of p r)
part-means good_input r a = good-means r
part-means permission r a = allowed-means r
part-means no_fault r a = not-means (fault-means r a)
part-means no_suspension r a = not-means (suspended-means r)
part-means not_done r a = not-means (done-means r a)
part-means no_limit r a = within-means r a

-- a band is known by its number
abbrev numbered : ℕ → Band
numbered n = get_or (Normal ∷ Cold ∷ Hot ∷ Cool ∷ Warm ∷ []) n Mixed

numbers-back : (b : Band) → numbered (band_number b) ≡ b
numbers-back Normal = refl
numbers-back Cold = refl
numbers-back Hot = refl
numbers-back Cool = refl
numbers-back Warm = refl
numbers-back Mixed = refl

band-means : (b : Band) (r : Run) → Means (eqb (band_number (band_at r)) (band_number b)) (InBand b r)
band-means b r =
    re-means (λ e. (one-band r b).1 (sym (numbers-back (band_at r)) ∙ ap numbered e ∙ numbers-back b)) (λ h. ap band_number ((one-band r b).0 h))
    (eqb-means (band_number (band_at r)) (band_number b))

abbrev test : Clause → Run → Bool
test (part p) r = part_test p r
test ok_input r = input_ok r
test over_input r = input_over r
test shorted r = short r
test low_pack r = low r
test over_pack r = pack_over r
test tapers r = tapering r
test below_recharge r = recharge_due r
test at_voltage r = leb (millivolts_of (charge_voltage r)) (sample_of r).pack
test (at_end k b) r = is_band b (ts_band_at k r)
test (lasting k b) r = is_band b (ts_band_at k r)
test (banded b) r = eqb (band_number (band_at r)) (band_number b)
test restarted r = restarts_now r
test started r = starts phase_at r
test ends r = ends_now r
test (reached s) r = reaches (limit_of s (profile_of r)) (time_in phase_at s r)
test ended r = is_done phase_at r
test stays_done r = was_done phase_at r && (may_charge r && leb (millivolts_of (charge_voltage r)) (sample_of r).pack)
test charges r = charges_at phase_at r
test in_trickle r = charges_at phase_at r && short r
test in_precharge r = charges_at phase_at r && (not (short r) && low r)
test otherwise r = charges_at phase_at r && (not (short r) && not (low r))
test clamped r = not (overridden ichg r)

means : (c : Clause) (r : Run) → Accepted r → Means (test c r) (ClauseHolds c r)
means (part p) r a = part-means p r a
means ok_input r a = ok-means r
means over_input r a = over-means r
means shorted r a = short-means r a
means low_pack r a = low-means r a
means over_pack r a = pack-means r a
means tapers r a = tapering-means r a
means below_recharge r a = recharge-means r a
means at_voltage r a = voltage-means r a
means (at_end k b) r a = is-means b k r
means (lasting k b) r a = is-means b k r
means (banded b) r a = band-means b r
means (reached s) r a = reached-means s r a
means restarted r a = restarts-means r a
means started r a = starts-means r a
means ends r a = ends-means r a
means ended r a = done-means r a
means stays_done r a =
    re-means (λ h. (h.0, h.1.0, h.1.1)) (λ h. (h.0, (h.1, h.2))) (and-means (was-means r) (and-means (may-means r a) (voltage-means r a)))
means charges r a = tests-mean r a
means in_trickle r a = and-means (tests-mean r a) (short-means r a)
means in_precharge r a =
    re-means (λ h. (h.0, h.1.0, h.1.1)) (λ h. (h.0, (h.1, h.2)))
    (and-means (tests-mean r a) (and-means (not-means (short-means r a)) (low-means r a)))
means otherwise r a =
    re-means (λ h. (h.0, h.1.0, h.1.1)) (λ h. (h.0, (h.1, h.2)))
    (and-means (tests-mean r a) (and-means (not-means (short-means r a)) (not-means (low-means r a))))
means clamped r a = false-means (overridden ichg r)

-- what is computed: the clause at the run that meets it and at the one that doesn't, and that both are accepted
abbrev Computed : Clause → Type 0
Computed c =
    (test c (meeting c) ≡ true) × (test c (failing c) ≡ false) × (accepts (meeting c) ≡ true) × (accepts (failing c) ≡ true)

computed : (c : Clause) → Computed c
unfolding day slow unattended beside turning packs inputs stays warm in_pack below_share since sum_after count up_to profile_of sample_of elapsed was_observed was_reset was_served unserved expired cells_of field_at pin_fault start_value setting_of vbat pack_clamp base_at input_ok input_over input_good short low pack_over cold_at hot_at cool_at warm_at ts_band_at band_at suspended charge_voltage permitted tapering recharge_due ending units_after gave is_done was_done restarts starts time_in time_found limit_found fault charge_ends phase_by limit_reached phases_of phase_at accepts refusal_in profile_ok sample_ok range_of ranges
computed (part good_input) = (refl, refl, refl, refl)
computed (part permission) = (refl, refl, refl, refl)
computed (part no_fault) = (refl, refl, refl, refl)
computed (part no_suspension) = (refl, refl, refl, refl)
computed (part not_done) = (refl, refl, refl, refl)
computed (part no_limit) = (refl, refl, refl, refl)
computed ok_input = (refl, refl, refl, refl)
computed over_input = (refl, refl, refl, refl)
computed shorted = (refl, refl, refl, refl)
computed low_pack = (refl, refl, refl, refl)
computed over_pack = (refl, refl, refl, refl)
computed tapers = (refl, refl, refl, refl)
computed below_recharge = (refl, refl, refl, refl)
computed at_voltage = (refl, refl, refl, refl)
computed (at_end first_ts ts.Normal) = (refl, refl, refl, refl)
computed (at_end first_ts ts.Cold) = (refl, refl, refl, refl)
computed (at_end first_ts ts.Cool) = (refl, refl, refl, refl)
computed (at_end first_ts ts.Warm) = (refl, refl, refl, refl)
computed (at_end first_ts ts.Hot) = (refl, refl, refl, refl)
computed (at_end second_ts ts.Normal) = (refl, refl, refl, refl)
computed (at_end second_ts ts.Cold) = (refl, refl, refl, refl)
computed (at_end second_ts ts.Cool) = (refl, refl, refl, refl)
computed (at_end second_ts ts.Warm) = (refl, refl, refl, refl)
computed (at_end second_ts ts.Hot) = (refl, refl, refl, refl)
computed (lasting first_ts ts.Normal) = (refl, refl, refl, refl)
computed (lasting first_ts ts.Cold) = (refl, refl, refl, refl)
computed (lasting first_ts ts.Cool) = (refl, refl, refl, refl)
computed (lasting first_ts ts.Warm) = (refl, refl, refl, refl)
computed (lasting first_ts ts.Hot) = (refl, refl, refl, refl)
computed (lasting second_ts ts.Normal) = (refl, refl, refl, refl)
computed (lasting second_ts ts.Cold) = (refl, refl, refl, refl)
computed (lasting second_ts ts.Cool) = (refl, refl, refl, refl)
computed (lasting second_ts ts.Warm) = (refl, refl, refl, refl)
computed (lasting second_ts ts.Hot) = (refl, refl, refl, refl)
computed (banded Normal) = (refl, refl, refl, refl)
computed (banded Cold) = (refl, refl, refl, refl)
computed (banded Cool) = (refl, refl, refl, refl)
computed (banded Warm) = (refl, refl, refl, refl)
computed (banded Hot) = (refl, refl, refl, refl)
computed (banded Mixed) = (refl, refl, refl, refl)
computed restarted = (refl, refl, refl, refl)
computed started = (refl, refl, refl, refl)
computed ends = (refl, refl, refl, refl)
computed (reached trickle) = (refl, refl, refl, refl)
computed (reached precharge) = (refl, refl, refl, refl)
computed (reached fast) = (refl, refl, refl, refl)
computed ended = (refl, refl, refl, refl)
computed stays_done = (refl, refl, refl, refl)
computed charges = (refl, refl, refl, refl)
computed in_trickle = (refl, refl, refl, refl)
computed in_precharge = (refl, refl, refl, refl)
computed otherwise = (refl, refl, refl, refl)
computed clamped = (refl, refl, refl, refl)

pub each-tried : EachTried
each-tried c =
    let k = computed c in
    let met = (accepts-means (meeting c)).fact k.2 in
    let failed = (accepts-means (failing c)).fact k.3 in
    record {
      meets = (means c (meeting c) met).fact k.0;
      fails = λ h. true≢false (sym ((means c (failing c) failed).test h) ∙ k.1);
      met = met;
      failed = failed;
    }

-- each part at each run that was stopped by one
abbrev part_tests : Run → List Bool
part_tests r =
    part_test good_input r ∷ part_test permission r ∷ part_test no_fault r ∷ part_test no_suspension r ∷ part_test not_done r ∷ part_test no_limit r ∷ []

abbrev others : ℕ → List Bool
others n = not (eqb n 0) ∷ not (eqb n 1) ∷ not (eqb n 2) ∷ not (eqb n 3) ∷ not (eqb n 4) ∷ not (eqb n 5) ∷ []

stopped-tests : (c : Stop) → part_tests (stopped c) ≡ others (place_of (lacking c))
unfolding day slow unattended beside turning packs inputs stays in_pack below_share since sum_after count up_to profile_of sample_of elapsed was_observed was_reset was_served unserved expired cells_of field_at pin_fault start_value setting_of vbat pack_clamp base_at input_ok input_over input_good short low pack_over cold_at hot_at cool_at warm_at ts_band_at band_at suspended charge_voltage permitted tapering recharge_due ending units_after gave is_done was_done restarts starts time_in time_found limit_found fault charge_ends phase_by limit_reached phases_of phase_at
stopped-tests (lacks good_input) = refl
stopped-tests (lacks permission) = refl
stopped-tests (lacks no_fault) = refl
stopped-tests (lacks no_suspension) = refl
stopped-tests (lacks not_done) = refl
stopped-tests (lacks no_limit) = refl
stopped-tests cool_beside_warm = refl

at_place : (c : Stop) (d : Part) → part_test d (stopped c) ≡ not (eqb (place_of (lacking c)) (place_of d))
at_place c good_input = ap (λ l. get_or l 0 false) (stopped-tests c)
at_place c permission = ap (λ l. get_or l 1 false) (stopped-tests c)
at_place c no_fault = ap (λ l. get_or l 2 false) (stopped-tests c)
at_place c no_suspension = ap (λ l. get_or l 3 false) (stopped-tests c)
at_place c not_done = ap (λ l. get_or l 4 false) (stopped-tests c)
at_place c no_limit = ap (λ l. get_or l 5 false) (stopped-tests c)

own-place : (p : Part) → eqb (place_of p) (place_of p) ≡ true
own-place p = eq-eqb (place_of p) (place_of p) refl

-- of cool beside warm it is computed that its run is accepted, of the others each clause has it
stopped-accepted : (c : Stop) → Accepted (stopped c)
stopped-accepted (lacks p) = (each-tried (part p)).failed
stopped-accepted cool_beside_warm = (each-tried (banded Mixed)).met

pub each-alone : EachAlone
each-alone c =
    let a = stopped-accepted c in
    record {
      accepted = a;
      fails = λ h. true≢false (sym ((part-means (lacking c) (stopped c) a).test h) ∙ at_place c (lacking c) ∙ ap not (own-place (lacking c)));
      others = λ d e. (part-means d (stopped c) a).fact (at_place c d ∙ ap not e);
    }
