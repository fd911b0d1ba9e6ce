-- Wrong products break demand 3: lists of events after which they charge and this product doesn't, or the other way round.
use Prim.Native.Nat.{ℕ, zero, suc, ◌<◌}
use mathlib.Core.Path.{◌≡◌, refl, ap, subst}
use mathlib.Core.List.{List, [], ◌∷◌, ◌++◌}
use native.Mathlib.Omega.{arith}
use Rattle.base.specs.Units.{in_pack, below_share}
use Rattle.state_parts.specs.Edges.{merged, pulse_of, flags_number}
use Rattle.report_state.specs.Report.{fast_current, report_of, charge_clamp_of, input_limit_of}
use Rattle.settle_all.specs.Gather.{tests_of}
use Rattle.settle_all.specs.Settle.{settle_of, forced_of, settled_of}
use Rattle.settle_bands.specs.Effect.{share_of, cut_of, suspends_of}
use Rattle.settle_bands.specs.Thresholds.{band_by, marks_of, band_of}
use Rattle.settle_bands.specs.Joined.{either, joined_of}
use Rattle.settle_bands.specs.Holding.{stays_by, next_by, next_of, bands_of}
use Rattle.settle_levels.specs.Clamps.{base_of, pack_clamp_of, fault_of}
use Rattle.settle_levels.specs.Comparators.{latches_of, short_of, low_of, pack_over_of}
use Rattle.settle_levels.specs.Voltage.{charge_voltage_of, below_recharge, taper_of}
use Rattle.settle_permission.specs.Bits.{regulated_of}
use Rattle.settle_permission.specs.Ending.{ending_of}
use Rattle.settle_permission.specs.Limits.{reached_of}
use Rattle.settle_permission.specs.Permission.{permitted_of}
use Rattle.settle_phases.specs.Cycles.{cycle_of}
use Rattle.settle_phases.specs.Order.{phase_of, clears_of, ends_of, judged_of, restarts_of}
use Rattle.state_fields.specs.Words.{put_at, with_word, put_in}
use Rattle.state_fields.specs.Held.{gathered, start_words, taken_by, restored_by, words_ok, without_overrides}
use Rattle.state_table.specs.Rows.{fields, fields_of}
use Rattle.state_registers.specs.Resets.{reset_of, reset_registers}
use Rattle.state_registers.specs.Writes.{write_of, written_registers, written_to, recounted}
use Rattle.state_settings.specs.Kept.{settings_ok}
use Rattle.state_settings.specs.Numbered.{store_of, held_of, setting_numbers}
use Rattle.state_settings.specs.Ranges.{may_hold, range_of, ranges}
use Rattle.state_start.specs.Values.{start_state, start_settings, start_vsysmin, start_vreg, start_ichg}
use Rattle.state_valid.specs.Holds.{sample_ok, state_ok, profile_ok, registers_ok, cycle_ok, watchdog_ok}
use Rattle.step_event.specs.Clock.{observed_of, counted_of, cleared_if, times_of, units_of}
use Rattle.step_event.specs.Steps.{step_of, turned_by, change_of, first_of, moved_of, followed_of, observe_of, seen_on}
use Rattle.step_flags.specs.Edges.{edges_of, seen_of}
use Rattle.step_flags.specs.Expiry.{expired_of, expires_of}
use Rattle.step_kinds.specs.Finish.{finish_of}
use Rattle.step_kinds.specs.Plain.{set_of, written_of}
use Rattle.step_turns.specs.Ranges.{profile_in_range, edition_in_range, sample_in_range, two_in_range}
use Rattle.step_turns.specs.Turns.{turn_of}
use Rattle.laws_third.specs.Demand.{ran_by, ThirdOfLists}
use Rattle.state_parts.specs.declared.state.Model.{Model}
use Rattle.state_parts.specs.declared.state.Model.TheVariants.{Off, On}
use Rattle.log_event.specs.declared.Event.{Event}
use Rattle.state_parts.specs.declared.band.TsBand.TheVariants.{Normal, Cool, Warm}
use Rattle.laws_account.specs.Cycles.{Stage, trickle, precharge, fast}
use Rattle.laws_witness.specs.Days.{warm_at}
use Rattle.laws_witness.specs.Clauses.{ends}
use Rattle.laws_witness.proofs.Clauses.{each-tried}
use Rattle.laws_demands.specs.Product.{Step, Reporter}
use Rattle.laws_demands.specs.Refuted.{ThirdRefuted, OperatorsRefuted}
use Rattle.laws_demands.specs.Wrong.{works_once, refuses_always, ignores_events, reports_zeros, invents_times, powers_once}
use Rattle.laws_demands.specs.Slips.{times_after, halves_by_new, keeps_times}
use Rattle.laws_demands.specs.BasePoint.{step_by_base, until_end, customer, phases_by, CustomerTold}
use Rattle.laws_demands.specs.EndTest.{never_restarts}
use Rattle.laws_demands.specs.Thermistors.{by_first, by_second, by_warmer, mixed_as}
use Rattle.laws_demands.specs.Holding.{one_hold, keeps_entry, cold_late, left_normal}
use Rattle.laws_demands.proofs.Days.{powered, paper_day, second_in, unlimited_in, trickle_day, regulated_day, restart_day, beside_day, cool_beside_cold, cold_left, cold_both, moved_up, cool_both, cold_now, cool_suspends, left_for_cool, differ}
use Rattle.laws_demands.proofs.BasePoint.{customer-past}
use Rattle.laws_demands.proofs.Against.{after, current_by, agrees}
use Rattle.laws_demands.proofs.Invented.{stands}

-- it charges where this product doesn't, or doesn't where this product does
module _ (step : Step) (report : Reporter) where
  charges-there : (es : List Event) → 0 < current_by report (ran_by step Off es) → current_by report_of (after es) ≡ 0 → ¬ ThirdOfLists step report
  charges-there es some none d = omega (arith, (agrees step report d es).0 some, none)

  rests-there : (es : List Event) → current_by report (ran_by step Off es) ≡ 0 → 0 < current_by report_of (after es) → ¬ ThirdOfLists step report
  rests-there es none some d = omega (arith, (agrees step report d es).1 some, none)

  -- the same model after two lists of events, after one of which this product charges
  same-there : (es fs : List Event) → ran_by step Off es ≡ ran_by step Off fs → 0 < current_by report_of (after es) → current_by report_of (after fs) ≡ 0 → ¬ ThirdOfLists step report
  same-there es fs same some none d =
      omega (arith, (agrees step report d fs).0 (subst (λ (m : Model). 0 < current_by report m) same ((agrees step report d es).1 some)), none)

zero-always : (m : Model) → current_by reports_zeros m ≡ 0
unfolding reports_zeros
zero-always Off = refl
zero-always (On s) = refl

-- a stage's time invented: 0 at its limit, or a number where it has none
never : (s : Stage) → ¬ ThirdOfLists (invents_times s 0) report_of
unfolding invents_times step_of report_of fast_current charge_clamp_of charge_voltage_of input_limit_of share_of cut_of base_of pack_clamp_of in_pack below_share first_of state_ok moved_of profile_ok settings_ok registers_ok cycle_ok watchdog_ok sample_ok set_of observe_of finish_of settled_of tests_of may_hold store_of write_of observed_of reset_of settle_of edges_of merged pulse_of times_of units_of bands_of next_of next_by stays_by joined_of either band_of band_by marks_of cycle_of phase_of permitted_of suspends_of below_recharge taper_of ending_of flags_number start_state held_of words_ok range_of written_to counted_of expired_of cleared_if start_settings reset_registers start_vsysmin taken_by forced_of latches_of seen_of regulated_of clears_of ends_of judged_of fault_of reached_of setting_numbers fields_of ranges recounted written_registers gathered start_vreg start_ichg short_of low_of pack_over_of restarts_of fields turned_by change_of followed_of written_of turn_of profile_in_range edition_in_range sample_in_range two_in_range seen_on ran_by start_words restored_by without_overrides put_in with_word put_at expires_of
never trickle = charges-there _ _ (second_in trickle) (omega arith) refl
never precharge = charges-there _ _ (second_in precharge) (omega arith) refl
never fast = charges-there _ _ (second_in fast) (omega arith) refl

some-time : (s : Stage) (t : ℕ) → ¬ ThirdOfLists (invents_times s (suc t)) report_of
unfolding step_of report_of fast_current charge_clamp_of charge_voltage_of input_limit_of share_of cut_of base_of pack_clamp_of in_pack below_share first_of state_ok moved_of profile_ok settings_ok registers_ok cycle_ok watchdog_ok sample_ok set_of observe_of finish_of settled_of tests_of may_hold store_of write_of observed_of reset_of settle_of edges_of merged pulse_of times_of units_of bands_of next_of next_by stays_by joined_of either band_of band_by marks_of cycle_of phase_of permitted_of suspends_of below_recharge taper_of ending_of flags_number start_state held_of words_ok range_of written_to counted_of expired_of cleared_if start_settings reset_registers start_vsysmin taken_by forced_of latches_of seen_of regulated_of clears_of ends_of judged_of fault_of reached_of setting_numbers fields_of ranges recounted written_registers gathered start_vreg start_ichg short_of low_of pack_over_of restarts_of fields turned_by change_of followed_of written_of turn_of profile_in_range edition_in_range sample_in_range two_in_range seen_on ran_by start_words restored_by without_overrides put_in with_word put_at expires_of
some-time trickle t = rests-there _ _ (unlimited_in trickle) (ap (current_by report_of) (stands trickle t)) (omega arith)
some-time precharge t = rests-there _ _ (unlimited_in precharge) (ap (current_by report_of) (stands precharge t)) (omega arith)
some-time fast t = rests-there _ _ (unlimited_in fast) (ap (current_by report_of) (stands fast t)) (omega arith)

made : (s : Stage) (time : ℕ) → ¬ ThirdOfLists (invents_times s time) report_of
made s zero = never s
made s (suc t) = some-time s t

pub third-refuted : ThirdRefuted
unfolding refuses_always ignores_events works_once powers_once times_after halves_by_new keeps_times step_by_base never_restarts by_first by_second by_warmer mixed_as one_hold keeps_entry cold_late left_normal step_of report_of fast_current charge_clamp_of charge_voltage_of input_limit_of share_of cut_of base_of pack_clamp_of in_pack below_share first_of state_ok moved_of profile_ok settings_ok registers_ok cycle_ok watchdog_ok sample_ok set_of observe_of finish_of settled_of tests_of may_hold store_of write_of observed_of reset_of settle_of edges_of merged pulse_of times_of units_of bands_of next_of next_by stays_by joined_of either band_of band_by marks_of cycle_of phase_of permitted_of suspends_of below_recharge taper_of ending_of flags_number start_state held_of words_ok range_of written_to counted_of expired_of cleared_if start_settings reset_registers start_vsysmin taken_by forced_of latches_of seen_of regulated_of clears_of ends_of judged_of fault_of reached_of setting_numbers fields_of ranges recounted written_registers gathered start_vreg start_ichg short_of low_of pack_over_of restarts_of fields turned_by change_of followed_of written_of turn_of profile_in_range edition_in_range sample_in_range two_in_range seen_on ran_by start_words restored_by without_overrides put_in with_word put_at expires_of
third-refuted = record {
  refuses = λ r report. rests-there (refuses_always r) report paper_day refl (omega arith);
  zeros = λ step. rests-there step reports_zeros paper_day (zero-always (ran_by step Off paper_day)) (omega arith);
  ignores = λ report. rests-there ignores_events report paper_day refl (omega arith);
  once = λ report. same-there works_once report paper_day powered refl (omega arith) refl;
  power = λ report. same-there powers_once report paper_day (paper_day ++ powered) refl (omega arith) refl;
  times = made;
  after = charges-there times_after report_of trickle_day (omega arith) refl;
  halved = charges-there halves_by_new report_of regulated_day (omega arith) refl;
  uncleared = rests-there keeps_times report_of restart_day refl (omega arith);
  point = charges-there step_by_base report_of (until_end 7890) (omega arith) refl;
  restart = rests-there never_restarts report_of (customer 7890) refl (omega arith);
  first_ts = charges-there by_first report_of beside_day (omega arith) refl;
  second_ts = charges-there by_second report_of beside_day (omega arith) refl;
  warmer = charges-there by_warmer report_of beside_day (omega arith) refl;
  mixed_normal = charges-there (mixed_as Normal) report_of beside_day (omega arith) refl;
  mixed_cool = charges-there (mixed_as Cool) report_of beside_day (omega arith) refl;
  mixed_warm = charges-there (mixed_as Warm) report_of beside_day (omega arith) refl;
  held = rests-there one_hold report_of (cool_beside_cold ++ (cold_left ∷ [])) refl (omega arith);
  entry = rests-there keeps_entry report_of (cold_both ++ (moved_up ∷ [])) refl (omega arith);
  late = charges-there cold_late report_of (cool_both ++ (cold_now ∷ [])) (omega arith) refl;
  unjudged = charges-there left_normal report_of (cool_suspends ++ (left_for_cool ∷ [])) (omega arith) refl;
}

-- the customer's log, by this product and by the rule before
pub customer-told : CustomerTold
unfolding phases_by step_by_base never_restarts step_of report_of fast_current charge_clamp_of charge_voltage_of input_limit_of share_of cut_of base_of pack_clamp_of in_pack below_share first_of state_ok moved_of profile_ok settings_ok registers_ok cycle_ok watchdog_ok sample_ok set_of observe_of finish_of settled_of tests_of may_hold store_of write_of observed_of reset_of settle_of edges_of merged pulse_of times_of units_of bands_of next_of next_by stays_by joined_of either band_of band_by marks_of cycle_of phase_of permitted_of suspends_of below_recharge taper_of ending_of flags_number start_state held_of words_ok range_of written_to counted_of expired_of cleared_if start_settings reset_registers start_vsysmin taken_by forced_of latches_of seen_of regulated_of clears_of ends_of judged_of fault_of reached_of setting_numbers fields_of ranges recounted written_registers gathered start_vreg start_ichg short_of low_of pack_over_of restarts_of fields turned_by change_of followed_of written_of turn_of profile_in_range edition_in_range sample_in_range two_in_range seen_on ran_by start_words restored_by without_overrides put_in with_word put_at expires_of
customer-told = record { ours = refl; by_base = refl; unrestarted = refl }

-- at 7,900 an observation ends the charge, and that rule is in phase 4
pub operators-refuted : OperatorsRefuted
unfolding step_by_base step_of report_of fast_current charge_clamp_of charge_voltage_of input_limit_of share_of cut_of base_of pack_clamp_of in_pack below_share first_of state_ok moved_of profile_ok settings_ok registers_ok cycle_ok watchdog_ok sample_ok set_of observe_of finish_of settled_of tests_of may_hold store_of write_of observed_of reset_of settle_of edges_of merged pulse_of times_of units_of bands_of next_of next_by stays_by joined_of either band_of band_by marks_of cycle_of phase_of permitted_of suspends_of below_recharge taper_of ending_of flags_number start_state held_of words_ok range_of written_to counted_of expired_of cleared_if start_settings reset_registers start_vsysmin taken_by forced_of latches_of seen_of regulated_of clears_of ends_of judged_of fault_of reached_of setting_numbers fields_of ranges recounted written_registers gathered start_vreg start_ichg short_of low_of pack_over_of restarts_of fields turned_by change_of followed_of written_of turn_of profile_in_range edition_in_range sample_in_range two_in_range seen_on ran_by start_words restored_by without_overrides put_in with_word put_at expires_of
operators-refuted = record { point = λ d. differ 4 5 refl (d.ends (until_end 7900) (warm_at 7900 3) customer-past (each-tried ends).meets) }
