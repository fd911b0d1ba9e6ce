-- Each wrong product and each slip breaks demand 2: a list of events or a log at which it and this product come to different numbers.
use Prim.Native.Nat.{ℕ, suc, ◌≤◌}
use mathlib.Core.Path.{◌≡◌, refl, sym, ap, subst, ◌∙◌}
use mathlib.Core.List.{List, [], ◌∷◌}
use native.Mathlib.Omega.{arith}
use lib.ListN.{length, get_or}
use Rattle.base.specs.Units.{in_pack, below_share}
use Rattle.state_parts.specs.Edges.{merged, pulse_of, flags_number}
use Rattle.report_state.specs.Report.{fast_current, report_of, charge_clamp_of, input_limit_of}
use Rattle.settle_all.specs.Gather.{tests_of}
use Rattle.settle_all.specs.Settle.{settle_of, forced_of, settled_of}
use Rattle.settle_bands.specs.Effect.{share_of, cut_of, suspends_of}
use Rattle.settle_bands.specs.Thresholds.{band_by, marks_of, band_of}
use Rattle.settle_bands.specs.Joined.{either, joined_of, pack_band}
use Rattle.settle_bands.specs.Holding.{stays_by, next_by, next_of, bands_of}
use Rattle.settle_levels.specs.Clamps.{base_of, pack_clamp_of, fault_of}
use Rattle.settle_levels.specs.Comparators.{latches_of, short_of, low_of, pack_over_of}
use Rattle.settle_levels.specs.Voltage.{charge_voltage_of, below_recharge, taper_of}
use Rattle.settle_permission.specs.Bits.{regulated_of}
use Rattle.settle_permission.specs.Ending.{ending_of}
use Rattle.settle_permission.specs.Limits.{reached_of}
use Rattle.settle_permission.specs.Permission.{permitted_of}
use Rattle.settle_phases.specs.Cycles.{cycle_of}
use Rattle.settle_phases.specs.Order.{phase_of, clears_of, ends_of, judged_of, restarts_of}
use Rattle.state_fields.specs.Words.{put_at, with_word, put_in}
use Rattle.state_fields.specs.Held.{gathered, start_words, taken_by, restored_by, words_ok, without_overrides}
use Rattle.state_table.specs.Rows.{fields, fields_of}
use Rattle.state_registers.specs.Resets.{reset_of, reset_registers}
use Rattle.state_registers.specs.Writes.{write_of, written_registers, written_to, recounted}
use Rattle.state_settings.specs.Kept.{settings_ok}
use Rattle.state_settings.specs.Numbered.{store_of, held_of, setting_numbers}
use Rattle.state_settings.specs.Ranges.{may_hold, range_of, ranges}
use Rattle.state_start.specs.Values.{start_state, start_settings, start_vsysmin, start_vreg, start_ichg}
use Rattle.state_valid.specs.Holds.{sample_ok, state_ok, profile_ok, registers_ok, cycle_ok, watchdog_ok}
use Rattle.step_event.specs.Clock.{observed_of, counted_of, cleared_if, times_of, units_of}
use Rattle.step_event.specs.Steps.{model_ok, step_of, turned_by, change_of, first_of, moved_of, followed_of, observe_of, seen_on}
use Rattle.step_flags.specs.Edges.{edges_of, seen_of}
use Rattle.step_flags.specs.Expiry.{expired_of, expires_of}
use Rattle.step_kinds.specs.Finish.{finish_of}
use Rattle.step_kinds.specs.Plain.{set_of, written_of}
use Rattle.step_turns.specs.Ranges.{profile_in_range, edition_in_range, sample_in_range, two_in_range}
use Rattle.step_turns.specs.Turns.{first_edition, turn_of, held_profile, held_sample}
use Rattle.laws_third.specs.Demand.{ran_by}
use Rattle.base.specs.Refusals.{refusal_number}
use Rattle.base.specs.Writing.{Wrote}
use Rattle.state_parts.specs.Numbers.{phase_number, band_number}
use Rattle.state_parts.specs.With.{with_sample}
use Rattle.state_parts.specs.declared.state.State.{State}
use Rattle.state_parts.specs.declared.state.Model.TheVariants.{On}
use Rattle.log_event.specs.declared.Event.TheVariants.{PowerOn, Write, Observe, Service, Reset}
use Rattle.log_number.specs.Number.{read_number, read_groups}
use Rattle.log_record.specs.Records.{record_at, read_record}
use Rattle.log_record.specs.Items.{read_items}
use Rattle.report_state.specs.Lines.{line_of}
use Rattle.step_event.specs.Pages.{page_of, whole_of}
use Rattle.step_event.specs.Walks.{walk_of, start_walk, met_by}
use Rattle.step_kinds.specs.Answers.{Outcome}
use Rattle.laws_account.specs.Cycles.{Stage, trickle, precharge, fast}
use Rattle.laws_account.proofs.Powering.{powered_of}
use Rattle.step_event.proofs.Numbered.{some_number}
use Rattle.log_number.specs.Promises.{Bytes}
use Rattle.laws_format.specs.Ours.{our_read}
use Rattle.laws_format.specs.Readers.{Writes}
use Rattle.laws_format.specs.Wrong.{reads_swapped, writes_swapped, reads_after_bits, reads_first, refuses_with_one, swaps_two_and_three, tells_start}
use Rattle.laws_format.proofs.Examples.{paper-bytes}
use Rattle.laws_format.proofs.Refutes.{format-refuted}
use Rattle.laws_demands.specs.Product.{Step, Reporter, Walker, LogLines, Product}
use Rattle.laws_demands.specs.Printed.{Log, log_from, printed_by}
use Rattle.laws_demands.specs.Second.{Moves, Reports, SecondDemand}
use Rattle.laws_demands.specs.Refuted.{StepBreaks, ReportBreaks, WalkBreaks, SecondRefuted}
use Rattle.laws_demands.specs.Wrong.{refuses_always, reports_zeros, ignores_events, works_once, invents_times, invents_counts, writes_constant, drops_stray}
use Rattle.laws_demands.specs.BasePoint.{seen_at, until_taper, until_end, step_by_base}
use Rattle.laws_demands.specs.EndTest.{never_restarts}
use Rattle.laws_demands.specs.Thermistors.{by_first, by_second, by_warmer, mixed_as}
use Rattle.laws_demands.specs.Holding.{one_hold, keeps_entry, cold_late, left_normal}
use Rattle.laws_demands.specs.Slips.{same_write, scales_precharge, times_after, judges_cool, cool_first}
use Rattle.laws_demands.proofs.Days.{paper, sample, seen, sampled, powered, besides, cool_beside_cold, cold_left, cold_both, moved_up, cool_both, cold_now, cool_suspends, left_for_cool, cool_day, paper_day, day, of, differ, no_byte, one-byte}
use Rattle.laws_demands.proofs.Against.{as-ours, shown-as-ours}
use Rattle.laws_demands.proofs.Only.{same_log}
use Rattle.laws_demands.proofs.Parts.{parts-break}
use Rattle.laws_demands.proofs.Soldered.{broken}
use Rattle.laws_demands.proofs.Typed as typed

-- what breaks the part of demand 2 that a call is held to breaks it for every product with that call
step-breaks : (step : Step) → ¬ Moves step → StepBreaks step
step-breaks step breaks p e d = breaks (subst Moves e d.moves)

report-breaks : (report : Reporter) → ¬ Reports report → ReportBreaks report
report-breaks report breaks p e d = breaks (subst Reports e d.reports)

-- a state with a TS whose band isn't the one held: it may be held, and no run leaves it
abbrev stray : State
stray = with_sample (powered_of (held_profile paper first_edition)) (held_sample (sample 0 0 0 80000 0) 80000)

-- a stage's time at the power-on, and after an observation with another stage's or its own before it
invented : (s : Stage) (time : ℕ) → ¬ Moves (invents_times s time)
unfolding invents_times step_of report_of fast_current charge_clamp_of charge_voltage_of input_limit_of share_of cut_of base_of pack_clamp_of in_pack below_share first_of state_ok moved_of profile_ok settings_ok registers_ok cycle_ok watchdog_ok sample_ok set_of observe_of finish_of settled_of tests_of may_hold store_of write_of observed_of reset_of settle_of edges_of merged pulse_of times_of units_of bands_of next_of next_by stays_by joined_of either band_of band_by marks_of cycle_of phase_of permitted_of suspends_of below_recharge taper_of ending_of flags_number start_state held_of words_ok range_of written_to counted_of expired_of cleared_if start_settings reset_registers start_vsysmin taken_by forced_of latches_of seen_of regulated_of clears_of ends_of judged_of fault_of reached_of setting_numbers fields_of ranges recounted written_registers gathered start_vreg start_ichg short_of low_of pack_over_of restarts_of fields turned_by change_of followed_of written_of turn_of profile_in_range edition_in_range sample_in_range two_in_range seen_on ran_by start_words restored_by without_overrides put_in with_word put_at expires_of
invented trickle time d =
    let y : time ≡ 0 = ap (of (λ s. s.cycle.trickle)) (as-ours _ d [] (PowerOn paper)) in
    let z : time ≡ 2000 = ap (of (λ s. s.cycle.trickle)) (as-ours _ d (day paper (seen 1000 3000 ∷ [])) (Observe (seen 2000 3000))) in
    omega (arith, y, z)
invented precharge time d =
    let y : time ≡ 0 = ap (of (λ s. s.cycle.precharge)) (as-ours _ d [] (PowerOn paper)) in
    let z : time ≡ 2000 = ap (of (λ s. s.cycle.precharge)) (as-ours _ d (day paper (seen 1000 5000 ∷ [])) (Observe (seen 2000 5000))) in
    omega (arith, y, z)
invented fast time d =
    let y : time ≡ 0 = ap (of (λ s. s.cycle.fast)) (as-ours _ d [] (PowerOn paper)) in
    let z : time ≡ 2000 = ap (of (λ s. s.cycle.fast)) (as-ours _ d paper_day (Observe (seen 2000 7600))) in
    omega (arith, y, z)

-- records read: none of no byte, one of a record's
abbrev counted : LogLines → ℕ
counted w = get_or w.last 0 0

read_count : (p : Product) → SecondDemand p → (bytes : List ℕ) → Bytes bytes → length bytes ≤ 65536
    → counted (p.walk bytes) ≡ length (log_from our_read (suc (length bytes)) bytes 0).events
unfolding printed_by
read_count p d bytes are short =
    ap counted (d.walks.walks bytes are short) ∙ ap (λ (l : Log). length l.events) (same_log p.read d.reads bytes are (suc (length bytes)) 0)

counts-break : (count : ℕ) → WalkBreaks (invents_counts count)
unfolding invents_counts whole_of page_of start_walk walk_of met_by line_of log_from record_at read_record read_items read_number read_groups step_of report_of fast_current charge_clamp_of charge_voltage_of input_limit_of share_of cut_of base_of pack_clamp_of in_pack below_share first_of state_ok moved_of profile_ok settings_ok registers_ok cycle_ok watchdog_ok sample_ok set_of observe_of finish_of settled_of tests_of may_hold store_of write_of observed_of reset_of settle_of edges_of merged pulse_of times_of units_of bands_of next_of next_by stays_by joined_of either band_of band_by marks_of cycle_of phase_of permitted_of suspends_of below_recharge taper_of ending_of flags_number start_state held_of words_ok range_of written_to counted_of expired_of cleared_if start_settings reset_registers start_vsysmin taken_by forced_of latches_of seen_of regulated_of clears_of ends_of judged_of fault_of reached_of setting_numbers fields_of ranges recounted written_registers gathered start_vreg start_ichg short_of low_of pack_over_of restarts_of fields turned_by change_of followed_of written_of turn_of profile_in_range edition_in_range sample_in_range two_in_range seen_on ran_by start_words restored_by without_overrides put_in with_word put_at expires_of
counts-break count p e d =
    let y : count ≡ 0 = ap (λ (w : Walker). counted (w [])) (sym e) ∙ read_count p d [] no_byte (omega arith) in
    let z : count ≡ 1 = ap (λ (w : Walker). counted (w (4 ∷ []))) (sym e) ∙ read_count p d (4 ∷ []) one-byte (omega arith) in
    omega (arith, y, z)

-- a constant writer: a service and a reset written into one byte
abbrev left : Wrote × List ℕ → ℕ
left w = get_or w.1 0 0

constant : (bytes : List ℕ) → ¬ Writes (writes_constant bytes)
unfolding writes_constant
constant bytes d =
    differ 6 7 refl (ap left (sym (d.written Service (6 ∷ []) paper-bytes.service (0 ∷ []) (omega arith)) ∙ d.written Reset (7 ∷ []) paper-bytes.reset (0 ∷ []) (omega arith)))

pub second-refuted : SecondRefuted
unfolding model_ok step_by_base never_restarts by_first by_second by_warmer mixed_as one_hold keeps_entry cold_late left_normal refuses_always reports_zeros ignores_events works_once same_write scales_precharge times_after judges_cool cool_first drops_stray step_of report_of fast_current charge_clamp_of charge_voltage_of input_limit_of share_of cut_of base_of pack_clamp_of in_pack below_share first_of state_ok moved_of profile_ok settings_ok registers_ok cycle_ok watchdog_ok sample_ok set_of observe_of finish_of settled_of tests_of may_hold store_of write_of observed_of reset_of settle_of edges_of merged pulse_of times_of units_of bands_of next_of next_by stays_by joined_of either band_of band_by marks_of cycle_of phase_of permitted_of suspends_of below_recharge taper_of ending_of flags_number start_state held_of words_ok range_of written_to counted_of expired_of cleared_if start_settings reset_registers start_vsysmin taken_by forced_of latches_of seen_of regulated_of clears_of ends_of judged_of fault_of reached_of setting_numbers fields_of ranges recounted written_registers gathered start_vreg start_ichg short_of low_of pack_over_of restarts_of fields turned_by change_of followed_of written_of turn_of profile_in_range edition_in_range sample_in_range two_in_range seen_on ran_by start_words restored_by without_overrides put_in with_word put_at expires_of
second-refuted = record {
  refuses = λ r. step-breaks _ (λ d.
      let z : refusal_number r ≡ 0 = ap (λ (o : Outcome). o.number) (as-ours _ d [] (PowerOn paper)) in
      omega (arith, z, some_number r));
  zeros = report-breaks _ (λ d. differ 0 1500 refl (shown-as-ours _ d paper_day));
  ignores = step-breaks _ (λ d. differ 0 1 refl (ap (of (λ s. 1)) (as-ours _ d [] (PowerOn paper))));
  once = step-breaks _ (λ d. differ 0 3 refl (ap (of (λ s. phase_number s.phase)) (as-ours _ d powered (Observe sampled))));
  times = λ s time. step-breaks _ (invented s time);
  counts = counts-break;
  constant = λ bytes. parts-break.write (writes_constant bytes) (constant bytes);
  written = step-breaks _ (λ d. differ 3 2 refl (ap (of (λ s. s.registers.cells)) (as-ours _ d powered (Write 0x1B 0x43))));
  scaled = report-breaks _ (λ d. differ 24 120 refl (shown-as-ours _ d cool_day));
  timed = step-breaks _ (λ d. differ 2000 0 refl (ap (of (λ s. s.cycle.fast)) (as-ours _ d powered (Observe sampled))));
  cooled = step-breaks _ (λ d. differ 3 1 refl (ap (of (λ s. band_number (pack_band s.bands))) (as-ours _ d powered (Observe (sample 1000 7600 0 80000 0)))));
  point = step-breaks _ (λ d. differ 4 5 refl (ap (of (λ s. phase_number s.phase)) (as-ours _ d (until_taper 7890) (seen_at 2000 7890 50 40000))));
  restart = step-breaks _ (λ d. differ 5 3 refl (ap (of (λ s. phase_number s.phase)) (as-ours _ d (until_end 7890) (seen_at 3000 7890 500 55000))));
  measured = step-breaks _ broken.measured;
  ends = step-breaks _ broken.ends;
  higher = step-breaks _ broken.higher;
  lower = step-breaks _ broken.lower;
  ilim = step-breaks _ broken.ilim;
  matchless = step-breaks _ broken.matchless;
  half = step-breaks _ (typed.broken).half;
  between = step-breaks _ (typed.broken).between;
  typed = step-breaks _ (typed.broken).typed;
  both = step-breaks _ (typed.broken).both;
  first_ts = step-breaks _ (λ d. differ 3 7 refl (ap (of (λ s. band_number (pack_band s.bands))) (as-ours _ d powered besides)));
  second_ts = step-breaks _ (λ d. differ 4 7 refl (ap (of (λ s. band_number (pack_band s.bands))) (as-ours _ d powered besides)));
  warmer = step-breaks _ (λ d. differ 4 7 refl (ap (of (λ s. band_number (pack_band s.bands))) (as-ours _ d powered besides)));
  mixed_normal = step-breaks _ (λ d. differ 0 7 refl (ap (of (λ s. band_number (pack_band s.bands))) (as-ours _ d powered besides)));
  mixed_cool = step-breaks _ (λ d. differ 3 7 refl (ap (of (λ s. band_number (pack_band s.bands))) (as-ours _ d powered besides)));
  mixed_warm = step-breaks _ (λ d. differ 4 7 refl (ap (of (λ s. band_number (pack_band s.bands))) (as-ours _ d powered besides)));
  after_bits = parts-break.read reads_after_bits format-refuted.second_after_bits;
  held = step-breaks _ (λ d. differ 1 3 refl (ap (of (λ s. band_number (pack_band s.bands))) (as-ours _ d cool_beside_cold cold_left)));
  entry = step-breaks _ (λ d. differ 1 3 refl (ap (of (λ s. band_number (pack_band s.bands))) (as-ours _ d cold_both moved_up)));
  late = step-breaks _ (λ d. differ 3 1 refl (ap (of (λ s. band_number (pack_band s.bands))) (as-ours _ d cool_both cold_now)));
  unjudged = step-breaks _ (λ d. differ 0 3 refl (ap (of (λ s. band_number (pack_band s.bands))) (as-ours _ d cool_suspends left_for_cool)));
  stray = step-breaks _ (λ d. differ 80000 55000 refl (ap (of (λ s. s.sample.ts)) (d.passes (On stray) refl (PowerOn paper))));
  other_code = parts-break.read reads_swapped format-refuted.other_code;
  other_code_written = parts-break.write writes_swapped format-refuted.other_code_written;
  first_alone = parts-break.read reads_first format-refuted.first_alone;
  one_for_all = parts-break.read refuses_with_one format-refuted.one_for_all;
  two_and_three = parts-break.read swaps_two_and_three format-refuted.two_and_three;
  one_at_start = parts-break.read (tells_start 1) format-refuted.one_at_start;
  two_at_start = parts-break.read (tells_start 2) format-refuted.two_at_start;
  three_at_start = parts-break.read (tells_start 3) format-refuted.three_at_start;
  five_at_start = parts-break.read (tells_start 5) format-refuted.five_at_start;
}
