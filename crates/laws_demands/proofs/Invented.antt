-- A product that invents stage times, and a power-on with no limit for that stage: any time but 0 is more than the model may hold there, so it refuses every event.
use Prim.Native.Nat.{ℕ, suc}
use mathlib.Core.Path.{◌≡◌, refl, ap, ◌∙◌}
use mathlib.Core.Bool.{false}
use lib.Dec.{eqb-suc-zero}
use Rattle.base.specs.Units.{in_pack, below_share}
use Rattle.state_parts.specs.Edges.{merged, pulse_of, flags_number}
use Rattle.report_state.specs.Report.{fast_current, report_of, charge_clamp_of, input_limit_of}
use Rattle.settle_all.specs.Gather.{tests_of}
use Rattle.settle_all.specs.Settle.{settle_of, forced_of, settled_of}
use Rattle.settle_bands.specs.Effect.{share_of, cut_of, suspends_of}
use Rattle.settle_bands.specs.Thresholds.{band_by, marks_of, band_of}
use Rattle.settle_bands.specs.Joined.{either, joined_of}
use Rattle.settle_bands.specs.Holding.{stays_by, next_by, next_of, bands_of}
use Rattle.settle_levels.specs.Clamps.{base_of, pack_clamp_of, fault_of}
use Rattle.settle_levels.specs.Comparators.{latches_of, short_of, low_of, pack_over_of}
use Rattle.settle_levels.specs.Voltage.{charge_voltage_of, below_recharge, taper_of}
use Rattle.settle_permission.specs.Bits.{regulated_of}
use Rattle.settle_permission.specs.Ending.{ending_of}
use Rattle.settle_permission.specs.Limits.{reached_of}
use Rattle.settle_permission.specs.Permission.{permitted_of}
use Rattle.settle_phases.specs.Cycles.{cycle_of}
use Rattle.settle_phases.specs.Order.{phase_of, clears_of, ends_of, judged_of, restarts_of}
use Rattle.state_fields.specs.Words.{put_at, with_word, put_in}
use Rattle.state_fields.specs.Held.{gathered, start_words, taken_by, restored_by, words_ok, without_overrides}
use Rattle.state_table.specs.Rows.{fields, fields_of}
use Rattle.state_registers.specs.Resets.{reset_of, reset_registers}
use Rattle.state_registers.specs.Writes.{write_of, written_registers, written_to, recounted}
use Rattle.state_settings.specs.Kept.{settings_ok}
use Rattle.state_settings.specs.Numbered.{store_of, held_of, setting_numbers}
use Rattle.state_settings.specs.Ranges.{may_hold, range_of, ranges}
use Rattle.state_start.specs.Values.{start_state, start_settings, start_vsysmin, start_vreg, start_ichg}
use Rattle.state_valid.specs.Holds.{sample_ok, state_ok, profile_ok, registers_ok, cycle_ok, watchdog_ok}
use Rattle.step_event.specs.Clock.{observed_of, counted_of, cleared_if, times_of, units_of}
use Rattle.step_event.specs.Steps.{step_of, turned_by, change_of, first_of, moved_of, followed_of, observe_of, seen_on}
use Rattle.step_flags.specs.Edges.{edges_of, seen_of}
use Rattle.step_flags.specs.Expiry.{expired_of, expires_of}
use Rattle.step_kinds.specs.Finish.{finish_of}
use Rattle.step_kinds.specs.Plain.{set_of, written_of}
use Rattle.step_turns.specs.Ranges.{profile_in_range, edition_in_range, sample_in_range, two_in_range}
use Rattle.step_turns.specs.Turns.{first_edition, turn_of}
use Rattle.laws_third.specs.Demand.{ran_by}
use Rattle.state_parts.specs.With.{with_cycle}
use Rattle.state_parts.specs.declared.state.State.{State}
use Rattle.state_parts.specs.declared.state.Model.{Model}
use Rattle.state_parts.specs.declared.state.Model.TheVariants.{Off, On}
use Rattle.log_event.specs.declared.Event.TheVariants.{PowerOn, Observe}
use Rattle.step_turns.specs.Turns.{held_profile}
use Rattle.laws_account.specs.Cycles.{Stage, trickle, precharge, fast}
use Rattle.laws_account.proofs.Powering.{powered_of}
use Rattle.laws_demands.specs.Wrong.{timed, invents_times}
use Rattle.laws_demands.proofs.Days.{limit_for, level_of, seen, unlimited_in}

abbrev opened : Stage → State
opened s = powered_of (held_profile (limit_for s 0) first_edition)

abbrev pub invented : Stage → ℕ → State
invented s time = with_cycle (opened s) (timed s time (opened s).cycle)

begins : (s : Stage) (time : ℕ) → (invents_times s time Off (PowerOn (limit_for s 0))).model ≡ On (invented s time)
unfolding invents_times step_of turned_by turn_of change_of first_of finish_of profile_in_range edition_in_range
begins trickle time = refl
begins precharge time = refl
begins fast time = refl

unfit : (s : Stage) (t : ℕ) → state_ok (invented s (suc t)) ≡ false
unfolding step_of report_of fast_current charge_clamp_of charge_voltage_of input_limit_of share_of cut_of base_of pack_clamp_of in_pack below_share first_of state_ok moved_of profile_ok settings_ok registers_ok cycle_ok watchdog_ok sample_ok set_of observe_of finish_of settled_of tests_of may_hold store_of write_of observed_of reset_of settle_of edges_of merged pulse_of times_of units_of bands_of next_of next_by stays_by joined_of either band_of band_by marks_of cycle_of phase_of permitted_of suspends_of below_recharge taper_of ending_of flags_number start_state held_of words_ok range_of written_to counted_of expired_of cleared_if start_settings reset_registers start_vsysmin taken_by forced_of latches_of seen_of regulated_of clears_of ends_of judged_of fault_of reached_of setting_numbers fields_of ranges recounted written_registers gathered start_vreg start_ichg short_of low_of pack_over_of restarts_of fields turned_by change_of followed_of written_of turn_of profile_in_range edition_in_range sample_in_range two_in_range seen_on start_words restored_by without_overrides put_in with_word put_at expires_of
unfit trickle t = simp eqb-suc-zero
unfit precharge t = simp eqb-suc-zero
unfit fast t = simp eqb-suc-zero

refuses : (s : Stage) (t : ℕ) → (invents_times s (suc t) (On (invented s (suc t))) (Observe (seen 1000 (level_of s)))).model ≡ On (invented s (suc t))
unfolding invents_times step_of turned_by change_of
refuses trickle t = simp (unfit trickle t)
refuses precharge t = simp (unfit precharge t)
refuses fast t = simp (unfit fast t)

pub stands : (s : Stage) (t : ℕ) → ran_by (invents_times s (suc t)) Off (unlimited_in s) ≡ On (invented s (suc t))
unfolding ran_by
stands s t = ap (λ (m : Model). (invents_times s (suc t) m (Observe (seen 1000 (level_of s)))).model) (begins s (suc t)) ∙ refuses s t
