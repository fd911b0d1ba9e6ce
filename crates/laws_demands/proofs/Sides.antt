-- A log on each side of the first moment at which the hold keeps what the first edition would leave, computed.
use mathlib.Core.Path.{refl}
use Prim.Native.Nat.{ℕ}
use mathlib.Core.List.{◌∷◌}
use lib.IntN.{pos}
use Rattle.base.specs.Units.{in_pack, below_share}
use Rattle.state_parts.specs.Edges.{merged, pulse_of, flags_number}
use Rattle.report_state.specs.Report.{fast_current, report_of, charge_clamp_of, input_limit_of}
use Rattle.settle_all.specs.Gather.{tests_of}
use Rattle.settle_all.specs.Settle.{settle_of, forced_of, settled_of}
use Rattle.settle_bands.specs.Effect.{share_of, cut_of, suspends_of}
use Rattle.settle_bands.specs.Thresholds.{band_by, marks_of, band_of}
use Rattle.settle_bands.specs.Joined.{either, joined_of}
use Rattle.settle_bands.specs.Holding.{stays_by, next_by, next_of, bands_of}
use Rattle.settle_levels.specs.Clamps.{base_of, pack_clamp_of, fault_of}
use Rattle.settle_levels.specs.Comparators.{latches_of, short_of, low_of, pack_over_of}
use Rattle.settle_levels.specs.Voltage.{charge_voltage_of, below_recharge, taper_of}
use Rattle.settle_permission.specs.Bits.{regulated_of}
use Rattle.settle_permission.specs.Ending.{ending_of}
use Rattle.settle_permission.specs.Limits.{reached_of}
use Rattle.settle_permission.specs.Permission.{permitted_of}
use Rattle.settle_phases.specs.Cycles.{cycle_of}
use Rattle.settle_phases.specs.Order.{phase_of, clears_of, ends_of, judged_of, restarts_of}
use Rattle.state_fields.specs.Words.{put_at, with_word, put_in}
use Rattle.state_fields.specs.Held.{gathered, start_words, taken_by, restored_by, words_ok, without_overrides}
use Rattle.state_table.specs.Rows.{fields, fields_of}
use Rattle.state_registers.specs.Resets.{reset_of, reset_registers}
use Rattle.state_registers.specs.Writes.{write_of, written_registers, written_to, recounted}
use Rattle.state_settings.specs.Kept.{settings_ok}
use Rattle.state_settings.specs.Numbered.{store_of, held_of, setting_numbers}
use Rattle.state_settings.specs.Ranges.{may_hold, range_of, ranges}
use Rattle.state_start.specs.Values.{start_state, start_settings, start_vsysmin, start_vreg, start_ichg}
use Rattle.state_valid.specs.Holds.{sample_ok, state_ok, profile_ok, registers_ok, cycle_ok, watchdog_ok}
use Rattle.step_event.specs.Clock.{observed_of, counted_of, cleared_if, times_of, units_of}
use Rattle.step_event.specs.Steps.{step_of, turned_by, change_of, first_of, moved_of, followed_of, observe_of, seen_on}
use Rattle.step_flags.specs.Edges.{edges_of, seen_of}
use Rattle.step_flags.specs.Expiry.{expired_of, expires_of}
use Rattle.step_kinds.specs.Finish.{finish_of}
use Rattle.step_kinds.specs.Plain.{set_of, written_of}
use Rattle.step_turns.specs.Ranges.{profile_in_range, edition_in_range, sample_in_range, two_in_range}
use Rattle.step_turns.specs.Turns.{held_profile, turn_of}
use Rattle.step_turns.specs.declared.later.Later.{Later}
use Rattle.step_turns.specs.declared.later.Later.TheVariants.{Observe}
use Rattle.laws_account.specs.History.{Run, powered, ◌▸◌, since}
use Rattle.laws_third.specs.Editions.{KeptAt}
use Rattle.laws_account.specs.Held.{profile_of, sample_of, elapsed, field_at}
use Rattle.laws_account.specs.Bands.{Thermistor, first_ts, second_ts, fresh_at, cold_at, hot_at, cool_at, warm_at, ts_band_at}
use Rattle.laws_account.specs.Refused.{none, refusal_in, next_of as next_past}
use Rattle.laws_third.proofs.Editions.{differs}
use Rattle.laws_demands.specs.Printed.{line_by, lines_by}
use Rattle.laws_demands.specs.Editions.{opening, KeepsNothing, seen_twice, any_pack, LinesOnEachSide}

-- the runs that its events lead to
abbrev seen_at : ℕ → ℕ → Later
seen_at stamp value = Observe (record { stamp = stamp; input = 12000; pack = 7600; ibat = pos 0; ts = value; secondts = value; bits = 0 })

abbrev cold : Run
cold = powered (held_profile any_pack 2) ▸ seen_at 1000 75320

abbrev back : Run
back = cold ▸ seen_at 2000 55000

none-cold : (k : Thermistor) → KeptAt k cold → ⊥
unfolding since profile_of sample_of field_at fresh_at cold_at hot_at cool_at warm_at ts_band_at
none-cold first_ts q = differs first_ts cold q refl
none-cold second_ts q = differs second_ts cold q refl

none-back : (k : Thermistor) → KeptAt k back → ⊥
unfolding since profile_of sample_of field_at fresh_at cold_at hot_at cool_at warm_at ts_band_at
none-back first_ts q = differs first_ts back q refl
none-back second_ts q = differs second_ts back q refl

nothing-kept : KeepsNothing none (opening any_pack 2 ∷ seen_twice 75320 55000)
unfolding next_past refusal_in turn_of profile_in_range edition_in_range sample_in_range two_in_range elapsed sample_of
nothing-kept = (λ k q. q, (none-cold, (none-back, tt)))

pub lines-on-each-side : LinesOnEachSide
unfolding line_by lines_by step_of report_of fast_current charge_clamp_of charge_voltage_of input_limit_of share_of cut_of base_of pack_clamp_of in_pack below_share first_of state_ok moved_of profile_ok settings_ok registers_ok cycle_ok watchdog_ok sample_ok set_of observe_of finish_of settled_of tests_of may_hold store_of write_of observed_of reset_of settle_of edges_of merged pulse_of times_of units_of bands_of next_of next_by stays_by joined_of either band_of band_by marks_of cycle_of phase_of permitted_of suspends_of below_recharge taper_of ending_of flags_number start_state held_of words_ok range_of written_to counted_of expired_of cleared_if start_settings reset_registers start_vsysmin taken_by forced_of latches_of seen_of regulated_of clears_of ends_of judged_of fault_of reached_of setting_numbers fields_of ranges recounted written_registers gathered start_vreg start_ichg short_of low_of pack_over_of restarts_of fields turned_by change_of followed_of written_of turn_of profile_in_range edition_in_range sample_in_range two_in_range seen_on start_words restored_by without_overrides put_in with_word put_at expires_of
lines-on-each-side = record { alike = nothing-kept; first = refl; second = refl }
