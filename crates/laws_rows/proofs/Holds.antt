-- Every row holds, of 01 and of 02: both sides compute to the same numbers.
use mathlib.Core.Path.{refl}
use Rattle.settle_bands.specs.Effect.{share_of, cut_of, suspends_of}
use Rattle.settle_bands.specs.Thresholds.{band_by, marks_of, band_of}
use Rattle.settle_bands.specs.Joined.{either, joined_of}
use Rattle.settle_bands.specs.Holding.{stays_by, next_by, next_of, bands_of}
use Rattle.base.specs.Units.{in_pack, below_share}
use Rattle.step_event.specs.Clock.{observed_of, counted_of, cleared_if, times_of, units_of}
use Rattle.step_event.specs.Pages.{whole_of, page_of}
use Rattle.step_event.specs.Steps.{step_of, turned_by, change_of, first_of, moved_of, followed_of, observe_of, seen_on}
use Rattle.step_event.specs.Walks.{start_walk, walk_of, met_by}
use Rattle.step_flags.specs.Edges.{edges_of, seen_of}
use Rattle.step_flags.specs.Expiry.{expired_of, expires_of}
use Rattle.log_event.specs.Events.{event_of}
use Rattle.log_number.specs.Ibat.{signed_of}
use Rattle.state_table.specs.Rows.{fields, fields_of}
use Rattle.settle_all.specs.Gather.{tests_of}
use Rattle.settle_all.specs.Settle.{settle_of, forced_of, settled_of}
use Rattle.settle_levels.specs.Clamps.{base_of, pack_clamp_of, fault_of}
use Rattle.settle_levels.specs.Comparators.{latches_of, short_of, low_of, pack_over_of}
use Rattle.settle_levels.specs.Voltage.{charge_voltage_of, below_recharge, taper_of}
use Rattle.report_text.specs.Decimal.{decimal, decimal_by}
use Rattle.report_text.specs.Text.{end_text, line_text, headed_text}
use Rattle.step_kinds.specs.Finish.{finish_of}
use Rattle.c_words.specs.Words.{bytes_of, words_in, word_at}
use Rattle.log_raw.specs.Raw.{byte_of, has_spelling, all_zero, read_raw, raw_at, spell_raw}
use Rattle.report_registers.specs.Reads.{value_by, flag_byte}
use Rattle.state_runs.specs.Registers.{settings_taken, bad_register, register_taken}
use Rattle.state_runs.specs.Runs.{bad_run, kept_run, written_run, write_run_of, resets, serves}
use Rattle.step_kinds.specs.Plain.{set_of, written_of, acted_of, run_from, read_flags_of}
use Rattle.step_pins.specs.Codes.{code_of}
use Rattle.step_turns.specs.Ranges.{profile_in_range, edition_in_range, sample_in_range, two_in_range, resistors_in_range}
use Rattle.step_turns.specs.Turns.{turn_of}
use Rattle.log_number.specs.Number.{number_at, read_number, read_groups, spell, groups}
use Rattle.state_parts.specs.Edges.{merged, pulse_of, flags_number}
use Rattle.settle_phases.specs.Cycles.{cycle_of}
use Rattle.settle_phases.specs.Order.{phase_of, clears_of, ends_of, judged_of, restarts_of}
use Rattle.report_pages.specs.Text.{lines_text, numbers_of}
use Rattle.log_record.specs.Items.{spell_items, read_items}
use Rattle.log_record.specs.Records.{spell_event, record_at, read_record}
use Rattle.state_registers.specs.Resets.{reset_of, reset_registers}
use Rattle.state_registers.specs.Writes.{write_of, written_registers, written_to, recounted}
use Rattle.state_fields.specs.Words.{put_at, with_word, put_in}
use Rattle.state_fields.specs.Held.{gathered, start_words, taken_by, restored_by, words_ok, without_overrides}
use Rattle.step_text.specs.Runs.{run_text}
use Rattle.laws_rows.specs.Rows.{rows, EveryRow}
use Rattle.laws_rows.specs.Requested.{requested, EveryRequest}
use Rattle.settle_permission.specs.Bits.{regulated_of}
use Rattle.settle_permission.specs.Ending.{ending_of}
use Rattle.settle_permission.specs.Limits.{reached_of}
use Rattle.settle_permission.specs.Permission.{permitted_of}
use Rattle.state_settings.specs.Kept.{settings_ok}
use Rattle.state_settings.specs.Numbered.{held_of, setting_numbers, store_of}
use Rattle.state_settings.specs.Ranges.{may_hold, range_of, ranges}
use Rattle.report_state.specs.Lines.{line_of}
use Rattle.report_state.specs.Report.{report_of, fast_current, input_limit_of, charge_clamp_of}
use Rattle.state_start.specs.Values.{start_state, start_settings, start_vreg, start_ichg, start_vsysmin}
use Rattle.state_valid.specs.Holds.{state_ok, profile_ok, registers_ok, cycle_ok, watchdog_ok, sample_ok}

pub every-row : EveryRow
unfolding rows run_text lines_text whole_of end_text headed_text spell_event number_at line_text numbers_of page_of start_walk step_of spell_items read_number decimal walk_of held_of report_of first_of state_ok moved_of read_groups decimal_by record_at setting_numbers fast_current charge_voltage_of input_limit_of profile_ok settings_ok registers_ok cycle_ok watchdog_ok sample_ok set_of observe_of spell read_record charge_clamp_of share_of base_of in_pack cut_of may_hold finish_of store_of write_of observed_of reset_of groups met_by pack_clamp_of settle_of start_state words_ok range_of edges_of merged pulse_of written_to counted_of expired_of cleared_if times_of units_of start_settings reset_registers line_of read_items forced_of latches_of bands_of next_of next_by stays_by joined_of either band_of band_by marks_of settled_of tests_of fields_of ranges seen_of recounted written_registers taken_by gathered regulated_of start_vreg start_ichg start_vsysmin flags_number event_of fault_of short_of low_of pack_over_of cycle_of phase_of permitted_of suspends_of below_recharge taper_of ending_of fields reached_of signed_of below_share clears_of ends_of judged_of restarts_of turned_by change_of followed_of written_of turn_of profile_in_range edition_in_range sample_in_range two_in_range seen_on start_words restored_by without_overrides put_in with_word put_at expires_of
every-row = (refl, (refl, (refl, (refl, (refl, (refl, (refl, (refl, (refl, (refl, tt))))))))))

pub every-request : EveryRequest
unfolding requested run_text lines_text whole_of end_text headed_text spell_event number_at line_text numbers_of page_of start_walk step_of spell_items read_number decimal walk_of held_of report_of first_of state_ok moved_of read_groups decimal_by record_at setting_numbers fast_current charge_voltage_of input_limit_of profile_ok settings_ok registers_ok cycle_ok watchdog_ok sample_ok set_of observe_of spell read_record charge_clamp_of share_of base_of in_pack cut_of may_hold finish_of store_of write_of observed_of reset_of groups met_by pack_clamp_of settle_of start_state words_ok range_of edges_of merged pulse_of written_to counted_of expired_of cleared_if times_of units_of start_settings reset_registers line_of read_items forced_of latches_of bands_of next_of next_by stays_by joined_of either band_of band_by marks_of settled_of tests_of fields_of ranges seen_of recounted written_registers taken_by gathered regulated_of start_vreg start_ichg start_vsysmin flags_number event_of fault_of short_of low_of pack_over_of cycle_of phase_of permitted_of suspends_of below_recharge taper_of ending_of fields reached_of signed_of below_share clears_of ends_of judged_of restarts_of turned_by change_of followed_of written_of turn_of profile_in_range edition_in_range sample_in_range two_in_range seen_on resistors_in_range code_of start_words restored_by without_overrides put_in with_word put_at expires_of run_from read_flags_of acted_of write_run_of bad_run kept_run written_run resets serves settings_taken bad_register register_taken byte_of has_spelling all_zero read_raw raw_at spell_raw bytes_of words_in word_at flag_byte value_by
every-request = (refl, (refl, (refl, (refl, (refl, (refl, (refl, (refl, (refl, (refl, (refl, (refl, (refl, (refl, (refl, (refl, (refl, (refl, (refl, (refl, (refl, (refl, (refl, (refl, (refl, (refl, tt))))))))))))))))))))))))))
