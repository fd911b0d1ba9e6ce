-- Wrong readings of a run of bytes and of a flag register's read break demand 1 or 2: a list of events at which each and this product come to different numbers.
use Prim.Native.Nat.{ℕ}
use mathlib.Core.Path.{refl, ap}
use mathlib.Core.List.{[], ◌∷◌}
use native.Mathlib.Omega.{arith}
use Rattle.state_parts.specs.declared.state.Model.{Model}
use Rattle.state_parts.specs.declared.state.Model.TheVariants.{On}
use Rattle.step_turns.specs.Turns.{held_profile, first_edition}
use Rattle.laws_account.proofs.Powering.{powered_of}
use Rattle.step_event.specs.Steps.{step_of, first_of, moved_of, observe_of, turned_by, change_of, followed_of, seen_on}
use Rattle.state_settings.specs.Numbered.{held_of, setting_numbers, store_of}
use Rattle.state_valid.specs.Holds.{state_ok, profile_ok, registers_ok, cycle_ok, watchdog_ok, sample_ok}
use Rattle.settle_levels.specs.Voltage.{charge_voltage_of, below_recharge, taper_of}
use Rattle.state_settings.specs.Kept.{settings_ok}
use Rattle.step_kinds.specs.Plain.{set_of, written_of, run_from, read_flags_of, acted_of}
use Rattle.settle_levels.specs.Clamps.{base_of, pack_clamp_of, fault_of}
use Rattle.base.specs.Units.{in_pack, below_share}
use Rattle.base.specs.Volts.{millivolts_of}
use Rattle.settle_bands.specs.Effect.{cut_of, suspends_of}
use Rattle.state_settings.specs.Ranges.{may_hold, range_of, ranges}
use Rattle.step_kinds.specs.Finish.{finish_of}
use Rattle.state_registers.specs.Writes.{write_of, written_to, recounted, written_registers}
use Rattle.step_event.specs.Clock.{observed_of, counted_of, cleared_if, times_of, units_of}
use Rattle.state_registers.specs.Resets.{reset_of, reset_registers}
use Rattle.settle_all.specs.Settle.{settle_of, forced_of, settled_of}
use Rattle.state_start.specs.Values.{start_state, start_settings, start_vreg, start_ichg, start_vsysmin}
use Rattle.state_fields.specs.Held.{words_ok, taken_by, gathered, start_words, restored_by, without_overrides}
use Rattle.step_flags.specs.Edges.{edges_of, seen_of}
use Rattle.state_parts.specs.Edges.{merged, pulse_of, flags_number}
use Rattle.step_flags.specs.Expiry.{expired_of, expires_of}
use Rattle.settle_levels.specs.Comparators.{latches_of, short_of, low_of, pack_over_of}
use Rattle.settle_bands.specs.Thresholds.{band_by, marks_of, band_of}
use Rattle.settle_bands.specs.Joined.{either, joined_of}
use Rattle.settle_bands.specs.Holding.{stays_by, next_by, next_of, bands_of}
use Rattle.settle_all.specs.Gather.{tests_of}
use Rattle.state_table.specs.Rows.{fields_of, fields}
use Rattle.settle_permission.specs.Bits.{regulated_of}
use Rattle.settle_phases.specs.Cycles.{cycle_of}
use Rattle.settle_phases.specs.Order.{phase_of, clears_of, ends_of, judged_of, restarts_of}
use Rattle.settle_permission.specs.Permission.{permitted_of}
use Rattle.settle_permission.specs.Ending.{ending_of}
use Rattle.settle_permission.specs.Limits.{reached_of}
use Rattle.step_turns.specs.Turns.{turn_of}
use Rattle.step_turns.specs.Ranges.{profile_in_range, edition_in_range, sample_in_range, two_in_range}
use Rattle.state_fields.specs.Words.{put_in, with_word, put_at}
use Rattle.state_runs.specs.Runs.{write_run_of, bad_run, kept_run, written_run, resets, serves}
use Rattle.state_runs.specs.Registers.{settings_taken, bad_register, register_taken}
use Rattle.log_raw.specs.Raw.{byte_of, has_spelling, all_zero}
use Rattle.c_words.specs.Words.{bytes_of}
use Rattle.report_registers.specs.Reads.{flag_byte, value_by}
use Rattle.log_event.specs.declared.Event.{Event}
use Rattle.log_event.specs.declared.Event.TheVariants.{WriteRun, ReadFlags}
use Rattle.step_kinds.specs.Answers.{Outcome}
use Rattle.laws_third.specs.Demand.{ran_by}
use Rattle.laws_demands.specs.First.{Answered}
use Rattle.laws_demands.specs.Second.{Moves}
use Rattle.laws_demands.specs.Typed.{takes_half, keeps_front, settles_between, same_run, clears_both}
use Rattle.laws_demands.proofs.Against.{as-ours}
use Rattle.laws_demands.proofs.Days.{paper, powered, day, sample, held, of, differ}

-- two bytes from an address on
abbrev typed : ℕ → ℕ → Event
typed first bytes = WriteRun first (record { length = 2; w0 = bytes; w1 = 0; w2 = 0; w3 = 0; w4 = 0; w5 = 0; w6 = 0; w7 = 0 })

abbrev iterm_of : Outcome → ℕ
iterm_of = of (λ s. s.settings.iterm)

abbrev vreg_of : Outcome → ℕ
vreg_of = of (λ s. millivolts_of s.settings.vreg)

abbrev flags_of : Outcome → ℕ
flags_of = of (λ s. s.flags)

abbrev start : Model
start = On (powered_of (held_profile paper first_edition))

abbrev iprechg_of : Model → ℕ
iprechg_of = held (λ s. s.settings.iprechg)

pub record Broken : Type 0 where
  pub front : ¬ ((m : Model) (e : Event) → Answered m (keeps_front m e))
  pub half : ¬ Moves takes_half
  pub between : ¬ Moves settles_between
  pub typed : ¬ Moves same_run
  pub both : ¬ Moves clears_both

-- IPRECHG 200 and ITERM 640 at 0x0E: 9, and the first is taken. IPRECHG and ITERM there: the second is lost. TH2 code 2 and EN_TS 0 at 0x18, with TS 66,000: cool between the two bytes, and so a flag. Three cells and CELL_PIN's override in one byte at 0x1B. 0x21 after a power-on, whose flag is 0x20's.
pub broken : Broken
unfolding takes_half keeps_front settles_between same_run clears_both ran_by step_of held_of first_of state_ok moved_of setting_numbers charge_voltage_of profile_ok settings_ok registers_ok cycle_ok watchdog_ok sample_ok set_of observe_of base_of in_pack cut_of may_hold finish_of store_of write_of observed_of reset_of pack_clamp_of settle_of start_state words_ok range_of edges_of merged pulse_of written_to counted_of expired_of cleared_if times_of units_of start_settings reset_registers forced_of latches_of bands_of next_of next_by stays_by joined_of either band_of band_by marks_of settled_of tests_of fields_of ranges seen_of recounted written_registers taken_by gathered regulated_of start_vreg start_ichg start_vsysmin flags_number fault_of short_of low_of pack_over_of cycle_of phase_of permitted_of suspends_of below_recharge taper_of ending_of fields reached_of below_share clears_of ends_of judged_of restarts_of turned_by change_of followed_of written_of turn_of profile_in_range edition_in_range sample_in_range two_in_range seen_on start_words restored_by without_overrides put_in with_word put_at expires_of run_from read_flags_of acted_of write_run_of bad_run kept_run written_run resets serves settings_taken bad_register register_taken byte_of has_spelling all_zero bytes_of flag_byte value_by
broken = record {
  front = λ d. differ 200 120 refl (ap iprechg_of ((d start (typed 0x0E 0x200A)).refused (λ z. omega arith)).model);
  half = λ d. differ 60 100 refl (ap iterm_of (as-ours _ d powered (typed 0x0E 0x050A)));
  between = λ d. differ 225 97 refl (ap flags_of (as-ours _ d (day paper (sample 1000 7600 0 66000 0 ∷ [])) (typed 0x18 0xD699)));
  typed = λ d. differ 12600 8400 refl (ap vreg_of (as-ours _ d powered (WriteRun 0x1B (record { length = 1; w0 = 0x43; w1 = 0; w2 = 0; w3 = 0; w4 = 0; w5 = 0; w6 = 0; w7 = 0 }))));
  both = λ d. differ 0 32 refl (ap flags_of (as-ours _ d powered (ReadFlags 0x21)));
}
