-- Four wrong products break demand 1.
use Prim.Native.Nat.{ℕ, ◌≤◌}
use mathlib.Core.Path.{◌≡◌, refl, ap, subst}
use mathlib.Core.List.{List, [], ◌∷◌}
use native.Mathlib.Omega.{arith}
use lib.ListN.{length, get_or}
use Rattle.base.specs.Writing as answer
use Rattle.log_record.specs.Records as log
use Rattle.base.specs.Writing.{written}
use Rattle.base.specs.Units.{in_pack, below_share}
use Rattle.state_parts.specs.declared.state.Model.{Model}
use Rattle.state_parts.specs.declared.state.Model.TheVariants.{On}
use Rattle.state_parts.specs.Edges.{merged, pulse_of}
use Rattle.log_number.specs.Number.{spell, groups}
use Rattle.log_event.specs.declared.Event.{Event}
use Rattle.log_event.specs.declared.Event.TheVariants.{Set}
use Rattle.log_record.specs.Items.{spell_items}
use Rattle.log_record.specs.Records.{spell_event}
use Rattle.state_start.specs.Values.{start_state, start_settings, start_vreg, start_ichg, start_vsysmin}
use Rattle.state_settings.specs.Kept.{settings_ok}
use Rattle.state_settings.specs.Numbered.{store_of, held_of, setting_numbers}
use Rattle.state_settings.specs.Ranges.{may_hold, range_of, ranges}
use Rattle.state_valid.specs.Holds.{state_ok, profile_ok, registers_ok, cycle_ok, watchdog_ok, sample_ok}
use Rattle.state_table.specs.Rows.{fields, fields_of}
use Rattle.state_registers.specs.Resets.{reset_of, reset_registers}
use Rattle.state_registers.specs.Writes.{write_of, written_registers, written_to, recounted}
use Rattle.state_fields.specs.Words.{put_at, with_word, put_in}
use Rattle.state_fields.specs.Held.{gathered, start_words, taken_by, restored_by, words_ok, without_overrides}
use Rattle.settle_levels.specs.Clamps.{fault_of, base_of, pack_clamp_of}
use Rattle.settle_levels.specs.Comparators.{latches_of, short_of, low_of, pack_over_of}
use Rattle.settle_levels.specs.Voltage.{below_recharge, taper_of, charge_voltage_of}
use Rattle.settle_permission.specs.Bits.{regulated_of}
use Rattle.settle_permission.specs.Ending.{ending_of}
use Rattle.settle_permission.specs.Limits.{reached_of}
use Rattle.settle_permission.specs.Permission.{permitted_of}
use Rattle.settle_bands.specs.Effect.{suspends_of, cut_of}
use Rattle.settle_bands.specs.Thresholds.{band_by, marks_of, band_of}
use Rattle.settle_bands.specs.Joined.{either, joined_of}
use Rattle.settle_bands.specs.Holding.{stays_by, next_by, next_of, bands_of}
use Rattle.settle_phases.specs.Cycles.{cycle_of}
use Rattle.settle_phases.specs.Order.{phase_of, clears_of, ends_of, judged_of, restarts_of}
use Rattle.settle_all.specs.Gather.{tests_of}
use Rattle.settle_all.specs.Settle.{settle_of, forced_of, settled_of}
use Rattle.step_flags.specs.Edges.{edges_of, seen_of}
use Rattle.step_flags.specs.Expiry.{expired_of, expires_of}
use Rattle.step_kinds.specs.Finish.{finish_of}
use Rattle.step_kinds.specs.Plain.{set_of, written_of}
use Rattle.step_turns.specs.Ranges.{profile_in_range, edition_in_range, sample_in_range, two_in_range}
use Rattle.step_turns.specs.Turns.{held_profile, first_edition, turn_of}
use Rattle.step_event.specs.Clock.{observed_of, counted_of, cleared_if, times_of, units_of}
use Rattle.step_event.specs.Steps.{step_of, turned_by, change_of, first_of, moved_of, followed_of, observe_of, seen_on}
use Rattle.laws_account.proofs.Powering.{powered_of}
use Rattle.laws_demands.specs.First.{Answered, ReadAt, end, WrittenIn, no_room, no-spelling}
use Rattle.laws_format.specs.Readers.{Reader, Writer}
use Rattle.laws_demands.specs.Product.{Step}
use Rattle.laws_demands.specs.Refuted.{FirstRefuted}
use Rattle.laws_demands.proofs.Typed as typed
use Rattle.laws_demands.proofs.Days.{paper, held, differ, one-byte}
use Rattle.laws_demands.specs.Wrong.{forgets, stops_always, spills}

-- the end isn't answered within a log
ends-late : (bytes : List ℕ) → ReadAt bytes 0 log.end → length bytes ≤ 0
ends-late bytes (end late) = late

-- what a refused write leaves is what stood there
stays : (buffer after : List ℕ) (n place : ℕ) → WrittenIn buffer (answer.refused n place, after) → after ≡ buffer
stays buffer after n place no_room = refl
stays buffer after n place no-spelling = refl

pub first-refuted : FirstRefuted
unfolding forgets stops_always spills step_of written spell_event settle_of start_state first_of state_ok moved_of spell_items forced_of latches_of bands_of next_of next_by stays_by joined_of either band_of band_by marks_of settled_of tests_of start_settings profile_ok settings_ok registers_ok cycle_ok watchdog_ok sample_ok set_of observe_of fault_of base_of short_of low_of pack_over_of cycle_of phase_of permitted_of suspends_of below_recharge taper_of charge_voltage_of ending_of start_vreg start_ichg start_vsysmin may_hold finish_of store_of write_of observed_of reset_of spell pack_clamp_of in_pack below_share clears_of ends_of judged_of reached_of cut_of regulated_of held_of words_ok range_of edges_of merged pulse_of written_to counted_of expired_of cleared_if times_of units_of reset_registers groups restarts_of setting_numbers fields_of ranges seen_of recounted written_registers taken_by gathered fields turned_by change_of followed_of written_of turn_of profile_in_range edition_in_range sample_in_range two_in_range seen_on start_words restored_by without_overrides put_in with_word put_at expires_of
first-refuted = record {
  forgotten = λ p e d.
      let s = On (powered_of (held_profile paper first_edition)) in
      let same = subst (λ (step : Step). Answered s (step s (Set 15 0))) e (d.steps s (Set 15 0)) in
      differ 0 1 refl (ap (held (λ s. 1)) (same.refused (λ z. omega arith)).model);
  stopped = λ p e d.
      let same = subst (λ (read : Reader). ReadAt (4 ∷ []) 0 (read (4 ∷ []) 0)) e (d.reads (4 ∷ []) one-byte 0) in
      let z = ends-late (4 ∷ []) same in
      absurd (omega arith);
  spilt = λ p e d.
      let same = subst (λ (write : Writer). WrittenIn (0 ∷ []) (write (Set 1 1) (0 ∷ []))) e (d.writes (Set 1 1) (0 ∷ [])) in
      differ 2 0 refl (ap (λ l. get_or l 0 0) (stays (0 ∷ []) (2 ∷ []) 12 0 same));
  partly = λ p e d. (typed.broken).front (subst (λ (step : Step). (m : Model) (x : Event) → Answered m (step m x)) e d.steps);
}
