-- The flags of a run: the edges of an event are the account's, and so are the flags that are held after it.
use Prim.Native.Nat.{ℕ, ◌*◌, ◌/◌, ◌%◌, ◌^◌, ◌≤◌}
use native.Mathlib.Omega.{arith}
use mathlib.Core.Path.{◌≡◌, refl, sym, ap, ◌∙◌}
use mathlib.Core.Bool.{Bool, true, false, not, ◌&&◌, ◌||◌, or_assoc, or-false}
use lib.Dec.{leb, ltb, eqb}
use Rattle.base.specs.Pick.{pick, bit_of}
use Rattle.report_registers.specs.Reads.{flag_byte}
use Rattle.state_parts.specs.Edges.{flags_number, merged, pulse_of, no_flags}
use Rattle.state_parts.specs.declared.flags.Edges.{Edges}
use Rattle.state_parts.specs.declared.state.State.{State}
use Rattle.state_parts.proofs.FlagLaws.{flags-join}
use Rattle.settle_permission.specs.Limits.{reached_of}
use Rattle.state_parts.specs.With.{with_flags}
use Rattle.state_parts.specs.declared.state.Model.TheVariants.{On}
use Rattle.step_flags.specs.Expiry.{begins}
use Rattle.step_flags.specs.Edges.{seen_of, edges_of}
use Rattle.settle_all.specs.Settle.{settle_of}
use Rattle.step_kinds.specs.Answers.{Outcome}
use Rattle.step_kinds.specs.Finish.{observing, kept_by, handed_by, pulses_by, finish_of, flags_left}
use Rattle.step_kinds.specs.declared.change.Way.{Way}
use Rattle.laws_account.specs.History.{Run, ◌▸◌, since}
use Rattle.step_turns.specs.declared.later.Later.{Later}
use Rattle.step_turns.specs.declared.later.Later.TheVariants.{TakeFlags, ReadFlags}
use Rattle.laws_account.specs.Held.{profile_of, was_observed}
use Rattle.laws_account.specs.Valued.{setting_of}
use Rattle.laws_account.specs.Judged.{input_good}
use Rattle.laws_account.specs.Cycles.{limit_reached, phase_at}
use Rattle.laws_account.specs.Flagged as flag
use Rattle.laws_account.specs.Flagged.{Flag, place_of, every_flag, flags_by, any_of, is_in, was_taken, edge, flagged, is_found, handed_back, pulsed}
use Rattle.laws_account.specs.States.{settings_at, latches_at, cycle_at, flags_at, state_by, state_of}
use Rattle.laws_account.proofs.Choices.{or_swap}
use Rattle.state_parts.specs.Numbers.{band_number}
use Rattle.laws_account.proofs.Dogs.{expired-is}
use Rattle.laws_account.proofs.Judging.{pack-is}
use Rattle.laws_account.proofs.Found.{written_by, found, written_is}
use Rattle.laws_account.proofs.Settling.{flagged_with, settle_is}

-- the model's edges, each by its flag's test
abbrev pub edges_by : (Flag → Bool) → Edges
edges_by test = record {
  good = test flag.good;
  lost = test flag.lost;
  iindpm = test flag.iindpm;
  vindpm = test flag.vindpm;
  thermal = test flag.thermal;
  expired = test flag.expiry;
  phase = test flag.phase;
  band = test flag.band;
  inputover = test flag.inputover;
  shutdown = test flag.shutdown;
  packover = test flag.packover;
  limit = test flag.limit;
}

-- the model's number of them and its pulse are the account's
number_is : (test : Flag → Bool) → flags_number (edges_by test) ≡ flags_by test
unfolding flags_number
number_is test = omega arith

pulse-is : (test : Flag → Bool) (masks : ℕ) → pulse_of (edges_by test) masks ≡ any_of (λ k. test k && eqb (masks / 2 ^ place_of k % 2) 0) every_flag
unfolding pulse_of
pulse-is test masks = simp (or_assoc, or-false)

join_is : (held raised : Flag → Bool) → merged (flags_by held) (edges_by raised) ≡ flags_by (λ k. held k || raised k)
join_is held raised =
    ap (λ n. merged n (edges_by raised)) (sym (number_is held)) ∙ flags-join (edges_by held) (edges_by raised) ∙ number_is (λ k. held k || raised k)

module _ (r : Run) (e : Later) where
  abbrev pub edges : Edges
  edges = edges_by (λ k. edge phase_at k (r ▸ e))

  expires-is : begins (seen_of (state_of r)).expired (seen_of (flagged_with (r ▸ e) (flags_at phase_at r))).expired ≡ edge phase_at flag.expiry (r ▸ e)
  unfolding seen_of edge state_by
  expires-is = λ i. begins (expired-is r i) (expired-is (r ▸ e) i)

  moves-is : not (eqb (seen_of (state_of r)).band (seen_of (flagged_with (r ▸ e) (flags_at phase_at r))).band) ≡ edge phase_at flag.band (r ▸ e)
  unfolding seen_of edge state_by
  moves-is = λ i. not (eqb (band_number (pack-is r i)) (band_number (pack-is (r ▸ e) i)))

  edges_are : edges_of (seen_of (state_of r)) (seen_of (flagged_with (r ▸ e) (flags_at phase_at r))) ≡ edges
  unfolding edges_of edge state_by seen_of reached_of limit_reached latches_at cycle_at input_good
  edges_are = λ i. record {
    good = edge phase_at flag.good (r ▸ e);
    lost = edge phase_at flag.lost (r ▸ e);
    iindpm = edge phase_at flag.iindpm (r ▸ e);
    vindpm = edge phase_at flag.vindpm (r ▸ e);
    thermal = edge phase_at flag.thermal (r ▸ e);
    expired = expires-is i;
    phase = edge phase_at flag.phase (r ▸ e);
    band = moves-is i;
    inputover = edge phase_at flag.inputover (r ▸ e);
    shutdown = edge phase_at flag.shutdown (r ▸ e);
    packover = edge phase_at flag.packover (r ▸ e);
    limit = edge phase_at flag.limit (r ▸ e);
  }

  pulsed-is : pulse_of (edges_of (seen_of (state_of r)) (seen_of (flagged_with (r ▸ e) (flags_at phase_at r)))) (setting_of 14 (r ▸ e)) ≡ pulsed phase_at (r ▸ e)
  unfolding pulsed
  pulsed-is = ap (λ x. pulse_of x (setting_of 14 (r ▸ e))) edges_are ∙ pulse-is (λ k. edge phase_at k (r ▸ e)) (setting_of 14 (r ▸ e))

  -- the flags that the event found and raised
  abbrev pub all : ℕ
  all = merged (flags_at phase_at r) edges

  module _ (w : Way) where
    -- what every accepted event ends with, by the state that settling comes to
    abbrev ending : State → Outcome
    ending s =
        let raised = edges_of (seen_of (state_of r)) (seen_of s) in
        let flags = merged (flags_at phase_at r) raised in
        record { number = 0; place = 0; model = On (with_flags s (kept_by w flags)); pulse = pulses_by w (pulse_of raised s.settings.masks); handed = handed_by s.profile w flags }

    abbrev pub ended : Outcome
    ended = record { number = 0; place = 0; model = On (flagged_with (r ▸ e) (kept_by w all)); pulse = pulses_by w (pulsed phase_at (r ▸ e)); handed = handed_by (profile_of r) w all }

    settled_is : observing w ≡ was_observed (r ▸ e) → settle_of (found r e) (observing w) ≡ flagged_with (r ▸ e) (flags_at phase_at r)
    settled_is h = ap (settle_of (found r e)) h ∙ settle_is r e

    found-is : observing w ≡ was_observed (r ▸ e) → finish_of (seen_of (state_of r)) (found r e) w ≡ ended
    unfolding finish_of found settings_at state_by profile_of
    found-is h =
        ap ending (settled_is h)
        ∙ (λ i. record {
          number = 0;
          place = 0;
          model = On (flagged_with (r ▸ e) (kept_by w (merged (flags_at phase_at r) (edges_are i))));
          pulse = pulses_by w (pulsed-is i);
          handed = handed_by (profile_of r) w (merged (flags_at phase_at r) (edges_are i));
        })

    pub finish-is : observing w ≡ was_observed (r ▸ e) → finish_of (seen_of (state_of r)) (written_by (state_of r) e) w ≡ ended
    finish-is h = ap (λ s. finish_of (seen_of (state_of r)) s w) (written_is r e) ∙ found-is h

  -- they are the account's
  pub all_found : all ≡ flags_by (λ k. is_found phase_at k (r ▸ e))
  unfolding flags_at is_found
  all_found = join_is (λ k. flagged phase_at k r) (λ k. edge phase_at k (r ▸ e))

  -- a flag is held after the event if it was found and isn't taken
  held_after : (k : Flag) → (not (was_taken k (r ▸ e)) && is_found phase_at k (r ▸ e)) ≡ flagged phase_at k (r ▸ e)
  unfolding flagged since is_found
  held_after k = by (was_taken k (r ▸ e))
    where
      by : (taken : Bool) → (not taken && (flagged phase_at k r || edge phase_at k (r ▸ e))) ≡ (not taken && edge phase_at k (r ▸ e) || not taken && flagged phase_at k r)
      by true = refl
      by false = or_swap (flagged phase_at k r) (edge phase_at k (r ▸ e))

  untaken : ((k : Flag) → was_taken k (r ▸ e) ≡ false) → (k : Flag) → is_found phase_at k (r ▸ e) ≡ flagged phase_at k (r ▸ e)
  untaken h k = ap (λ b. not b && is_found phase_at k (r ▸ e)) (sym (h k)) ∙ held_after k

  pub kept-is : ((k : Flag) → was_taken k (r ▸ e) ≡ false) → flagged_with (r ▸ e) all ≡ state_of (r ▸ e)
  unfolding state_by flags_at
  kept-is h = ap (flagged_with (r ▸ e)) (all_found ∙ (λ i. flags_by (λ k. untaken h k i)))

-- taken flags are handed back, and none is held after it
pub taken_is : (r : Run) → flagged_with (r ▸ TakeFlags) no_flags ≡ state_of (r ▸ TakeFlags)
unfolding state_by flags_at flagged since was_taken
taken_is r = refl

pub hands-held : (r : Run) → all r TakeFlags ≡ handed_back phase_at (r ▸ TakeFlags)
unfolding handed_back
hands-held r = all_found r TakeFlags

-- of a number of flags, those that a flag register leaves
pub left_is : (address : ℕ) (test : Flag → Bool) → flags_left address (flags_by test) ≡ flags_by (λ k. not (is_in address k) && test k)
left_is address test = by (eqb address 0x20)
  where
    small : (b : Bool) → bit_of b ≤ 1
    small true = omega arith
    small false = omega arith

    by : (low : Bool) → pick low (flags_by test / 256 * 256) (flags_by test % 256) ≡ flags_by (λ k. not (pick low (ltb (place_of k) 8) (leb 8 (place_of k))) && test k)
    by true =
        omega (arith, small (test flag.good), small (test flag.lost), small (test flag.iindpm), small (test flag.vindpm), small (test flag.thermal), small (test flag.expiry), small (test flag.phase), small (test flag.band))
    by false =
        omega (arith, small (test flag.good), small (test flag.lost), small (test flag.iindpm), small (test flag.vindpm), small (test flag.thermal), small (test flag.expiry), small (test flag.phase), small (test flag.band))

-- a read of a flag register clears its own flags, and hands back its byte
pub read_is : (r : Run) (address : ℕ) → flagged_with (r ▸ ReadFlags address) (flags_left address (all r (ReadFlags address))) ≡ state_of (r ▸ ReadFlags address)
unfolding state_by flags_at was_taken
read_is r address =
    ap (flagged_with (r ▸ ReadFlags address))
    (ap (flags_left address) (all_found r (ReadFlags address)) ∙ left_is address (λ k. is_found phase_at k (r ▸ ReadFlags address)) ∙ (λ i. flags_by (λ k. held_after r (ReadFlags address) k i)))

pub hands-byte : (r : Run) (address : ℕ) → flag_byte (profile_of r) address (all r (ReadFlags address)) ≡ handed_back phase_at (r ▸ ReadFlags address)
unfolding handed_back
hands-byte r address = ap (flag_byte (profile_of r) address) (all_found r (ReadFlags address))
