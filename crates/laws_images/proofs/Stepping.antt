-- Every event leaves a model that can be stored one that can.
use Prim.Native.Nat.{ℕ, ◌^◌, ◌<◌}
use mathlib.Core.Path.{◌≡◌, refl, sym, subst}
use mathlib.Core.Bool.{Bool, true, false, not, ◌&&◌}
use lib.Dec.{leb, ltb, eqb}
use borrow.Author.Tests.{eqb-true, eqb-false}
use Rattle.base.specs.Pick.{pick}
use Rattle.base.specs.Stamps.{elapsed_of}
use Rattle.base.specs.Told.{Told, accepted, refused}
use Rattle.state_parts.specs.declared.profile.Profile.{Profile}
use Rattle.state_parts.specs.declared.sample.Sample.{Sample}
use Rattle.state_parts.specs.declared.state.State.{State}
use Rattle.state_parts.specs.declared.state.Model.{Model}
use Rattle.state_parts.specs.declared.state.Model.TheVariants.{Off, On}
use Rattle.log_event.specs.Items.{AllFit}
use Rattle.log_event.specs.Events.{items_of}
use Rattle.log_event.specs.declared.Event.{Event}
use Rattle.log_event.specs.declared.Event.TheVariants as event
use Rattle.log_raw.specs.Raw.{Raw, byte_of, has_spelling}
use Rattle.log_raw.specs.Struct.{raw_of}
use Rattle.report_registers.specs.Reads.{flag_register}
use Rattle.state_runs.specs.Runs.{outside, halves, illegal_frequency, bad_run, written_run, write_run_of, resets, serves}
use Rattle.state_table.specs.Rows.{frequency_ok, fsw, digit_of}
use Rattle.state_start.specs.Values.{start_state}
use Rattle.state_settings.specs.Ranges.{known_setting, may_hold}
use Rattle.state_valid.specs.Holds.{state_ok}
use Rattle.state_registers.specs.Writes.{known_address, written_to, write_of}
use Rattle.state_registers.specs.Resets.{reset_of}
use Rattle.settle_all.specs.Settle.{forced_of, settled_of, settle_of}
use Rattle.state_parts.specs.With.{with_flags}
use Rattle.step_turns.specs.Ranges.{edition_in_range, two_in_range, resistors_in_range}
use Rattle.step_turns.specs.Coded.{coded_of}
use Rattle.step_turns.specs.Turns.{held_profile, held_sample, opens_with, first_edition, turn_of}
use Rattle.step_turns.specs.declared.later.Later.{Later}
use Rattle.step_turns.specs.declared.later.Later.TheVariants.{Set, Write, TakeFlags, Observe, Service, Reset, WriteRun, ReadFlags}
use Rattle.step_turns.specs.declared.turn.Turn.{Turn}
use Rattle.step_turns.specs.declared.turn.Turn.TheVariants.{Opens, Follows, OpensOutside, FollowsOutside}
use Rattle.step_flags.specs.declared.between.Seen.{Seen}
use Rattle.step_kinds.specs.Changes.{Changed}
use Rattle.step_kinds.specs.Finish.{observing, finish_of}
use Rattle.step_kinds.specs.Plain.{after_write, opened_as, set_of, written_of, serviced_of, acted_of, after_run, run_from, read_flags_of}
use Rattle.step_kinds.specs.declared.change.Way.{Way}
use Rattle.step_event.specs.Clock.{observed_of}
use Rattle.step_event.specs.Steps.{observe_of, followed_of, moved_of, first_of, change_of, model_ok, seen_on, closed_by, turned_by, step_of}
use Rattle.step_event.proofs.Keeps.{refused-leaves, accepted-passes}
use Rattle.state_settings.specs.Numbered.{setting_numbers}
use Rattle.c_list.specs.Places.{sample_place}
use Rattle.c_list.specs.Numbers.{state_numbers}
use Rattle.c_image.specs.Promises.{Storable}
use Rattle.laws_images.specs.Promises.{Stamped, StepStorable}
use Rattle.laws_images.proofs.Fitting.{each}
use Rattle.laws_images.proofs.Holding.{valid-storable}

abbrev StampedIn : Model → Type 0
StampedIn Off = Unit {0}
StampedIn (On s) = Stamped s

-- a change of a state whose stamps have 32 bits, to one of which the same is true
abbrev StampedBy : Told Changed → Type 0
StampedBy (accepted c) = Stamped c.state
StampedBy (refused n) = Unit {0}

-- a test chooses between two that are
chosen : (t : Bool) (a b : Told Changed) → StampedBy a → StampedBy b → StampedBy (pick t a b)
chosen true a b h k = h
chosen false a b h k = k

-- what a turn brings has stamps of 32 bits
abbrev LaterStamped : Later → Type 0
LaterStamped (Set number value) = Unit {0}
LaterStamped (Write address byte) = Unit {0}
LaterStamped TakeFlags = Unit {0}
LaterStamped (Observe x) = x.stamp < 2 ^ 32
LaterStamped Service = Unit {0}
LaterStamped Reset = Unit {0}
LaterStamped (WriteRun first raw) = Unit {0}
LaterStamped (ReadFlags address) = Unit {0}

abbrev TurnStamped : Turn → Type 0
TurnStamped (Opens p) = p.stamp < 2 ^ 32
TurnStamped (Follows e) = LaterStamped e
TurnStamped OpensOutside = Unit {0}
TurnStamped FollowsOutside = Unit {0}

in-turn : (t : Bool) (a b : Turn) → TurnStamped a → TurnStamped b → TurnStamped (pick t a b)
in-turn true a b h k = h
in-turn false a b h k = k

spelled : (e : Event) → AllFit (items_of e) → TurnStamped (turn_of e)
unfolding turn_of
spelled (event.PowerOn p) k = in-turn (edition_in_range p first_edition) (Opens (held_profile p first_edition)) OpensOutside k.1.1.1.1.0 tt
spelled (event.PowerOnEdition v) k = in-turn (edition_in_range v.profile v.edition) (Opens (held_profile v.profile v.edition)) OpensOutside k.1.1.1.1.0 tt
spelled (event.Set number value) k = tt
spelled (event.Write address byte) k = tt
spelled event.TakeFlags k = tt
spelled (event.Observe x) k = in-turn (two_in_range x x.ts) (Follows (Observe (held_sample x x.ts))) FollowsOutside k.0 tt
spelled (event.ObserveTwo t) k = in-turn (two_in_range t.sample t.second) (Follows (Observe (held_sample t.sample t.second))) FollowsOutside k.0 tt
spelled event.Service k = tt
spelled event.Reset k = tt
spelled (event.WriteRun first raw) k = tt
spelled (event.ReadFlags address) k = tt
spelled (event.PowerOnResistors r) k = in-turn (resistors_in_range r) (opens_with (coded_of r) first_edition) OpensOutside (in-turn (edition_in_range (coded_of r) first_edition) (Opens (held_profile (coded_of r) first_edition)) OpensOutside k.1.1.1.1.0 tt) tt

-- settling, flags and what a write leaves move no stamp
settled : (s : State) (observed : Bool) (f : ℕ) → Stamped s → Stamped (with_flags (settle_of s observed) f)
unfolding settle_of settled_of forced_of
settled s observed f h = h

finished : (before : Seen) (s : State) (way : Way) → Stamped s → StampedIn (finish_of before s way).model
unfolding finish_of
finished before s way h = settled s (observing way) s.flags h

written : (s : State) (address byte : ℕ) → Stamped s → Stamped (written_to s address byte)
unfolding written_to
written s address byte h = h

-- nor what a run leaves
ran-stamps : (s : State) (first : ℕ) (raw : Raw) → Stamped s → Stamped (written_run s first raw)
unfolding written_run
ran-stamps s first raw h = h

acted-stamps : (s : State) (first : ℕ) (raw : Raw) → Stamped s → Stamped (acted_of s first raw)
unfolding acted_of reset_of
acted-stamps s first raw h = by (resets first raw) (serves first raw)
  where
    by : (resets serves : Bool) → let reset = pick resets (reset_of s) s in Stamped (pick serves (serviced_of reset) reset)
    by true true = h
    by true false = h
    by false true = h
    by false false = h

powered : (p : Profile) → p.stamp < 2 ^ 32 → StampedBy (opened_as p)
unfolding start_state
powered p k = (k, k)

module _ (s : State) (h : Stamped s) where
  sets : (number value : ℕ) → StampedBy (set_of s number value)
  unfolding set_of
  sets number value = chosen (not (known_setting s.profile number)) _ _ tt (chosen (not (may_hold s.profile number value)) _ _ tt h)

  writes : (address byte : ℕ) → StampedBy (written_of s address byte)
  unfolding written_of write_of
  writes address byte = by (not (known_address address)) (not (leb byte 255)) (eqb address 0x16 && not (frequency_ok s.profile (digit_of fsw byte)))
    where
      by : (unknown large bad : Bool)
          → StampedBy (after_write (pick unknown (refused 10) (pick large (refused 5) (pick bad (refused 11) (accepted (written_to s address byte))))))
      by true large bad = tt
      by false true bad = tt
      by false false true = tt
      by false false false = written s address byte h

  runs : (first : ℕ) (raw : Raw) → StampedBy (run_from s first raw)
  unfolding run_from write_run_of
  runs first raw = by (not (has_spelling raw)) (outside first raw.count) (halves s.profile first raw.count) (illegal_frequency (byte_of raw) first raw.count s.profile) (bad_run (byte_of raw) first raw.count s.profile)
    where
      by : (a b c d e : Bool)
          → StampedBy (after_run (pick a (refused 5) (pick b (refused 10) (pick c (refused 15) (pick d (refused 11) (pick e (refused 9) (accepted (written_run s first raw))))))) first raw)
      by true b c d e = tt
      by false true c d e = tt
      by false false true d e = tt
      by false false false true e = tt
      by false false false false true = tt
      by false false false false false = acted-stamps (written_run s first raw) first raw (ran-stamps s first raw h)

  observes : (x : Sample) → x.stamp < 2 ^ 32 → StampedBy (observe_of s x)
  unfolding observe_of observed_of
  observes x k = chosen (ltb 3600000 (elapsed_of s.sample.stamp x.stamp)) _ _ tt (h.0, k)

  follows : (e : Later) → LaterStamped e → StampedBy (followed_of s e)
  unfolding followed_of reset_of read_flags_of
  follows (Set number value) k = sets number value
  follows (Write address byte) k = writes address byte
  follows TakeFlags k = h
  follows (Observe x) k = observes x k
  follows Service k = h
  follows Reset k = h
  follows (WriteRun first raw) k = runs first (raw_of raw)
  follows (ReadFlags address) k = chosen (not (flag_register s.profile address)) _ _ tt h

  moves : (t : Turn) → TurnStamped t → StampedBy (moved_of s t)
  unfolding moved_of
  moves (Opens p) k = powered p k
  moves (Follows e) k = follows e k
  moves OpensOutside k = tt
  moves FollowsOutside k = tt

first : (t : Turn) → TurnStamped t → StampedBy (first_of t)
unfolding first_of
first (Opens p) k = powered p k
first (Follows e) k = tt
first OpensOutside k = tt
first FollowsOutside k = tt

changes : (m : Model) (t : Turn) → StampedIn m → TurnStamped t → StampedBy (change_of m t)
unfolding change_of
changes Off t h k = first t k
changes (On s) t h k = chosen (state_ok s) (moved_of s t) (refused 5) (moves s h t k) tt

closed : (m : Model) (c : Told Changed) → StampedIn m → StampedBy c → StampedIn (closed_by m c).model
closed m (accepted c) h k = finished (seen_on m) c.state c.way k
closed m (refused n) h k = h

-- the stamps after an event are its own or those before it
stamps : (m : Model) (e : Event) → StampedIn m → AllFit (items_of e) → StampedIn (step_of m e).model
unfolding step_of turned_by
stamps m e h k = closed m (change_of m (turn_of e)) h (changes m (turn_of e) h (spelled e k))

stamped : (m : Model) → Storable m → StampedIn m
unfolding state_numbers setting_numbers
stamped Off h = tt
stamped (On s) h = (each (state_numbers s) h.0 4, each (state_numbers s) h.0 sample_place)

valid : (m : Model) → model_ok m ≡ true → StampedIn m → Storable m
unfolding model_ok
valid Off ok h = tt
valid (On s) ok h = valid-storable s ok h

pub step-storable : StepStorable
step-storable m e h k = by (eqb (step_of m e).number 0) refl
  where
    by : (t : Bool) → eqb (step_of m e).number 0 ≡ t → Storable (step_of m e).model
    by true n = valid (step_of m e).model (accepted-passes m e (eqb-true (step_of m e).number 0 n)) (stamps m e (stamped m h) k)
    by false n = subst Storable (sym (refused-leaves m e (eqb-false (step_of m e).number 0 n)).model) h
