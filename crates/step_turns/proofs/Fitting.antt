-- What is held of an event whose numbers are in their ranges is what a held part may be; two equal TS values are held as one is, and edition 1 as none.
use Prim.Native.Nat.{ℕ}
use mathlib.Core.Path.{◌≡◌, refl}
use mathlib.Core.Bool.{Bool, true, false}
use Rattle.base.specs.Pick.{pick}
use Rattle.log_event.specs.declared.Event.TheVariants as event
use Rattle.log_event.specs.declared.spelled.SpelledProfile.{SpelledProfile}
use Rattle.log_event.specs.declared.spelled.SpelledSample.{SpelledSample}
use Rattle.state_valid.specs.Holds.{profile_ok, sample_ok}
use Rattle.step_turns.specs.Ranges.{profile_in_range, edition_in_range, sample_in_range, two_in_range, resistors_in_range}
use Rattle.step_turns.specs.Coded.{coded_of}
use Rattle.step_turns.specs.Turns.{held_profile, held_sample, opens_with, first_edition, second_of_one, turn_of}
use Rattle.step_turns.specs.Promises.{TurnFits, EveryTurnFits, EqualSayFive, FirstSaysOne}
use Rattle.step_turns.specs.declared.later.Later.TheVariants.{Observe}
use Rattle.step_turns.specs.declared.turn.Turn.{Turn}
use Rattle.step_turns.specs.declared.turn.Turn.TheVariants.{Opens, Follows, OpensOutside, FollowsOutside}

pub profile-held : (p : SpelledProfile) (edition : ℕ) → profile_ok (held_profile p edition) ≡ edition_in_range p edition
unfolding profile_ok profile_in_range edition_in_range
profile-held p edition = refl

pub sample-held : (x : SpelledSample) (second : ℕ) → sample_ok (held_sample x second) ≡ two_in_range x second
unfolding sample_ok sample_in_range two_in_range
sample-held x second = refl

opens_by : (p : SpelledProfile) (edition : ℕ) (b : Bool) → profile_ok (held_profile p edition) ≡ b → TurnFits (pick b (Opens (held_profile p edition)) OpensOutside)
opens_by p edition true e = e
opens_by p edition false e = refl

opens_in : (p : SpelledProfile) (edition : ℕ) → TurnFits (opens_with p edition)
opens_in p edition = opens_by p edition (edition_in_range p edition) (profile-held p edition)

observes-by : (x : SpelledSample) (second : ℕ) (b : Bool) → sample_ok (held_sample x second) ≡ b → TurnFits (pick b (Follows (Observe (held_sample x second))) FollowsOutside)
observes-by x second true e = e
observes-by x second false e = refl

within_by : (t : Turn) (b : Bool) → TurnFits t → TurnFits (pick b t OpensOutside)
within_by t true h = h
within_by t false h = refl

pub every-turn-fits : EveryTurnFits
unfolding turn_of
every-turn-fits (event.PowerOn p) = opens_in p first_edition
every-turn-fits (event.Set number value) = refl
every-turn-fits (event.Write address byte) = refl
every-turn-fits event.TakeFlags = refl
every-turn-fits (event.Observe x) = observes-by x (second_of_one x) (two_in_range x (second_of_one x)) (sample-held x (second_of_one x))
every-turn-fits event.Service = refl
every-turn-fits event.Reset = refl
every-turn-fits (event.PowerOnResistors r) = within_by (opens_with (coded_of r) first_edition) (resistors_in_range r) (opens_in (coded_of r) first_edition)
every-turn-fits (event.PowerOnEdition v) = opens_in v.profile v.edition
every-turn-fits (event.ObserveTwo t) = observes-by t.sample t.second (two_in_range t.sample t.second) (sample-held t.sample t.second)
every-turn-fits (event.WriteRun address raw) = refl
every-turn-fits (event.ReadFlags address) = refl

pub equal-say-five : EqualSayFive
unfolding turn_of
equal-say-five x = refl

pub first-says-one : FirstSaysOne
unfolding turn_of
first-says-one p = refl
