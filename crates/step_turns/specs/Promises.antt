-- What is promised of every event: what is held of numbers in their ranges is what a held part may be, a run begins with what its power-on says, and an observation is of what it says.
use Rattle.std.specs.Prelude.{◌≡◌, Bool, true, ◌⊎◌}
use Rattle.log_event.specs.declared.Event.{Event}
use Rattle.log_event.specs.declared.Event.TheVariants as event
use Rattle.log_event.specs.declared.Event.TheVariants.{PowerOn, PowerOnResistors, PowerOnEdition}
use Rattle.log_event.specs.declared.spelled.SpelledEdition.{SpelledEdition}
use Rattle.log_event.specs.declared.spelled.SpelledProfile.{SpelledProfile}
use Rattle.log_event.specs.declared.spelled.SpelledResistors.{SpelledResistors}
use Rattle.log_event.specs.declared.spelled.SpelledSample.{SpelledSample}
use Rattle.log_event.specs.declared.spelled.SpelledTwo.{SpelledTwo}
use Rattle.state_parts.specs.declared.profile.Profile.{Profile}
use Rattle.state_parts.specs.declared.sample.Sample.{Sample}
use Rattle.state_valid.specs.Holds.{profile_ok, sample_ok}
use Rattle.step_turns.specs.Turns.{turn_of}
use Rattle.step_turns.specs.Begins.{Begins}
use Rattle.step_turns.specs.Sampled.{SaysSample}
use Rattle.step_turns.specs.declared.later.Later.{Later}
use Rattle.step_turns.specs.declared.later.Later.TheVariants.{Set, Write, TakeFlags, Observe, Service, Reset, WriteRun, ReadFlags}
use Rattle.step_turns.specs.declared.turn.Turn.{Turn}
use Rattle.step_turns.specs.declared.turn.Turn.TheVariants.{Opens, Follows, OpensOutside, FollowsOutside}

abbrev pub later_ok : Later → Bool
later_ok (Set number value) = true
later_ok (Write address byte) = true
later_ok TakeFlags = true
later_ok (Observe x) = sample_ok x
later_ok Service = true
later_ok Reset = true
later_ok (WriteRun address raw) = true
later_ok (ReadFlags address) = true

abbrev pub turn_ok : Turn → Bool
turn_ok (Opens p) = profile_ok p
turn_ok (Follows e) = later_ok e
turn_ok OpensOutside = true
turn_ok FollowsOutside = true

abbrev pub LaterFits : Later → Type 0
LaterFits e = later_ok e ≡ true

abbrev pub TurnFits : Turn → Type 0
TurnFits t = turn_ok t ≡ true

abbrev pub EveryTurnFits : Type 0
EveryTurnFits = (e : Event) → TurnFits (turn_of e)

-- 02, R-7: "kind 5 stands for two equal ones": kind 10 with them does what it does
abbrev pub EqualSayFive : Type 0
EqualSayFive = (x : SpelledSample) → turn_of (event.ObserveTwo (record { sample = x; second = x.ts })) ≡ turn_of (event.Observe x)

-- 02, R-8: "Kinds 1 and 9 mean the first": kind 11 with edition 1 does what kind 1 does
abbrev pub FirstSaysOne : Type 0
FirstSaysOne = (p : SpelledProfile) → turn_of (PowerOnEdition (record { profile = p; edition = 1 })) ≡ turn_of (PowerOn p)

-- each power-on says a profile, in its ranges or not, and no event says two
pub record SaysOneProfile : Type 0 where
  pub codes : (q : SpelledProfile) → (p : Profile) × Begins (PowerOn q) p
  pub resistors : (r : SpelledResistors) → (p : Profile) × Begins (PowerOnResistors r) p
  pub edition : (v : SpelledEdition) → (p : Profile) × Begins (PowerOnEdition v) p
  pub one : (e : Event) (p q : Profile) → Begins e p → Begins e q → p ≡ q

-- an event that says a profile opens a run with it, or a number of it is outside its range; and no other event opens one
pub record BeginsAsSaid : Type 0 where
  pub opens : (e : Event) (p : Profile) → Begins e p → (turn_of e ≡ Opens p) ⊎ (turn_of e ≡ OpensOutside)
  pub said : (e : Event) (p : Profile) → turn_of e ≡ Opens p → Begins e p

-- the same of an observation: it says a sample, in its ranges or not, and no event says two
pub record SaysOneSample : Type 0 where
  pub one_value : (x : SpelledSample) → (y : Sample) × SaysSample (event.Observe x) y
  pub two-values : (t : SpelledTwo) → (y : Sample) × SaysSample (event.ObserveTwo t) y
  pub one : (e : Event) (x y : Sample) → SaysSample e x → SaysSample e y → x ≡ y

-- what follows is the observation of that sample, or a number is outside its range; and no other event is an observation
pub record ObservesAsSaid : Type 0 where
  pub follows : (e : Event) (x : Sample) → SaysSample e x → (turn_of e ≡ Follows (Observe x)) ⊎ (turn_of e ≡ FollowsOutside)
  pub said : (e : Event) (x : Sample) → turn_of e ≡ Follows (Observe x) → SaysSample e x
