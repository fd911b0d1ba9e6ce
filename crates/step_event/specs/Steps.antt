-- 01: what an event does to the model: the one kind that brings time, and all of them together.
use Rattle.std.specs.Prelude.{Bool, true, false, nat_lt}
use Rattle.base.specs.Pick.{pick}
use Rattle.base.specs.Stamps.{elapsed_of}
use Rattle.base.specs.Told.{Told, accepted, refused}
use Rattle.log_event.specs.declared.Event.{Event}
use Rattle.log_raw.specs.Struct.{raw_of}
use Rattle.state_parts.specs.declared.sample.Sample.{Sample}
use Rattle.state_parts.specs.declared.state.State.{State}
use Rattle.state_parts.specs.declared.state.Model.{Model}
use Rattle.state_parts.specs.declared.state.Model.TheVariants.{Off, On}
use Rattle.state_valid.specs.Holds.{state_ok}
use Rattle.state_registers.specs.Resets.{reset_of}
use Rattle.step_turns.specs.Turns.{turn_of}
use Rattle.step_turns.specs.declared.later.Later.{Later}
use Rattle.step_turns.specs.declared.later.Later.TheVariants.{Set, Write, TakeFlags, Observe, Service, Reset, WriteRun, ReadFlags}
use Rattle.step_turns.specs.declared.turn.Turn.{Turn}
use Rattle.step_turns.specs.declared.turn.Turn.TheVariants.{Opens, Follows, OpensOutside, FollowsOutside}
use Rattle.step_flags.specs.Edges.{seen_of}
use Rattle.step_flags.specs.declared.between.Seen.{Seen}
use Rattle.step_kinds.specs.Answers.{Outcome, refused_with}
use Rattle.step_kinds.specs.Changes.{Changed, changed}
use Rattle.step_kinds.specs.Finish.{finish_of}
use Rattle.step_kinds.specs.Plain.{opened_as, set_of, written_of, serviced_of, run_from, read_flags_of}
use Rattle.step_kinds.specs.declared.change.Way.{Way}
use Rattle.step_kinds.specs.declared.change.Way.TheVariants.{Plain, Observes, Takes}
use Rattle.step_event.specs.Clock.{observed_of}

-- "6, 5, 7 for observations". 7: "stamp more than 3,600,000 ms ahead"
unfoldable pub observe_of : State → Sample → Told Changed
observe_of s x = pick (nat_lt 3600000 (elapsed_of s.sample.stamp x.stamp)) (refused 7) (changed (observed_of s x) Observes)

-- what follows a power-on, on a model that holds what it may
unfoldable pub followed_of : State → Later → Told Changed
followed_of s (Set number value) = set_of s number value
followed_of s (Write address byte) = written_of s address byte
followed_of s TakeFlags = changed s Takes
followed_of s (Observe x) = observe_of s x
followed_of s Service = changed (serviced_of s) Plain
followed_of s Reset = changed (reset_of s) Plain
followed_of s (WriteRun address raw) = run_from s address (raw_of raw)
followed_of s (ReadFlags address) = read_flags_of s address

-- an event on a model that is on. 5: "a number outside kind 1, 3 or 5's ranges"; kind 3's is the registers' to say
unfoldable pub moved_of : State → Turn → Told Changed
moved_of s (Opens p) = opened_as p
moved_of s (Follows e) = followed_of s e
moved_of s OpensOutside = refused 5
moved_of s FollowsOutside = refused 5

-- 6: "any kind but a power-on's, before a power-on"
unfoldable pub first_of : Turn → Told Changed
first_of (Opens p) = opened_as p
first_of (Follows e) = refused 6
first_of OpensOutside = refused 5
first_of FollowsOutside = refused 6

-- "An event on a model with a field outside what it may hold is 5 before all else"
unfoldable pub change_of : Model → Turn → Told Changed
change_of Off t = first_of t
change_of (On s) t = pick (state_ok s) (moved_of s t) (refused 5)

-- what a model may hold; one that is off holds nothing
unfoldable pub model_ok : Model → Bool
model_ok Off = true
model_ok (On s) = state_ok s

-- what flags are edges of; of a model that is off nothing is seen, and the power-on that follows has flags of its own
abbrev pub nothing_seen : Seen
nothing_seen = record {
  good = false;
  iindpm = false;
  vindpm = false;
  thermal = false;
  expired = false;
  phase = 0;
  band = 0;
  inputover = false;
  shutdown = false;
  packover = false;
  limit = false;
}

unfoldable pub seen_on : Model → Seen
seen_on Off = nothing_seen
seen_on (On s) = seen_of s

-- a change settles and ends, however that is done; a refusal leaves the model
abbrev pub ended_by : (Seen → State → Way → Outcome) → Model → Told Changed → Outcome
ended_by finish m (accepted c) = finish (seen_on m) c.state c.way
ended_by finish m (refused number) = refused_with number m

abbrev pub closed_by : Model → Told Changed → Outcome
closed_by = ended_by finish_of

-- what a turn comes to, and so what an event does
unfoldable pub turned_by : Model → Turn → Outcome
turned_by m t = closed_by m (change_of m t)

unfoldable pub step_of : Model → Event → Outcome
step_of m e = turned_by m (turn_of e)
