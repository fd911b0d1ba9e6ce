-- What an event does to a model: it opens a run with a profile, or it follows. A kind that says a known thing in another way is a clause here, and no definition above has a word of it.
use Rattle.std.specs.Prelude.{ℕ}
use Rattle.base.specs.Pick.{pick}
use Rattle.log_event.specs.declared.Event.{Event}
use Rattle.log_event.specs.declared.Event.TheVariants as event
use Rattle.log_event.specs.declared.spelled.SpelledProfile.{SpelledProfile}
use Rattle.log_event.specs.declared.spelled.SpelledSample.{SpelledSample}
use Rattle.state_parts.specs.declared.profile.Profile.{Profile}
use Rattle.state_parts.specs.declared.sample.Sample.{Sample}
use Rattle.step_turns.specs.Ranges.{edition_in_range, two_in_range, resistors_in_range}
use Rattle.step_turns.specs.Coded.{coded_of}
use Rattle.step_turns.specs.declared.later.Later.TheVariants.{Set, Write, TakeFlags, Observe, Service, Reset, WriteRun, ReadFlags}
use Rattle.step_turns.specs.declared.turn.Turn.{Turn}
use Rattle.step_turns.specs.declared.turn.Turn.TheVariants.{Opens, Follows, OpensOutside, FollowsOutside}

-- what is held of a power-on, with the edition of the pack's sheet
abbrev pub held_profile : SpelledProfile → ℕ → Profile
held_profile p edition = record {
  cell = p.cell;
  vchg = p.vchg;
  ichg = p.ichg;
  ohms = p.ohms;
  stamp = p.stamp;
  ceiling = p.ceiling;
  trickle = p.trickle;
  precharge = p.precharge;
  fast = p.fast;
  watchdog = p.watchdog;
  edition = edition;
}

-- what is held of an observation, with the second thermistor's value
abbrev pub held_sample : SpelledSample → ℕ → Sample
held_sample x second = record { stamp = x.stamp; input = x.input; pack = x.pack; ibat = x.ibat; ts = x.ts; secondts = second; bits = x.bits }

-- a power-on with these numbers
abbrev pub opens_with : SpelledProfile → ℕ → Turn
opens_with p edition = pick (edition_in_range p edition) (Opens (held_profile p edition)) OpensOutside

-- 02, R-8: "Kinds 1 and 9 mean the first"
abbrev pub first_edition : ℕ
first_edition = 1

-- 02, R-7: "kind 5 stands for two equal ones"
abbrev pub second_of_one : SpelledSample → ℕ
second_of_one x = x.ts

-- an observation with these numbers
abbrev pub observes_with : SpelledSample → ℕ → Turn
observes_with x second = pick (two_in_range x second) (Follows (Observe (held_sample x second))) FollowsOutside

-- "1 power-on", "2 set", "3 write", "4 take flags", "5 observe", "6 service watchdog", "7 register reset"
unfoldable pub turn_of : Event → Turn
turn_of (event.PowerOn p) = opens_with p first_edition
turn_of (event.Set number value) = Follows (Set number value)
turn_of (event.Write address byte) = Follows (Write address byte)
turn_of event.TakeFlags = Follows TakeFlags
turn_of (event.Observe x) = observes_with x (second_of_one x)
turn_of event.Service = Follows Service
turn_of event.Reset = Follows Reset
-- 02, R-5: "Power-on gets a second event, kind 9 .. From there it acts as kind 1 with those codes"
turn_of (event.PowerOnResistors r) = pick (resistors_in_range r) (opens_with (coded_of r) first_edition) OpensOutside
-- 02, R-7: "Kind 10 is kind 5 with the second value right after the first"
turn_of (event.ObserveTwo t) = observes_with t.sample t.second
-- 02, R-8: "kind 11 is kind 1 with an edition number"
turn_of (event.PowerOnEdition v) = opens_with v.profile v.edition
-- 02, R-3: "Write runs are kind 8"; a read of a flag register "is an event, kind 14 with the address"
turn_of (event.WriteRun address raw) = Follows (WriteRun address raw)
turn_of (event.ReadFlags address) = Follows (ReadFlags address)
