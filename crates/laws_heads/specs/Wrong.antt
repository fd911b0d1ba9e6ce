-- Wrong calls, each any calls with one changed, and that each breaks what is asked, whatever the other calls are.
use Rattle.std.specs.Prelude.{suc, List, [], ◌∷◌, eqb, length}
use Rattle.base.specs.Pick.{pick}
use Rattle.log_event.specs.declared.Event.{Event}
use Rattle.log_record.specs.Logs.{spell_log}
use Rattle.step_event.specs.Wholes.{events_of}
use Rattle.c_image.specs.Images.{zeros}
use Rattle.c_calls.specs.Landing.{Left, left, Both, both}
use Rattle.c_calls.specs.Playing.{event_call_of}
use Rattle.c_calls.specs.Promises.{Calls, our_calls, RefusalLeaves}
use Rattle.c_calls.specs.declared.answer.Answer.{Answer}
use Rattle.c_calls.specs.declared.answer.Replayed.{Replayed}
use Rattle.laws_heads.specs.Third.{ThirdOfImages}
use Rattle.laws_heads.specs.Growing.{CatchesUp}

-- a replay that throws the last record away
abbrev pub but_last : List Event → List Event
but_last [] = []
but_last (e ∷ []) = []
but_last (e ∷ (f ∷ es)) = e ∷ but_last (f ∷ es)

abbrev pub replays_but_last : Calls → Calls
replays_but_last calls = record {
  off = calls.off;
  play = calls.play;
  replay = λ image log place. calls.replay image (spell_log (but_last (events_of (suc (length log)) log place))) 0;
  event = calls.event;
  report = calls.report;
  register = calls.register;
  write = calls.write;
  compare = calls.compare;
}

-- a play that shows what comes of the record and doesn't store it
abbrev pub plays_unstored : Calls → Calls
plays_unstored calls = record {
  off = calls.off;
  play = λ image log place shown. let l = calls.play image log place shown in both l.answer image l.shown;
  replay = calls.replay;
  event = calls.event;
  report = calls.report;
  register = calls.register;
  write = calls.write;
  compare = calls.compare;
}

-- an event that zeroes the answer buffer where it is refused
abbrev pub zeroed : Both Answer → Both Answer
zeroed l = pick (eqb l.answer.number 0) l (both l.answer l.image (zeros (length l.shown)))

abbrev pub zeroes_when_refused : Calls → Calls
zeroes_when_refused calls = record {
  off = calls.off;
  play = calls.play;
  replay = calls.replay;
  event = λ image kind words shown. zeroed (event_call_of image kind words shown);
  report = calls.report;
  register = calls.register;
  write = calls.write;
  compare = calls.compare;
}

-- a replay whose `next` is the place of what decided that a record can't be read, and not the record's start; all else is this product's
abbrev pub next_at_place : Left Replayed → Left Replayed
next_at_place l =
    let a = l.answer in
    left (record { number = a.number; code = a.code; records = a.records; place = a.place; next = a.place }) l.bytes

abbrev pub goes_on_at_byte : Calls
goes_on_at_byte = record {
  off = our_calls.off;
  play = our_calls.play;
  replay = λ image log place. next_at_place (our_calls.replay image log place);
  event = our_calls.event;
  report = our_calls.report;
  register = our_calls.register;
  write = our_calls.write;
  compare = our_calls.compare;
}

pub record HeadsRefuted : Type 0 where
  pub last_record : (calls : Calls) → ¬ ThirdOfImages (replays_but_last calls)
  pub not_stored : (calls : Calls) → ¬ ThirdOfImages (plays_unstored calls)
  pub at_the_byte : ¬ CatchesUp goes_on_at_byte
  pub spilled : (calls : Calls) → ¬ RefusalLeaves (zeroes_when_refused calls)
