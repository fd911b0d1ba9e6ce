-- The calls that move the model of an image.
use Rattle.std.specs.Prelude.{ℕ, List, length}
use Rattle.base.specs.Pick.{pick}
use Rattle.base.specs.Told.{Told, accepted, refused}
use Rattle.state_parts.specs.declared.state.Model.{Model}
use Rattle.state_parts.specs.declared.state.Model.TheVariants.{Off}
use Rattle.log_event.specs.Kinds.{kind_byte, kinds}
use Rattle.log_event.specs.Events.{kind_of}
use Rattle.log_event.specs.declared.Event.{Event}
use Rattle.log_record.specs.Records.{Met, met, end, record_at}
use Rattle.log_record.specs.Records as log
use Rattle.step_event.specs.Steps.{step_of}
use Rattle.c_image.specs.Images.{image_of, is_long}
use Rattle.c_event.specs.Given.{given_of}
use Rattle.c_calls.specs.Landing.{Left, left, Both, both, answered, ready_of, land_of}
use Rattle.c_calls.specs.declared.answer.Answer.{Answer}
use Rattle.c_calls.specs.declared.answer.Played.{Played}

-- "Makes the image of a model before its power-on. 5 if `image` is of another length."
unfoldable pub off_of : List ℕ → Left Answer
off_of image = pick (is_long image) (left (answered 0) (image_of Off)) (left (answered 5) image)

-- "of the record that was read; 0 if none was", "where the next record starts; the given place if none was read"
abbrev pub unread : ℕ → ℕ → ℕ → Played
unread number told place = record { number = number; kind = 0; place = told; next = place }

-- "Unreadable: 1 to 5 and kind 0; `place` is of what decided it, and `next` the given place. At the log's end or past it: number 0 and kind 0, and no byte is changed."
abbrev pub stopped_of : Met → ℕ → Played
stopped_of (met e next) place = unread 0 place place
stopped_of (log.refused number decided) place = unread number decided place
stopped_of end place = unread 0 place place

-- "Refused by the model: 5 to 11 or 15, with the kind, and `next` leads on to the next record."
abbrev pub played_of : Event → ℕ → ℕ → Both ℕ → Both Played
played_of e place next l = both (record { number = l.answer; kind = kind_byte (kind_of e); place = place; next = next }) l.image l.shown

abbrev pub play_read : Model → Met → List ℕ → ℕ → List ℕ → Both Played
play_read m (met e next) image place shown = played_of e place next (land_of (step_of m e) image shown)
play_read m (log.refused number decided) image place shown = both (stopped_of (log.refused number decided) place) image shown
play_read m end image place shown = both (stopped_of end place) image shown

abbrev pub play_ready : Told Model → Met → List ℕ → ℕ → List ℕ → Both Played
play_ready (refused number) r image place shown = both (unread number place place) image shown
play_ready (accepted m) r image place shown = play_read m r image place shown

-- "Plays the record at a place of a log."
unfoldable pub play_of : List ℕ → List ℕ → ℕ → List ℕ → Both Played
play_of image bytes place shown = play_ready (ready_of image (length shown) 28) (record_at kinds bytes place) image place shown

-- "One event outside a log"
abbrev pub event_given : Model → Told Event → List ℕ → List ℕ → Both ℕ
event_given m (refused number) image shown = both number image shown
event_given m (accepted e) image shown = land_of (step_of m e) image shown

abbrev pub event_ready : Told Model → Told Event → List ℕ → List ℕ → Both ℕ
event_ready (refused number) e image shown = both number image shown
event_ready (accepted m) e image shown = event_given m e image shown

abbrev pub event_answered : Both ℕ → Both Answer
event_answered l = both (answered l.answer) l.image l.shown

unfoldable pub event_call_of : List ℕ → ℕ → List ℕ → List ℕ → Both Answer
event_call_of image kind words shown = event_answered (event_ready (ready_of image (length shown) 28) (given_of kind words) image shown)
