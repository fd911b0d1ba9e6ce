-- The call that plays a log's records from a place on.
use Rattle.std.specs.Prelude.{ℕ, List}
use Rattle.base.specs.Told.{Told, accepted, refused}
use Rattle.state_parts.specs.declared.state.Model.{Model}
use Rattle.step_event.specs.Walks.{walk_from}
use Rattle.step_event.specs.Rests.{ended_of}
use Rattle.step_event.specs.declared.replaying.Ended.{Ended}
use Rattle.c_image.specs.Images.{image_of, model_in}
use Rattle.c_calls.specs.Landing.{Left, left}
use Rattle.c_calls.specs.declared.answer.Replayed.{Replayed}

-- "The image is the model after them"; "how many were read", "the log's end; with a code, the place of what decided it", "where to go on: the log's end, or where the
-- record that can't be read starts"
abbrev pub replayed_by : Ended → Left Replayed
replayed_by e = left (record { number = 0; code = e.code; records = e.walk.number; place = e.place; next = e.walk.place }) (image_of e.walk.model)

-- "bytes that aren't an image .. are 5 before all else"; "`place` and `next` are as given, as they are with a refusal"
abbrev pub replay_in : Told Model → List ℕ → List ℕ → ℕ → Left Replayed
replay_in (refused number) image log place = left (record { number = number; code = 0; records = 0; place = place; next = place }) image
replay_in (accepted m) image log place = replayed_by (ended_of log (walk_from m place))

-- "Plays every record of a log from a place on, to the log's end or to one that can't be read."
unfoldable pub replay_of : List ℕ → List ℕ → ℕ → Left Replayed
replay_of image log place = replay_in (model_in image) image log place
