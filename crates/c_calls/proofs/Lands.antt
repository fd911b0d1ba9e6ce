-- What a call on an image begins with, and what the events come to that it plays, over plain values.
use Prim.Native.Nat.{ℕ}
use mathlib.Core.Path.{◌≡◌, refl}
use mathlib.Core.List.{List, []}
use native.Mathlib.Omega.{arith}
use lib.ListN.{length}
use Rattle.base.specs.Told.{Told, accepted, refused}
use Rattle.state_parts.specs.declared.state.Model.{Model}
use Rattle.log_event.specs.declared.Event.{Event}
use Rattle.log_record.specs.Records.{met}
use Rattle.step_event.specs.Steps.{step_of}
use Rattle.step_event.specs.Walks.{came_told, met_by, walk_from}
use Rattle.step_event.specs.Rests.{played_by}
use Rattle.step_event.specs.declared.replaying.Ended.{Ended}
use Rattle.step_event.proofs.Playing.{played-alone}
use Rattle.c_image.specs.Images.{image_length, model_in}
use Rattle.c_image.proofs.ImageLaws.{loaded-long}
use Rattle.c_calls.specs.Landing.{with_room, ready_of, land_of}

-- an image that a call starts with has its length
pub ready_long : (image : List ℕ) (room wanted : ℕ) (m : Model) → accepted m ≡ ready_of image room wanted → length image ≡ image_length
unfolding ready_of
ready_long image room wanted m e = go (model_in image) refl e
  where
    go : (x : Told Model) → model_in image ≡ x → accepted m ≡ with_room x room wanted → length image ≡ image_length
    go (accepted n) ex e = loaded-long image n ex
    go (refused n) ex e = absurd (let z : ◌≡◌ {A = ℕ} 0 1 = cc in omega arith)

-- an event that is played alone lands as its step
pub lands_alone : (m : Model) (e : Event) (next : ℕ) (ended : Ended) (image shown : List ℕ) → ended ≡ played_by [] (walk_from m 0) (met e next)
    → land_of (came_told ended.walk) image shown ≡ land_of (step_of m e) image shown
unfolding land_of met_by
lands_alone m e next ended image shown ee = rw (ee, played-alone (walk_from m 0) e next)
