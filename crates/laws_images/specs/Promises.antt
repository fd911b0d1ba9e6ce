-- The header: "a head holds the model as an image". Every model that a call leaves in an image loads again: the types of the theorems that proofs/ proves.
use Rattle.std.specs.Prelude.{ℕ, ◌^◌, ◌<◌, ◌≡◌, true, List, ltb, length}
use Rattle.base.specs.Pick.{pick}
use Rattle.base.specs.Told.{Told, accepted, refused}
use Rattle.log_number.specs.Promises.{Bytes}
use Rattle.state_parts.specs.declared.state.State.{State}
use Rattle.state_parts.specs.declared.state.Model.{Model}
use Rattle.state_parts.specs.declared.state.Model.TheVariants.{Off, On}
use Rattle.log_event.specs.Kinds.{kinds}
use Rattle.log_event.specs.Items.{AllFit}
use Rattle.log_event.specs.Events.{items_of}
use Rattle.log_event.specs.declared.Event.{Event}
use Rattle.log_record.specs.Records.{Met, met, end, record_at}
use Rattle.log_record.specs.Records as log
use Rattle.state_valid.specs.Holds.{state_ok}
use Rattle.step_event.specs.Steps.{step_of}
use Rattle.step_event.specs.Pages.{page_of, rest_of}
use Rattle.step_event.specs.declared.walking.Walk.{Walk}
use Rattle.c_image.specs.Images.{model_in, is_long}
use Rattle.c_image.specs.Promises.{Storable}
use Rattle.c_event.specs.Given.{given_of}
use Rattle.c_calls.specs.Playing.{off_of, play_of, event_call_of}
use Rattle.step_event.specs.Walks.{walk_from}
use Rattle.c_calls.specs.Replaying.{replay_of}

-- both held stamps have 32 bits: "a counter that runs free and wraps at 2^32"
abbrev pub Stamped : State → Type 0
Stamped s = (s.profile.stamp < 2 ^ 32) × (s.sample.stamp < 2 ^ 32)

-- what a state may hold bounds every other number of it
abbrev pub ValidStorable : Type 0
ValidStorable = (s : State) → state_ok s ≡ true → Stamped s → Storable (On s)

-- every event, accepted or refused, leaves a model that can be stored one that can
abbrev pub StepStorable : Type 0
StepStorable = (m : Model) (e : Event) → Storable m → AllFit (items_of e) → Storable (step_of m e).model

-- and so do the records of a log, at most so many from a walk on
abbrev pub PageStorable : Type 0
PageStorable = (most : ℕ) (bytes : List ℕ) → Bytes bytes → (w : Walk) → Storable w.model → Storable (page_of most bytes w).last.model

-- only such a model loads
abbrev pub LoadedStorable : Type 0
LoadedStorable = (image : List ℕ) (m : Model) → model_in image ≡ accepted m → Storable m

-- the model after a record was read, and after an event was given
abbrev pub after_read : Model → Met → Model
after_read m (met e next) = (step_of m e).model
after_read m (log.refused number place) = m
after_read m end = m

abbrev pub after_given : Model → Told Event → Model
after_given m (accepted e) = (step_of m e).model
after_given m (refused number) = m

-- "an answer buffer that is too short is 12", and "A refusal leaves every lent byte as it was."
abbrev pub where_room : List ℕ → Model → Model → Model
where_room shown m after = pick (ltb (length shown) 28) m after

-- "Accepted: the image is the model after it": an image loads after each call as that model, whatever log, place, kind and words were lent
pub record KeepsImage : Type 0 where
  pub off : (image : List ℕ) → is_long image ≡ true → model_in (off_of image).bytes ≡ accepted Off
  pub play : (image : List ℕ) (m : Model) → model_in image ≡ accepted m → (bytes : List ℕ) → Bytes bytes → (place : ℕ) (shown : List ℕ)
      → model_in (play_of image bytes place shown).image ≡ accepted (where_room shown m (after_read m (record_at kinds bytes place)))
  pub event : (image : List ℕ) (m : Model) → model_in image ≡ accepted m → (kind : ℕ) (words : List ℕ) → Bytes words → (shown : List ℕ)
      → model_in (event_call_of image kind words shown).image ≡ accepted (where_room shown m (after_given m (given_of kind words)))
  pub replay : (image : List ℕ) (m : Model) → model_in image ≡ accepted m → (bytes : List ℕ) → Bytes bytes → (place : ℕ)
      → model_in (replay_of image bytes place).bytes ≡ accepted (rest_of bytes (walk_from m place)).last.model
