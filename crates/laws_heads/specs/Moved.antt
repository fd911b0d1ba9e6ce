-- How a head's image comes about.
use Rattle.std.specs.Prelude.{ℕ, ◌≡◌, List, [], ◌++◌, length}
use Rattle.log_number.specs.Promises.{Bytes}
use Rattle.log_event.specs.declared.Event.{Event}
use Rattle.c_image.specs.Images.{image_length}
use Rattle.c_calls.specs.Promises.{Calls}
use Rattle.laws_heads.specs.Given.{EventGives, PlayGives, Ending, ReplayGives}

-- calls led to this image, each lent the one that the call before it left, and they were given these events, in order: those that the model refused too, as in a log
pub data Moved (calls : Calls) : List Event → List ℕ → Type 0 where
  -- "Makes the image of a model before its power-on."
  off : (part : List ℕ) → length part ≡ image_length → Moved calls [] (calls.off part).bytes
  event : (es : List Event) (image : List ℕ) → Moved calls es image → (kind : ℕ) (words : List ℕ) → Bytes words → (shown : List ℕ) (new : List Event)
      → EventGives kind words (length shown) new → Moved calls (es ++ new) (calls.event image kind words shown).image
  play : (es : List Event) (image : List ℕ) → Moved calls es image → (log : List ℕ) → Bytes log → (place : ℕ) (shown : List ℕ) (new : List Event)
      → PlayGives log place (length shown) new → Moved calls (es ++ new) (calls.play image log place shown).image
  replay : (es : List Event) (image : List ℕ) → Moved calls es image → (log : List ℕ) → Bytes log → (place : ℕ) (new : List Event) (ending : Ending) → ReplayGives log place new ending
      → Moved calls (es ++ new) (calls.replay image log place).bytes
