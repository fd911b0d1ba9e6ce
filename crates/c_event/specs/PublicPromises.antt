-- What `event_of` promises, and that it allows one outcome.
use Rattle.std.specs.Prelude.{ℕ, ◌≡◌, List, Result}
use Rattle.base.specs.Outcomes.{One}
use Rattle.base.specs.declared.refusal.Refusal.{Refusal}
use Rattle.log_event.specs.declared.Event.{Event}
use Rattle.c_event.specs.Given.{given_told, given_of}

abbrev pub EventOfPromise : ℕ → List ℕ → Result Event Refusal → Type 0
EventOfPromise kind words r = given_told r ≡ given_of kind words

-- "equal inputs allow one outcome"
pub record OneOutcome : Type 0 where
  pub event-of : (kind : ℕ) (words : List ℕ) → One (EventOfPromise kind words)
