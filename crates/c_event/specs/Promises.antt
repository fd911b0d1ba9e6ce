-- What is promised of a given event: the types of the theorems that proofs/ proves.
use Rattle.std.specs.Prelude.{◌≡◌}
use Rattle.base.specs.Told.{accepted}
use Rattle.log_event.specs.Kinds.{kind_byte}
use Rattle.log_event.specs.Events.{kind_of, items_of}
use Rattle.log_event.specs.Items.{AllFit, values}
use Rattle.log_event.specs.declared.Event.{Event}
use Rattle.c_words.specs.Words.{bytes_of}
use Rattle.c_event.specs.Given.{given_of}

-- every event is given by its kind and its numbers' words
abbrev pub EveryGiven : Type 0
EveryGiven = (e : Event) → AllFit (items_of e) → given_of (kind_byte (kind_of e)) (bytes_of (values (items_of e))) ≡ accepted e
