-- The header: "One event outside a log: its kind, and the kind's numbers as words, just as many as it has."
use Rattle.std.specs.Prelude.{ℕ, ◌*◌, List, length, eqb, Result, Ok, Err}
use Rattle.std.proofs.Math.Option.{Option, none, some}
use Rattle.base.specs.Pick.{pick}
use Rattle.base.specs.Refusals.{refusal_number}
use Rattle.base.specs.declared.refusal.Refusal.{Refusal}
use Rattle.base.specs.Told.{Told, accepted, refused}
use Rattle.log_event.specs.Items.{spans}
use Rattle.log_event.specs.Kinds.{KindRow, kinds, row_for}
use Rattle.log_event.specs.Events.{event_of}
use Rattle.log_event.specs.declared.Event.{Event}
use Rattle.c_words.specs.Words.{words_in}

abbrev pub given_told : Result Event Refusal → Told Event
given_told (Ok e) = accepted e
given_told (Err r) = refused (refusal_number r)

-- "An unknown kind is 4; words that aren't as many are 5."
abbrev pub given_row : Option KindRow → List ℕ → Told Event
given_row none bytes = refused 4
given_row (some r) bytes =
    let count = spans r.shapes in
    pick (eqb (length bytes) (count * 4)) (accepted (event_of r.kind (words_in count bytes))) (refused 5)

unfoldable pub given_of : ℕ → List ℕ → Told Event
given_of kind bytes = given_row (row_for kinds kind) bytes
