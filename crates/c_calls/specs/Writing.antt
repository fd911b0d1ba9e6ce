-- The call that writes an event's record.
use Rattle.std.specs.Prelude.{ℕ, List, Result}
use Rattle.base.specs.Told.{Told, accepted, refused}
use Rattle.base.specs.Writing.{Wrote, wrote}
use Rattle.base.specs.declared.refusal.Refusal.{Refusal}
use Rattle.base.specs.Writing as writing
use Rattle.log_event.specs.declared.Event.{Event}
use Rattle.log_record.specs.Records.{event_written, event_put}
use Rattle.c_event.specs.Given.{given_of}
use Rattle.c_calls.specs.Landing.{Left, left, number_told, value_told}
use Rattle.c_calls.specs.declared.answer.Put.{Put}

-- "bytes of the record"
abbrev pub put_told : Wrote → Put
put_told (wrote count) = record { number = 0; count = count; place = 0 }
put_told (writing.refused number place) = record { number = number; count = 0; place = place }

-- a count of bytes, or a refusal
abbrev pub counted : Result ℕ Refusal → Put
counted got = record { number = number_told got; count = value_told got; place = 0 }

-- "Writes an event's record at the start of `out`; 12 if it doesn't fit. Kind and words as for cheukdane_event; the model isn't asked."
abbrev pub write_given : Told Event → List ℕ → Left Put
write_given (refused number) out = left (record { number = number; count = 0; place = 0 }) out
write_given (accepted e) out = left (put_told (event_written e out)) (event_put e out)

unfoldable pub write_call_of : ℕ → List ℕ → List ℕ → Left Put
write_call_of kind words out = write_given (given_of kind words) out
