-- Demand 2 of a head: each call on an image answers and leaves what the account of the events that the calls were given says, in the header's words.
use Rattle.std.specs.Prelude.{ℕ, ◌%◌, ◌^◌, ◌≤◌, ◌≡◌, List, [], ◌∷◌, ◌++◌, length}
use Rattle.base.specs.Volts.{millivolts_of}
use Rattle.base.specs.Writing.{put}
use Rattle.state_parts.specs.Numbers.{phase_number}
use Rattle.log_number.specs.Promises.{Bytes}
use Rattle.log_event.specs.declared.Event.{Event}
use Rattle.report_state.specs.Stats.{stat_number}
use Rattle.c_words.specs.Words.{bytes_of}
use Rattle.c_image.specs.Images.{image_of}
use Rattle.c_calls.specs.Landing.{left, both, answered, land_of}
use Rattle.c_calls.specs.Playing.{unread, played_of, event_answered}
use Rattle.c_calls.specs.Showing.{byte_told}
use Rattle.c_calls.specs.Promises.{Calls}
use Rattle.c_calls.specs.declared.answer.Replayed.{Replayed}
use Rattle.laws_account.specs.History.{Run}
use Rattle.laws_account.specs.Cycles.{phase_at}
use Rattle.laws_account.specs.Reported.{report_at}
use Rattle.laws_account.specs.Looked.{stat_at, register_at}
use Rattle.laws_account.specs.Refused.{none, some, past_of}
use Rattle.laws_account.specs.States.{flags_at, model_of, outcome_of}
use Rattle.laws_format.specs.Readers.{SpelledAt}
use Rattle.laws_heads.specs.Given.{shown_bytes, EventGives, NoRecordAt, Ending, ReplayGives}
use Rattle.laws_heads.specs.Moved.{Moved}
use Rattle.laws_heads.specs.Third.{report_bytes}

-- "phase, current, voltage, input limit, held flags, and STAT", of a run
abbrev pub reported_at : Run → List ℕ
reported_at r =
    let q = report_at r in
    phase_number q.phase ∷ q.current ∷ millivolts_of q.voltage ∷ q.limit ∷ flags_at phase_at r ∷ stat_number (stat_at r) ∷ []

-- what a replay answers of so many records that end so
abbrev pub replayed_with : ℕ → Ending → Replayed
replayed_with count ending = record { number = 0; code = ending.code; records = count % 2 ^ 32; place = ending.told; next = ending.next }

pub record SecondOfImages (calls : Calls) : Type 0 where
  -- one event: the account's outcome, number, model, pulse and flags handed back; "A refusal leaves every lent byte as it was."
  pub event : (es : List Event) (image : List ℕ) → Moved calls es image → (kind : ℕ) (words shown : List ℕ) (e : Event) → EventGives kind words (length shown) (e ∷ [])
      → calls.event image kind words shown ≡ event_answered (land_of (outcome_of (past_of none es) e) image shown)
  -- a record of a log: the same, with its kind, its place and where the next one starts
  pub play : (es : List Event) (image : List ℕ) → Moved calls es image → (log : List ℕ) (place : ℕ) (shown : List ℕ) (e : Event) (next : ℕ) → SpelledAt log place e next → shown_bytes ≤ length shown
      → calls.play image log place shown ≡ played_of e place next (land_of (outcome_of (past_of none es) e) image shown)
  -- what can't be read, or the log's end: its number and what is told of its place, and `next` is the given place; no byte is changed
  pub nothing_read : (es : List Event) (image : List ℕ) → Moved calls es image → (log : List ℕ) → Bytes log → (place number told : ℕ) (shown : List ℕ) → NoRecordAt log place number told
      → shown_bytes ≤ length shown → calls.play image log place shown ≡ both (unread number told place) image shown
  -- a log's records from a place on: "The image is the model after them", how many they are, "the count has 32 bits and wraps", and how they end
  pub replay : (es : List Event) (image : List ℕ) → Moved calls es image → (log : List ℕ) → Bytes log → (place : ℕ) (new : List Event) (ending : Ending) → ReplayGives log place new ending
      → calls.replay image log place ≡ left (replayed_with (length new) ending) (image_of (model_of (past_of none (es ++ new))))
  -- "The report, the flags and STAT of the model as it stands;"
  pub report : (es : List Event) (image : List ℕ) → Moved calls es image → (r : Run) → past_of none es ≡ some r → (part : List ℕ) → report_bytes ≤ length part
      → calls.report image part ≡ left (answered 0) (put (bytes_of (reported_at r)) part)
  -- "A register's byte; 6 before a power-on. Any address answers: 0xFF outside the map."
  pub register : (es : List Event) (image : List ℕ) → Moved calls es image → (address : ℕ)
      → calls.register image address ≡ byte_told (register_at (past_of none es) address)
