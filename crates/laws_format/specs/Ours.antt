-- This product's reader and writer, by the definitions that the contracts of `log_record::read` and `log_record::write` cite. They keep the format, and no others do.
use Rattle.std.specs.Prelude.{ℕ, ◌≤◌, ◌≡◌, List, length}
use Rattle.log_number.specs.Promises.{Bytes}
use Rattle.log_event.specs.Kinds.{kinds}
use Rattle.log_event.specs.declared.Event.{Event}
use Rattle.log_record.specs.Records.{Met, met, refused, end, event_written, event_put, record_at}
use Rattle.laws_format.specs.Format.{Spells}
use Rattle.laws_format.specs.Unreadable.{LogRow}
use Rattle.laws_format.specs.Readers.{Reader, Writer, SpelledAt, Reads, SmallNumbers, Writes}

abbrev pub our_read : Reader
our_read = record_at kinds

abbrev pub our_write : Writer
our_write e buffer = (event_written e buffer, event_put e buffer)

-- this product keeps the format
abbrev pub OurReads : Type 0
OurReads = Reads our_read

abbrev pub OurWrites : Type 0
OurWrites = Writes our_write

-- whoever keeps the format reads as this product does, at every place of every byte string
abbrev pub OnlyReader : Type 0
OnlyReader = (read : Reader) → Reads read → (bytes : List ℕ) → Bytes bytes → (at : ℕ) → read bytes at ≡ our_read bytes at

-- and writes as this product does: every event that has a spelling, into every buffer
abbrev pub OnlyWriter : Type 0
OnlyWriter = (write : Writer) → Writes write → (e : Event) (spelling : List ℕ) → Spells e spelling → (buffer : List ℕ) → write e buffer ≡ our_write e buffer

-- every event without one too, of those whose numbers are a program's
abbrev pub OnlyRefuser : Type 0
OnlyRefuser = (write : Writer) → Writes write → (e : Event) → SmallNumbers e → ((spelling : List ℕ) → ¬ Spells e spelling) → (buffer : List ℕ) → write e buffer ≡ our_write e buffer

-- what the format says of a place of a log: an event's record, a refusal's row, or the end
pub data AnswerAt (bytes : List ℕ) (at : ℕ) : Met → Type 0 where
  event : (e : Event) (next : ℕ) → SpelledAt bytes at e next → AnswerAt bytes at (met e next)
  unreadable : (n place : ℕ) → LogRow n bytes at place → AnswerAt bytes at (refused n place)
  over : length bytes ≤ at → AnswerAt bytes at end

-- at every place of every byte string it says one thing
pub record OneAnswerAt : Type 0 where
  pub some : (bytes : List ℕ) → Bytes bytes → (at : ℕ) → (x : Met) × AnswerAt bytes at x
  pub one : (bytes : List ℕ) → Bytes bytes → (at : ℕ) (x y : Met) → AnswerAt bytes at x → AnswerAt bytes at y → x ≡ y
