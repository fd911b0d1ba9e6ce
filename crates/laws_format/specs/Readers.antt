-- What it is for a reader and a writer to keep the format: demand 2's "each event has one log spelling, read back as the same event, and every accepted spelling is written again byte for
-- byte where room allows".
use Rattle.std.specs.Prelude.{ℕ, ◌+◌, ◌≤◌, ◌<◌, ◌≡◌, List, ◌++◌, ◌↔◌, length, drop}
use Rattle.base.specs.Writing.{Wrote, wrote}
use Rattle.base.specs.Writing as writing
use Rattle.log_number.specs.Promises.{Bytes}
use Rattle.log_event.specs.Items.{Item, values}
use Rattle.log_event.specs.declared.Event.{Event}
use Rattle.log_record.specs.Records.{Met, met, refused, end}
use Rattle.laws_format.specs.Format.{Listed, Spells, AllSmall}
use Rattle.laws_format.specs.Unreadable.{LogRow}

-- a log and a place in it
abbrev pub Reader : Type 0
Reader = List ℕ → ℕ → Met

-- the bytes of a lent buffer; the answer, and the bytes after it
abbrev pub Writer : Type 0
Writer = Event → List ℕ → Wrote × List ℕ

-- a record of an event stands at a place of a log: the event's spelling, up to `next`
pub record SpelledAt (bytes : List ℕ) (at : ℕ) (e : Event) (next : ℕ) : Type 0 where
  pub spelling : List ℕ
  pub spells : Spells e spelling
  pub long : next ≡ at + length spelling
  pub start : drop at bytes ≡ spelling ++ drop next bytes

pub record Reads (read : Reader) : Type 0 where
  -- "read back as the same event": at every place of every log, whatever stands before and after
  pub back : (e : Event) (spelling : List ℕ) → Spells e spelling → (before rest : List ℕ)
      → read (before ++ (spelling ++ rest)) (length before) ≡ met e (length before + length spelling)
  -- what reads as an event is its spelling
  pub only : (bytes : List ℕ) → Bytes bytes → (at : ℕ) (e : Event) (next : ℕ) → read bytes at ≡ met e next → SpelledAt bytes at e next
  -- "No | Given exactly when", 1 to 5, and the place of each
  pub refuses : (bytes : List ℕ) → Bytes bytes → (at n place : ℕ) → (read bytes at ≡ refused n place) ↔ LogRow n bytes at place
  -- the end, exactly from the log's end on
  pub ends : (bytes : List ℕ) → Bytes bytes → (at : ℕ) → (read bytes at ≡ end) ↔ (length bytes ≤ at)

-- an event whose numbers have 32 bits, as a program's have
abbrev pub SmallNumbers : Event → Type 0
SmallNumbers e = (kind : ℕ) (is : List Item) → Listed e kind is → AllSmall (values is)

pub record Writes (write : Writer) : Type 0 where
  -- "written again byte for byte where room allows"; "bytes after it stay"
  pub written : (e : Event) (spelling : List ℕ) → Spells e spelling → (buffer : List ℕ) → length spelling ≤ length buffer
      → write e buffer ≡ (wrote (length spelling), spelling ++ drop (length spelling) buffer)
  -- 12: "record longer than the room left in the lent buffer"; "a refused write changes no byte"
  pub no_room : (e : Event) (spelling : List ℕ) → Spells e spelling → (buffer : List ℕ) → length buffer < length spelling
      → write e buffer ≡ (writing.refused 12 0, buffer)
  -- 02, R-3: "has no spelling: the writer gives 5", whatever the room, of every event whose numbers are those of a program's
  pub no-spelling : (e : Event) → SmallNumbers e → ((spelling : List ℕ) → ¬ Spells e spelling) → (buffer : List ℕ)
      → write e buffer ≡ (writing.refused 5 0, buffer)
