-- Which events a call on an image is given, by what it is lent: told by the log's format and the header, whatever the model makes of them.
use Rattle.std.specs.Prelude.{ℕ, ◌*◌, ◌≤◌, ◌<◌, ◌≡◌, List, [], ◌∷◌, ◌≢◌, length}
use Rattle.log_number.specs.Promises.{Bytes}
use Rattle.log_event.specs.Items.{Item, values}
use Rattle.log_event.specs.declared.Event.{Event}
use Rattle.c_words.specs.Words.{bytes_of}
use Rattle.laws_format.specs.Format.{Listed, NoKind, AllSmall}
use Rattle.laws_format.specs.Unreadable.{LogRow}
use Rattle.laws_format.specs.Readers.{SpelledAt}

-- CHEUKDANE_SHOWN: "Bytes of what an accepted event shows"
abbrev pub shown_bytes : ℕ
shown_bytes = 28

-- cheukdane_event: "One event outside a log: its kind, and the kind's numbers as words, just as many as it has."
pub data EventGives (kind : ℕ) (words : List ℕ) (room : ℕ) : List Event → Type 0 where
  given : (e : Event) (is : List Item) → Listed e kind is → AllSmall (values is) → words ≡ bytes_of (values is) → shown_bytes ≤ room → EventGives kind words room (e ∷ [])
  -- "an answer buffer that is too short is 12"
  no_room : room < shown_bytes → EventGives kind words room []
  -- "An unknown kind is 4;"
  no_kind : NoKind kind → EventGives kind words room []
  -- "words that aren't as many are 5."
  not-as-many : (e : Event) (is : List Item) → Listed e kind is → length words ≢ length (values is) * 4 → EventGives kind words room []

-- what is no record, its number and what is told of its place: "Unreadable: 1 to 5 and kind 0; `place` is of what decided it", "At the log's end or past it: number 0 and kind 0, and no
-- byte is changed."
pub data NoRecordAt (log : List ℕ) (place : ℕ) : ℕ → ℕ → Type 0 where
  unreadable : (n decided : ℕ) → LogRow n log place decided → NoRecordAt log place n decided
  at-end : length log ≤ place → NoRecordAt log place 0 place

-- cheukdane_play: "Plays the record at a place of a log."
pub data PlayGives (log : List ℕ) (place room : ℕ) : List Event → Type 0 where
  played : (e : Event) (next : ℕ) → SpelledAt log place e next → shown_bytes ≤ room → PlayGives log place room (e ∷ [])
  no-room-shown : room < shown_bytes → PlayGives log place room []
  no_record : (number told : ℕ) → NoRecordAt log place number told → PlayGives log place room []

-- how a replay ends: the code and its place, and "where to go on: the log's end, or where the record that can't be read starts"
pub record Ending : Type 0 where
  pub code : ℕ
  pub told : ℕ
  pub next : ℕ

-- cheukdane_replay: "Plays every record of a log from a place on, to the log's end or to one that can't be read"
pub data ReplayGives (log : List ℕ) : ℕ → List Event → Ending → Type 0 where
  stops : (place code told : ℕ) → NoRecordAt log place code told → ReplayGives log place [] (record { code = code; told = told; next = place })
  goes_on : (place : ℕ) (e : Event) (next : ℕ) (es : List Event) (ending : Ending) → SpelledAt log place e next → ReplayGives log next es ending → ReplayGives log place (e ∷ es) ending

-- bytes that are lent give one list of events, and one alone
abbrev pub OneList : (List Event → Type 0) → Type 0
OneList gives = (new : List Event) × (gives new × ((other : List Event) → gives other → other ≡ new))

pub record EveryInputGives : Type 0 where
  pub event : (kind : ℕ) (words : List ℕ) → Bytes words → (room : ℕ) → OneList (EventGives kind words room)
  pub play : (log : List ℕ) → Bytes log → (place room : ℕ) → OneList (PlayGives log place room)
  pub replay : (log : List ℕ) → Bytes log → (place : ℕ) → OneList (λ es. (ending : Ending) × ReplayGives log place es ending)
  -- and they end in one way alone
  pub ends : (log : List ℕ) → Bytes log → (place : ℕ) (es fs : List Event) (a b : Ending) → ReplayGives log place es a → ReplayGives log place fs b → a ≡ b
