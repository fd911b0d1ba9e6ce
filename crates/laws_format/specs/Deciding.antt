-- 02, R-4: "the offset of the byte that decided it": what it is for a place of a log to have decided its refusal, told by the refusals' numbers alone; and that the places which a reader
-- that keeps the format tells are those.
use Rattle.std.specs.Prelude.{ℕ, suc, ◌+◌, ◌-◌, ◌≤◌, ◌<◌, ◌≡◌, List, ◌∷◌, ◌++◌, ◌↔◌, ◌≢◌, length, take, drop, get_or}
use Rattle.base.specs.Found.{Found, found}
use Rattle.base.specs.Found as reading
use Rattle.log_number.specs.Number.{read_number}
use Rattle.log_number.specs.Promises.{Bytes}
use Rattle.log_raw.specs.Raw.{Raw}
use Rattle.log_event.specs.Items.{Item, raw}
use Rattle.log_event.specs.declared.Event.{Event}
use Rattle.log_record.specs.Records.{Met, met, refused, end}
use Rattle.laws_format.specs.Format.{Groups, Stand, Listed}
use Rattle.laws_format.specs.Readers.{Reader, Reads}
use Rattle.laws_format.specs.Ours.{our_read}

-- the place of a log that decided its number, whatever gives the logs their numbers
pub data Decided (number : List ℕ → ℕ) (log : List ℕ) (place : ℕ) : Type 0 where
  -- a byte: every log that starts with the bytes up to and including it has the number, and the log cut off before it has another
  by_byte : place < length log → ((rest : List ℕ) → Bytes rest → number (take (suc place) log ++ rest) ≡ number log) → number (take place log) ≢ number log
      → Decided number log place
  -- the log's end: some longer log that starts with all of it has another
  by_end : place ≡ length log → (more : List ℕ) → Bytes more → number (log ++ more) ≢ number log → Decided number log place

-- no two places of a log did
abbrev pub OneDecided : Type 0
OneDecided = (number : List ℕ → ℕ) (log : List ℕ) → Bytes log → (p q : ℕ) → Decided number log p → Decided number log q → p ≡ q

-- the number reader tells that place, of every byte string: 0 stands for a number that can be read
abbrev pub number_refused : Found ℕ → ℕ
number_refused (found n next) = 0
number_refused (reading.refused n place) = n

abbrev pub NumberDecides : Type 0
NumberDecides = (bytes : List ℕ) → Bytes bytes → (n place : ℕ) → read_number bytes ≡ reading.refused n place → Decided (λ s. number_refused (read_number s)) bytes place

-- the number that a reader of records refuses with; 0 for a record and for the log's end
abbrev pub refused_with : Met → ℕ
refused_with (met e next) = 0
refused_with (refused n place) = n
refused_with end = 0

abbrev pub number_by : Reader → ℕ → List ℕ → ℕ
number_by read at log = refused_with (read log at)

-- a number of the record at a place starts there, or raw bytes' length: some event of the record's kind has first what stands between, and then this
pub record NumberStarts (log : List ℕ) (at start : ℕ) : Type 0 where
  pub event : Event
  pub kind : ℕ
  pub early : List Item
  pub next : Item
  pub later : List Item
  pub listed : Listed event kind (early ++ (next ∷ later))
  pub bytes : List ℕ
  pub spelled : Stand early bytes
  pub stands : drop at log ≡ kind ∷ (bytes ++ drop start log)
  pub counts : start ≡ at + suc (length bytes)

-- 5 tells the first byte of a length, and the length's last group decides it
pub record LengthDecides (read : Reader) (log : List ℕ) (at place : ℕ) : Type 0 where
  pub starts : NumberStarts log at place
  pub held : Raw
  pub is-raw : starts.next ≡ raw held
  pub value : ℕ
  pub groups : List ℕ
  pub spelled : Groups value groups
  pub last : ℕ
  pub behind : suc last ≡ place + length groups
  pub stands : take (length groups) (drop place log) ≡ groups
  -- every log that starts with the bytes up to and including it is refused with 5 at that place
  pub same : (rest : List ℕ) → Bytes rest → read (take (suc last) log ++ rest) at ≡ refused 5 place
  -- and without it 1 is, at the log's end, so that it decided the number
  pub cut : read (take last log) at ≡ refused 1 last
  pub decided : Decided (number_by read at) log last

-- what a longer log comes to: a record that ends with it; or, if the shorter ended inside a length, 5 at that length
pub data GoesOn (read : Reader) (log more : List ℕ) (at : ℕ) : Type 0 where
  to-a-record : (e : Event) → read (log ++ more) at ≡ met e (length (log ++ more)) → GoesOn read log more at
  to-a-length : (place : ℕ) → place < length log → read (log ++ more) at ≡ refused 5 place → GoesOn read log more at

-- of every byte string, at every place of it, what is refused there
pub record PlacesDecide (read : Reader) : Type 0 where
  -- the place that is told decided the number, but for 5
  pub decided : (log : List ℕ) → Bytes log → (at n place : ℕ) → read log at ≡ refused n place → n ≢ 5 → Decided (number_by read at) log place
  -- it is the log's length exactly for 1
  pub ends : (log : List ℕ) → Bytes log → (at n place : ℕ) → read log at ≡ refused n place → (n ≡ 1) ↔ (place ≡ length log)
  -- for 1 some longer log that starts with it has a record there, to its end; but a length of more than one group is none of 1-32, and its log goes on to 5
  pub goes_on : (log : List ℕ) → Bytes log → (at place : ℕ) → read log at ≡ refused 1 place → (more : List ℕ) × Bytes more × GoesOn read log more at
  -- for 2 it is a zero byte whose predecessor has the high bit
  pub zero : (log : List ℕ) → Bytes log → (at place : ℕ) → read log at ≡ refused 2 place → (get_or log place 1 ≡ 0) × (128 ≤ get_or log (place - 1) 0)
  -- for 3 the fifth byte of a number, or of a length, that starts in this record
  pub fifth : (log : List ℕ) → Bytes log → (at place : ℕ) → read log at ≡ refused 3 place → (start : ℕ) × NumberStarts log at start × (place ≡ start + 4)
  -- for 4 the record's start
  pub start : (log : List ℕ) → Bytes log → (at place : ℕ) → read log at ≡ refused 4 place → place ≡ at
  -- for 5 the first byte of a length, whose last group decided it
  pub first : (log : List ℕ) → Bytes log → (at place : ℕ) → read log at ≡ refused 5 place → LengthDecides read log at place
  -- but for 1 and 5, every log that starts with the bytes up to and including it is refused with the same number and place
  pub same : (log : List ℕ) → Bytes log → (at n place : ℕ) → read log at ≡ refused n place → n ≢ 1 → n ≢ 5 → (rest : List ℕ) → Bytes rest
      → read (take (suc place) log ++ rest) at ≡ refused n place
  -- but for 4, the log cut off before it is refused with 1, at its end
  pub cut : (log : List ℕ) → Bytes log → (at n place : ℕ) → read log at ≡ refused n place → n ≢ 4 → read (take place log) at ≡ refused 1 place

-- so with whoever keeps the format
abbrev pub FormatDecides : Type 0
FormatDecides = (read : Reader) → Reads read → PlacesDecide read

-- and no other places do: whoever refuses with this product's numbers, at places that decided them but for 5, tells this product's places
abbrev pub OnlyPlaces : Type 0
OnlyPlaces = (read : Reader) → ((log : List ℕ) → Bytes log → (at : ℕ) → number_by read at log ≡ number_by our_read at log)
    → ((log : List ℕ) → Bytes log → (at n place : ℕ) → read log at ≡ refused n place → n ≢ 5 → Decided (number_by read at) log place)
    → (log : List ℕ) → Bytes log → (at n p q : ℕ) → n ≢ 5 → read log at ≡ refused n p → our_read log at ≡ refused n q → p ≡ q
