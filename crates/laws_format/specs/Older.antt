-- A program by an older table of kinds, and a log that a newer one wrote. 02, R-9: "An old program stops there with 4"; so it does at R-5's kind 9, at R-3's 8 and 14, at R-7's 10, and at R-8's 11. It is said of every table and of every
-- kind that the table lacks.
use Rattle.std.specs.Prelude.{ℕ, ◌+◌, ◌≡◌, List, [], ◌∷◌, ◌++◌, length}
use Rattle.std.proofs.Math.Option.{none, some}
use Rattle.log_event.specs.Kinds.{KindRow, kind_byte, kind_row, kind_rows, row_for}
use Rattle.log_event.specs.Events.{kind_of}
use Rattle.log_event.specs.declared.Event.{Event}
use Rattle.log_event.specs.declared.kinds.Kind.TheVariants.{PowerOn, Set, Write, TakeFlags, Observe, Service, Reset, WriteRun, PowerOnResistors, ObserveTwo, ReadFlags}
use Rattle.log_record.specs.Records.{met, refused, record_at}
use Rattle.laws_format.specs.Format.{Spells}
use Rattle.laws_format.specs.Readers.{Reader}

-- a reader by a table of kinds; this product's is by `kinds`
abbrev pub reads_by : List KindRow → Reader
reads_by table = record_at table

-- a table lacks the kind of a byte
abbrev pub Lacks : List KindRow → ℕ → Type 0
Lacks table byte = row_for table byte ≡ none

-- a table has an event's kind, with the row that this product has for it
abbrev pub Has : List KindRow → Event → Type 0
Has table e = row_for table (kind_byte (kind_of e)) ≡ some (kind_row (kind_of e))

abbrev pub HasAll : List KindRow → List Event → Type 0
HasAll table [] = Unit {0}
HasAll table (e ∷ es) = Has table e × HasAll table es

pub record OldReader (table : List KindRow) : Type 0 where
  -- an event of a kind that it has is read back, at every place of every log
  pub reads : (e : Event) (spelling : List ℕ) → Has table e → Spells e spelling → (before rest : List ℕ)
      → reads_by table (before ++ (spelling ++ rest)) (length before) ≡ met e (length before + length spelling)
  -- where a kind stands that it lacks it stops, with 4 and the record's start, whatever follows
  pub stops : (byte : ℕ) → Lacks table byte → (before rest : List ℕ) → reads_by table (before ++ (byte ∷ rest)) (length before) ≡ refused 4 (length before)

abbrev pub EveryOldReader : Type 0
EveryOldReader = (table : List KindRow) → OldReader table

-- the table before 02, R-5: it lacks 9
abbrev pub base_kinds : List KindRow
base_kinds = kind_rows (PowerOn ∷ Set ∷ Write ∷ TakeFlags ∷ Observe ∷ Service ∷ Reset ∷ [])

abbrev pub BaseLacksNine : Type 0
BaseLacksNine = Lacks base_kinds 9

-- the table before 02, R-3, with R-5's: both lack 8 and 14
abbrev pub earlier_kinds : List KindRow
earlier_kinds = kind_rows (PowerOn ∷ Set ∷ Write ∷ TakeFlags ∷ Observe ∷ Service ∷ Reset ∷ PowerOnResistors ∷ [])

pub record LackRuns : Type 0 where
  pub base-eight : Lacks base_kinds 8
  pub base-fourteen : Lacks base_kinds 14
  pub eight : Lacks earlier_kinds 8
  pub fourteen : Lacks earlier_kinds 14

-- the table before 02, R-7, with R-3's: none of the three has 10
abbrev pub one_ts_kinds : List KindRow
one_ts_kinds = kind_rows (PowerOn ∷ Set ∷ Write ∷ TakeFlags ∷ Observe ∷ Service ∷ Reset ∷ WriteRun ∷ PowerOnResistors ∷ ReadFlags ∷ [])

pub record LackTwo : Type 0 where
  pub base : Lacks base_kinds 10
  pub earlier : Lacks earlier_kinds 10
  pub ten : Lacks one_ts_kinds 10

-- the table before 02, R-8, with R-7's: none of the four has 11
abbrev pub one_edition_kinds : List KindRow
one_edition_kinds = kind_rows (PowerOn ∷ Set ∷ Write ∷ TakeFlags ∷ Observe ∷ Service ∷ Reset ∷ WriteRun ∷ PowerOnResistors ∷ ObserveTwo ∷ ReadFlags ∷ [])

pub record LackEdition : Type 0 where
  pub base : Lacks base_kinds 11
  pub earlier : Lacks earlier_kinds 11
  pub one_ts : Lacks one_ts_kinds 11
  pub eleven : Lacks one_edition_kinds 11
