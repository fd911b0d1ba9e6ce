-- A reader by an older table of kinds reads what it has, and stops with 4 at a kind that it lacks.
use Prim.Native.Nat.{ℕ, ◌+◌}
use mathlib.Core.Path.{◌≡◌, refl, sym, ap, ◌∙◌}
use mathlib.Core.List.{List, ◌∷◌, ◌++◌}
use native.Mathlib.Nat.{add-zero}
use lib.ListN.{length}
use lib.Seq.{drop-append_seam}
use Rattle.log_event.specs.Kinds.{KindRow, kinds, row_for}
use Rattle.log_event.specs.Events.{kind_of}
use Rattle.log_event.specs.declared.Event.{Event}
use Rattle.log_event.proofs.Remaking.{row-of-its-own}
use Rattle.log_record.specs.Records.{met, of_row, placed, read_record, record_at}
use Rattle.laws_format.specs.Format.{Spells, kind-then-numbers}
use Rattle.laws_format.specs.Older.{reads_by, Has, EveryOldReader, BaseLacksNine, LackRuns, LackTwo, LackEdition}
use Rattle.laws_format.proofs.Formats.{listed-is}
use Rattle.laws_format.proofs.Keeping.{our-reads}

-- what stands at a place goes by the row of its first byte
by_row : (table : List KindRow) (before : List ℕ) (byte : ℕ) (rest : List ℕ)
    → reads_by table (before ++ (byte ∷ rest)) (length before) ≡ placed (length before) (of_row (row_for table byte) rest)
unfolding record_at read_record
by_row table before byte rest = ap (λ s. placed (length before) (read_record table s)) (drop-append_seam before (byte ∷ rest))

reads : (table : List KindRow) (e : Event) (spelling : List ℕ) → Has table e → Spells e spelling → (before rest : List ℕ)
    → reads_by table (before ++ (spelling ++ rest)) (length before) ≡ met e (length before + length spelling)
reads table e _ has (kind-then-numbers _ kind ns bytes l so) before rest =
    let row : row_for table kind ≡ row_for kinds kind = rw (listed-is l).0 (has ∙ sym (row-of-its-own (kind_of e))) in
    by_row table before kind (bytes ++ rest)
    ∙ ap (λ r. placed (length before) (of_row r (bytes ++ rest))) row
    ∙ sym (by_row kinds before kind (bytes ++ rest))
    ∙ our-reads.back e (kind ∷ bytes) (kind-then-numbers e kind ns bytes l so) before rest

pub every-old-reader : EveryOldReader
every-old-reader table = record {
  reads = reads table;
  stops = λ byte lacks before rest. by_row table before byte rest ∙ rw (lacks, add-zero (length before));
}

pub base-lacks-nine : BaseLacksNine
base-lacks-nine = refl

pub lack-runs : LackRuns
lack-runs = record { base-eight = refl; base-fourteen = refl; eight = refl; fourteen = refl }

pub lack-two : LackTwo
lack-two = record { base = refl; earlier = refl; ten = refl }

pub lack-edition : LackEdition
lack-edition = record { base = refl; earlier = refl; one_ts = refl; eleven = refl }
