-- An older program on a log that a newer one wrote: it prints what came before the first record of a kind that it lacks, and stops there with 4. 02, R-9: "and so shows no phase by the wrong
-- limits".
use Rattle.std.specs.Prelude.{ℕ, ◌≡◌, List, [], ◌∷◌, ◌++◌, length}
use Rattle.log_event.specs.Kinds.{KindRow, kind_byte}
use Rattle.log_event.specs.Events.{kind_of}
use Rattle.log_event.specs.declared.Event.{Event}
use Rattle.log_event.specs.declared.Event.TheVariants.{PowerOnResistors, ObserveTwo, PowerOnEdition}
use Rattle.log_event.specs.declared.spelled.SpelledEdition.{SpelledEdition}
use Rattle.log_event.specs.declared.spelled.SpelledResistors.{SpelledResistors}
use Rattle.log_event.specs.declared.spelled.SpelledTwo.{SpelledTwo}
use Rattle.state_parts.specs.declared.state.Model.TheVariants.{Off}
use Rattle.laws_format.specs.Format.{Spells, SpellsAll}
use Rattle.laws_format.specs.Older.{reads_by, Lacks, HasAll, base_kinds, one_ts_kinds, one_edition_kinds}
use Rattle.laws_demands.specs.Product.{Step, Reporter}
use Rattle.laws_demands.specs.Printed.{lines_by, printed_by}

-- by any table of kinds, whatever step and report the older program has: records of kinds that the table has, then one of a kind that it lacks, then whatever follows
abbrev pub StopsAt : List KindRow → Event → Type 0
StopsAt table e =
    (step : Step) (report : Reporter) (es : List Event) (bytes spelling rest : List ℕ) → HasAll table es → SpellsAll es bytes → Spells e spelling
    → printed_by step report (reads_by table) (bytes ++ (spelling ++ rest)) ≡ record { lines = lines_by step report Off 0 es; last = length es ∷ 4 ∷ length bytes ∷ [] }

abbrev pub OldProgramStops : Type 0
OldProgramStops = (table : List KindRow) (e : Event) → Lacks table (kind_byte (kind_of e)) → StopsAt table e

-- so the program before 02, R-5, at a power-on by its resistors
abbrev pub BaseStopsAtNine : Type 0
BaseStopsAtNine = (r : SpelledResistors) → StopsAt base_kinds (PowerOnResistors r)

-- and the program before 02, R-7, at an observation of two thermistors
abbrev pub OneTsStopsAtTen : Type 0
OneTsStopsAtTen = (t : SpelledTwo) → StopsAt one_ts_kinds (ObserveTwo t)

-- and the program before 02, R-8, at a power-on that says an edition
abbrev pub OneEditionStopsAtEleven : Type 0
OneEditionStopsAtEleven = (v : SpelledEdition) → StopsAt one_edition_kinds (PowerOnEdition v)
