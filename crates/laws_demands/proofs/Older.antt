-- An older program stops with 4 at the first record of a kind that it lacks.
use Prim.Native.Nat.{ℕ, zero, suc, ◌+◌, ◌≤◌, ◌<◌}
use mathlib.Core.Path.{◌≡◌, ap, ◌∙◌}
use mathlib.Core.List.{List, [], ◌∷◌, ◌++◌, append_assoc}
use native.Mathlib.Omega.{arith}
use native.Mathlib.Nat.{zero-add}
use lib.ListN.{length, length-append}
use Rattle.log_event.specs.Kinds.{KindRow, kind_byte}
use Rattle.log_event.specs.Events.{kind_of}
use Rattle.log_event.specs.declared.Event.{Event}
use Rattle.log_record.specs.Records.{Met, refused}
use Rattle.laws_format.specs.Format.{Spells, kind-then-numbers, SpellsAll, no-events, event-then}
use Rattle.laws_format.specs.Older.{reads_by, Lacks, HasAll}
use Rattle.laws_format.proofs.Formats.{listed-is}
use Rattle.laws_format.proofs.Logs.{some_bytes}
use Rattle.laws_format.proofs.Older.{every-old-reader, base-lacks-nine, lack-two, lack-edition}
use Rattle.laws_demands.specs.Printed.{Log, read_on, log_from, printed_by}
use Rattle.laws_demands.specs.Older.{OldProgramStops, BaseStopsAtNine, OneTsStopsAtTen, OneEditionStopsAtEleven}

-- records have a byte at least
few : {es : List Event} {bytes : List ℕ} → SpellsAll es bytes → length es ≤ length bytes
few no-events = omega arith
few (event-then e es s bytes sp so) = omega (arith, few so, length-append s bytes, some_bytes sp [], length-append s [])

module _ (table : List KindRow) (tail : List ℕ) (stop : (before : List ℕ) → reads_by table (before ++ tail) (length before) ≡ refused 4 (length before)) where
  stops-from : {es : List Event} {bytes : List ℕ} → SpellsAll es bytes → HasAll table es → (before : List ℕ) (most : ℕ) → length es < most
      → log_from (reads_by table) most (before ++ (bytes ++ tail)) (length before) ≡ record { events = es; code = 4; offset = length before + length bytes }
  unfolding log_from
  stops-from so h before zero l = absurd (omega arith)
  stops-from no-events h before (suc most) l =
      let place : length before ≡ length before + 0 = omega arith in
      ap (λ (x : Met). read_on (length before) x (λ next. log_from (reads_by table) most (before ++ tail) next)) (stop before)
      ∙ ap (λ (n : ℕ). record { events = []; code = 4; offset = n }) place
  stops-from (event-then e es s bytes sp so) h before (suc most) l =
      let k = rw (append_assoc before s (bytes ++ tail), length-append before s) at (stops-from so h.1 (before ++ s) most (omega arith)) in
      let offset : length before + length s + length bytes ≡ length before + length (s ++ bytes) = omega (arith, length-append s bytes) in
      rw (append_assoc s bytes tail)
      (ap (λ (x : Met). read_on (length before) x (λ next. log_from (reads_by table) most (before ++ (s ++ (bytes ++ tail))) next)) ((every-old-reader table).reads e s h.0 sp before (bytes ++ tail))
      ∙ ap (λ (x : Log). record { events = e ∷ x.events; code = x.code; offset = x.offset }) k
      ∙ ap (λ (n : ℕ). record { events = e ∷ es; code = 4; offset = n }) offset)

-- a record of a kind that the table lacks, whatever follows
lacked : (table : List KindRow) {e : Event} {spelling : List ℕ} → Lacks table (kind_byte (kind_of e)) → Spells e spelling → (rest before : List ℕ)
    → reads_by table (before ++ (spelling ++ rest)) (length before) ≡ refused 4 (length before)
lacked table lacks (kind-then-numbers e kind ns bytes l so) rest before = (every-old-reader table).stops kind (rw (listed-is l).0 lacks) before (bytes ++ rest)

pub old-program-stops : OldProgramStops
unfolding printed_by
old-program-stops table e lacks step report es bytes spelling rest h so sp =
    let whole = bytes ++ (spelling ++ rest) in
    let most : length es < suc (length whole) = omega (arith, few so, length-append bytes (spelling ++ rest)) in
    let k = stops-from table (spelling ++ rest) (lacked table lacks sp rest) so h [] (suc (length whole)) most in
    rw (k, zero-add (length bytes))

pub base-stops-at-nine : BaseStopsAtNine
base-stops-at-nine r = old-program-stops _ _ base-lacks-nine

pub one-ts-stops-at-ten : OneTsStopsAtTen
one-ts-stops-at-ten t = old-program-stops _ _ lack-two.ten

pub one-edition-stops-at-eleven : OneEditionStopsAtEleven
one-edition-stops-at-eleven v = old-program-stops _ _ lack-edition.eleven
