-- What keeps the format answers as demand 1 says: a reader at every place, and a run of a log at its end.
use Prim.Native.Nat.{ℕ, zero, suc, ◌+◌, ◌≤◌, ◌<◌}
use native.Mathlib.Omega.{arith}
use mathlib.Core.Path.{◌≡◌, refl, sym, ap, subst}
use mathlib.Core.List.{List, [], ◌∷◌, ◌++◌}
use mathlib.Core.Logic.{◌⊎◌, inl, inr}
use mathlib.Core.Bool.{Bool, true, false}
use lib.Dec.{ltb}
use borrow.Author.Tests.{ltb-true, ltb-false}
use lib.ListN.{length, drop, length-append, length-drop}
use Rattle.state_parts.specs.declared.state.Model.{Model}
use Rattle.state_parts.specs.declared.state.Model.TheVariants.{Off}
use Rattle.log_number.specs.Promises.{Bytes}
use Rattle.log_event.specs.declared.Event.{Event}
use Rattle.log_record.specs.Records.{Met, met, refused, end}
use Rattle.laws_step.specs.Ranged.{Among}
use Rattle.laws_format.specs.Format.{Spells, kind-then-numbers}
use Rattle.laws_format.specs.Readers.{Reader, SpelledAt, Reads}
use Rattle.laws_format.proofs.RecordsDecided.{record-among, record-within}
use Rattle.laws_demands.specs.Product.{Step, Reporter, Walker, LogLines}
use Rattle.laws_demands.specs.Printed.{Log, read_on, log_from, lines_by, printed_by}
use Rattle.laws_demands.specs.Second.{Walks}
use Rattle.log_pairs.specs.Comparing.{Answer}
use Rattle.laws_pairs.specs.Compared.{SideBySide, second-is-start, first-is-start, first-unreadable, second-unreadable, different}
use Rattle.laws_demands.specs.First.{ReadAt, event, unreadable, WalkedIn, whole, ComparedIn, rest-of-first, rest-of-second, unread-in-first, unread-in-second, parted}
use Rattle.laws_demands.specs.First as first

-- a spelling has a byte
pub some_byte : (e : Event) (bytes : List ℕ) → Spells e bytes → 1 ≤ length bytes
some_byte e _ (kind-then-numbers _ kind ns bytes l n) = omega arith

module _ (read : Reader) (keeps : Reads read) (bytes : List ℕ) (are : Bytes bytes) where
  within : (at : ℕ) (e : Event) (next : ℕ) → SpelledAt bytes at e next → (at < next) × (next ≤ length bytes)
  within at e next s =
      let some = some_byte e s.spelling s.spells in
      let long = ap length s.start in
      let parts = length-append s.spelling (drop next bytes) in
      let left = length-drop at bytes in
      let right = length-drop next bytes in
      (omega (arith, some, s.long), omega (arith, some, s.long, long, parts, left, right))

  read_by : (at : ℕ) (x : Met) → read bytes at ≡ x → ReadAt bytes at x
  read_by at (met e next) h = let w = within at e next (keeps.only bytes are at e next h) in event e next w.0 w.1
  read_by at (refused n place) h =
      let row = (keeps.refuses bytes are at n place).0 h in
      let k = record-within row.row in
      let long = length-drop at bytes in
      unreadable n place (omega (arith, k.2)) (record-among row.row) (omega (arith, row.counts)) (omega (arith, k.0, k.2, row.counts))
  read_by at end h = first.end ((keeps.ends bytes are at).0 h)

  pub reads-answer : (at : ℕ) → ReadAt bytes at (read bytes at)
  reads-answer at = read_by at (read bytes at) refl

  -- a log that was read from a place on, with records enough allowed for: to its end, or to what can't be read
  abbrev Ended : Log → Type 0
  Ended l = ((l.code ≡ 0) × (l.offset ≡ length bytes)) ⊎ (Among l.code 1 5 × (l.offset ≤ length bytes))

  ended-by : (most at : ℕ) → at ≤ length bytes → ((next : ℕ) → next ≤ length bytes → length bytes < next + most → Ended (log_from read most bytes next))
      → length bytes < at + suc most → (x : Met) → ReadAt bytes at x → Ended (read_on at x (λ next. log_from read most bytes next))
  ended-by most at inside more room _ (event e next ahead in-log) = more next in-log (omega arith)
  ended-by most at inside more room _ (unreadable n place in-log w ahead far) = inr (w, far)
  ended-by most at inside more room _ (first.end late) = inl (refl, omega arith)

  ended : (most at : ℕ) → at ≤ length bytes → length bytes < at + most → Ended (log_from read most bytes at)
  unfolding log_from
  ended zero at inside room = absurd (omega arith)
  ended (suc most) at inside room = ended-by most at inside (λ next h k. ended most next h k) room (read bytes at) (reads-answer at)

-- a line for each event
lines-count : (step : Step) (report : Reporter) (es : List Event) (m : Model) (number : ℕ) → length (lines_by step report m number es) ≡ length es
unfolding lines_by
lines-count step report [] m number = refl
lines-count step report (e ∷ es) m number = ap suc (lines-count step report es (step m e).model (suc number))

pub walk-answers : (step : Step) (report : Reporter) (read : Reader) → Reads read → (bytes : List ℕ) → Bytes bytes → WalkedIn bytes (printed_by step report read bytes)
unfolding printed_by
walk-answers step report read keeps bytes are = by (ended read keeps bytes are (suc (length bytes)) 0 (omega arith) (omega arith))
  where
    log : Log
    log = log_from read (suc (length bytes)) bytes 0

    count : length log.events ≡ length (lines_by step report Off 0 log.events)
    count = sym (lines-count step report log.events Off 0)

    by : Ended read keeps bytes are log → WalkedIn bytes (printed_by step report read bytes)
    by (inl h) = whole (λ i. count i ∷ h.0 i ∷ h.1 i ∷ [])
    by (inr h) = first.stopped log.code log.offset h.0 h.1 (λ i. count i ∷ log.code ∷ log.offset ∷ [])

pub walked : (step : Step) (report : Reporter) (read : Reader) (walk : Walker) → Walks step report read walk → Reads read → (bytes : List ℕ) → Bytes bytes → WalkedIn bytes (walk bytes)
walked step report read walk by keeps bytes are = go (ltb 65536 (length bytes)) refl
  where
    go : (t : Bool) → ltb 65536 (length bytes) ≡ t → WalkedIn bytes (walk bytes)
    go true e = let long = ltb-true 65536 (length bytes) e in first.too-long long (by.stops bytes long)
    go false e =
        subst (λ (w : LogLines). WalkedIn bytes w) (sym (by.walks bytes are (ltb-false 65536 (length bytes) e))) (walk-answers step report read keeps bytes are)

-- two logs by what they come to: a rest starts within its log, what can't be read is told within its own, and where they part both go on
within_first : (start rest : List ℕ) → length start ≤ length (start ++ rest)
within_first start rest = omega (arith, length-append start rest)

goes_on : (start rest : List ℕ) → 0 < length rest → length start < length (start ++ rest)
goes_on start rest h = omega (arith, h, length-append start rest)

record-goes-on : (start spelling rest : List ℕ) (e : Event) → Spells e spelling → length start < length (start ++ (spelling ++ rest))
record-goes-on start spelling rest e s = goes_on start (spelling ++ rest) (omega (arith, length-append spelling rest, some_byte e spelling s))

pub compared : {a b : List ℕ} {answer : Answer} → SideBySide a b answer → ComparedIn a b answer
compared (second-is-start both start rest s) = rest-of-first (length start) (within_first start rest)
compared (first-is-start both start rest s h) = rest-of-second (length start) (within_first start rest)
compared (first-unreadable n place both start rest other s row h) =
    unread-in-first n (suc (length both)) (length start + place) (record-among row) (omega arith) (omega (arith, length-append start rest, (record-within row).0))
compared (second-unreadable n place both e start spelling rest other s t row) =
    unread-in-second n (suc (length both)) (length start + place) (record-among row) (omega arith) (omega (arith, length-append start other, (record-within row).0))
compared (different both e f start spelling rest another other s t u h) =
    parted (suc (length both)) (length start) (omega arith) (record-goes-on start spelling rest e t) (record-goes-on start another other f u)
