-- What this product prints of a log is what its step, report and reader make of it.
use Prim.Native.Nat.{ℕ, zero, suc, ◌+◌, ◌^◌, ◌≤◌, ◌<◌}
use mathlib.Core.Path.{◌≡◌, refl, ap, ◌∙◌}
use mathlib.Core.List.{List, [], ◌∷◌}
use native.Mathlib.Omega.{arith}
use native.Mathlib.Nat.{zero-add}
use lib.ListN.{length}
use borrow.Author.Tests.{lt-ltb, le-ltb}
use Rattle.base.specs.Pick.{bit_of}
use Rattle.state_parts.specs.declared.state.Model.{Model}
use Rattle.state_parts.specs.declared.state.Model.TheVariants.{Off, On}
use Rattle.log_event.specs.Events.{kind_of}
use Rattle.log_event.specs.Kinds.{kind_byte, kinds}
use Rattle.log_event.specs.declared.Event.{Event}
use Rattle.log_event.specs.declared.Event.TheVariants.{PowerOn, Set, Write, TakeFlags, Observe, Service, Reset, PowerOnResistors, ObserveTwo, PowerOnEdition, WriteRun, ReadFlags}
use Rattle.log_record.specs.Records.{Met, met, refused, end, record_at}
use Rattle.report_state.specs.Lines.{line_of}
use Rattle.report_state.specs.Report.{report_of}
use Rattle.step_event.specs.Steps.{step_of}
use Rattle.step_event.specs.Walks.{number_after, met_by, met_of, after_read, walk_of, start_walk}
use Rattle.step_event.specs.Pages.{Passed, passed_by, page_of, whole_of, end_by, end_of}
use Rattle.step_event.specs.declared.walking.Walk.{Walk}
use Rattle.step_kinds.specs.Answers.{Outcome}
use Rattle.laws_format.specs.Ours.{our_read}
use Rattle.laws_demands.specs.Printed.{kind_number, line_by, lines_by, Log, read_on, log_from, printed_by}
use Rattle.laws_demands.specs.Second.{Walks}
use Rattle.laws_demands.specs.Ours.{our_walk}

kind-is : (e : Event) → kind_byte (kind_of e) ≡ kind_number e
kind-is (PowerOn p) = refl
kind-is (Set number value) = refl
kind-is (Write address byte) = refl
kind-is TakeFlags = refl
kind-is (Observe x) = refl
kind-is Service = refl
kind-is Reset = refl
kind-is (PowerOnResistors r) = refl
kind-is (ObserveTwo t) = refl
kind-is (PowerOnEdition v) = refl
kind-is (WriteRun address raw) = refl
kind-is (ReadFlags address) = refl

line-is : (number : ℕ) (e : Event) (o : Outcome) → line_of number (kind_byte (kind_of e)) o.number (bit_of o.pulse) o.model ≡ line_by report_of number e o
unfolding line_of line_by
line-is number e o = ap (λ (kind : ℕ). line_of number kind o.number (bit_of o.pulse) o.model) (kind-is e) ∙ by o.model
  where
    by : (m : Model) → line_of number (kind_number e) o.number (bit_of o.pulse) m ≡ line_by report_of number e (record { number = o.number; place = o.place; model = m; pulse = o.pulse; handed = o.handed })
    by Off = refl
    by (On s) = refl

-- a page from a walk on, by the log as it was read from there
record Same (w : Walk) (p : Passed) (l : Log) : Type 0 where
  lines : p.lines ≡ lines_by step_of report_of w.model w.number l.events
  last : end_by p.last p.stop ≡ (w.number + length l.events) ∷ l.code ∷ l.offset ∷ []

-- no record more
alone : (w : Walk) (code place : ℕ) → w.number ∷ code ∷ place ∷ [] ≡ (w.number + 0) ∷ code ∷ place ∷ []
alone w code place = let k : w.number ≡ w.number + 0 = omega arith in ap (λ n. n ∷ code ∷ place ∷ []) k

abbrev PageIs : ℕ → List ℕ → Walk → Type 0
PageIs most bytes w = w.number + most < 2 ^ 32 → Same w (page_of most bytes w) (log_from our_read most bytes w.place)

no-page : (bytes : List ℕ) (w : Walk) → PageIs zero bytes w
unfolding page_of log_from lines_by
no-page bytes w h = record { lines = refl; last = alone w 0 w.place }

-- a record's line, and the lines after it, which count from the number that the walk counts to
lines_after : (e : Event) (o : Outcome) (number next : ℕ) (es : List Event) → next ≡ suc number
    → line_of next (kind_byte (kind_of e)) o.number (bit_of o.pulse) o.model ∷ lines_by step_of report_of o.model next es
    ≡ line_by report_of (suc number) e o ∷ lines_by step_of report_of o.model (suc number) es
lines_after e o number next es up = rw (up, line-is (suc number) e o)

-- one record, and those after it
one-more : (most : ℕ) (bytes : List ℕ) (w : Walk) → ((v : Walk) → PageIs most bytes v) → (x : Met) → w.number + suc most < 2 ^ 32
    → Same w (passed_by w (after_read w x) (λ v. page_of most bytes v)) (read_on w.place x (λ next. log_from our_read most bytes next))
unfolding met_by lines_by
one-more most bytes w ih (met e next) h =
    let up : number_after w.number ≡ suc w.number = omega arith in
    let k = ih (met_of w e next).walk (omega arith) in
    let rest = log_from our_read most bytes next in
    let count : number_after w.number + length rest.events ≡ w.number + suc (length rest.events) = omega arith in
    record {
      lines =
          ap (λ l. (met_of w e next).line ∷ l) k.lines
          ∙ lines_after e (step_of w.model e) w.number (number_after w.number) rest.events up;
      last = k.last ∙ ap (λ n. n ∷ rest.code ∷ rest.offset ∷ []) count;
    }
one-more most bytes w ih (refused number place) h = record { lines = refl; last = alone w number place }
one-more most bytes w ih end h = record { lines = refl; last = alone w 0 w.place }

pages : (most : ℕ) (bytes : List ℕ) (w : Walk) → PageIs most bytes w
unfolding page_of log_from walk_of
pages zero bytes w h = no-page bytes w h
pages (suc most) bytes w h = one-more most bytes w (λ v. pages most bytes v) (record_at kinds bytes w.place) h

whole : (bytes : List ℕ) → length bytes ≤ 65536 → record { lines = (whole_of bytes).lines; last = end_of bytes } ≡ printed_by step_of report_of our_read bytes
unfolding whole_of printed_by start_walk
whole bytes h =
    let k = pages (suc (length bytes)) bytes start_walk (omega arith) in
    let last = rw zero-add at k.last in
    λ i. record { lines = k.lines i; last = last i }

pub our-walks : Walks step_of report_of our_read our_walk
our-walks = record {
  walks = λ bytes are short. rw (le-ltb 65536 (length bytes) short) (whole bytes short);
  stops = λ bytes long. rw (lt-ltb 65536 (length bytes) long);
}
