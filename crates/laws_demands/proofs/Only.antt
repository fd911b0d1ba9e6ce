-- Whatever product meets demands 1 and 2 is this one.
use Prim.Native.Nat.{ℕ, zero, suc}
use native.Mathlib.Omega.{arith}
use mathlib.Core.Path.{◌≡◌, refl, sym, subst, ◌∙◌}
use mathlib.Core.Bool.{Bool, true, false, false≢true}
use mathlib.Core.List.{List, [], ◌∷◌}
use lib.ListN.{length}
use lib.Dec.{ltb}
use borrow.Author.Tests.{ltb-true, ltb-false}
use Rattle.state_parts.specs.declared.state.Model.{Model}
use Rattle.state_parts.specs.declared.state.Model.TheVariants.{Off, On}
use Rattle.state_valid.specs.Holds.{state_ok}
use Rattle.log_number.specs.Promises.{Bytes}
use Rattle.log_event.specs.declared.Event.{Event}
use Rattle.report_state.specs.Report.{report_of}
use Rattle.step_kinds.specs.Answers.{Outcome, refused_with}
use Rattle.step_event.specs.Steps.{model_ok, step_of}
use Rattle.step_event.specs.Theorems.{Untouched}
use Rattle.laws_step.specs.Rows.{bad-field}
use Rattle.laws_step.proofs.Given.{each-given}
use Rattle.step_event.proofs.Keeps.{refused-leaves}
use Rattle.laws_format.specs.Ours.{our_read}
use Rattle.laws_format.specs.Readers.{Reader, Reads}
use Rattle.laws_pairs.proofs.Comparing.{only-comparer}
use Rattle.laws_pairs.proofs.Printing.{our-printed}
use Rattle.laws_format.proofs.Only.{only-reader, only-writer, only-refuser}
use Rattle.laws_demands.specs.Product.{LogLines, Product}
use Rattle.laws_demands.specs.Printed.{read_on, log_from, lines_by, printed_by, RunText}
use Rattle.laws_demands.specs.First.{FirstDemand}
use Rattle.laws_demands.specs.Second.{SecondDemand}
use Rattle.laws_demands.specs.Ours.{our_walk}
use Rattle.laws_demands.specs.Only.{IsOurs, OnlyOurs}
use Rattle.laws_demands.proofs.Texts.{only-ours-printed}
use Rattle.laws_demands.proofs.Prints.{our-walks}

-- an event that is refused with 5 and leaves everything as it was
refused-is : (m : Model) (o : Outcome) → o.number ≡ 5 → Untouched m o → o ≡ refused_with 5 m
refused-is m o n u = λ i. record { number = n i; place = u.place i; model = u.model i; pulse = u.pulse i; handed = u.handed i }

-- what is read of a log
pub same_log : (read : Reader) → Reads read → (bytes : List ℕ) → Bytes bytes → (most at : ℕ) → log_from read most bytes at ≡ log_from our_read most bytes at
unfolding log_from
same_log read keeps bytes are zero at = refl
same_log read keeps bytes are (suc most) at = λ i. read_on at (only-reader read keeps bytes are at i) (λ next. same_log read keeps bytes are most next i)

module _ (p : Product) (a : FirstDemand p) (b : SecondDemand p) where
  -- on a model that passes by demand 2's definitions, on another by its row of 5 and by demand 1
  one-step : (m : Model) (e : Event) → p.step m e ≡ step_of m e
  unfolding model_ok
  one-step Off e = b.moves.passes Off refl e
  one-step (On s) e = by (state_ok s) refl
    where
      by : (t : Bool) → state_ok s ≡ t → p.step (On s) e ≡ step_of (On s) e
      by true ok = b.moves.passes (On s) ok e
      by false bad =
          let row = bad-field s e (λ good. false≢true (sym bad ∙ good)) in
          let five = (b.moves.refuses 5 (omega arith) (On s) e).1 row in
          let ours = (each-given 5 (omega arith) (On s) e).1 row in
          refused-is (On s) (p.step (On s) e) five ((a.steps (On s) e).refused (λ z. omega (arith, z, five)))
          ∙ sym (refused-is (On s) (step_of (On s) e) ours (refused-leaves (On s) e (λ z. omega (arith, z, ours))))

  one-print : (bytes : List ℕ) → Bytes bytes → printed_by p.step p.report p.read bytes ≡ printed_by step_of report_of our_read bytes
  unfolding printed_by
  one-print bytes are = λ i.
      let log = same_log p.read b.reads bytes are (suc (length bytes)) 0 i in
      record {
        lines = lines_by (λ m e. one-step m e i) (λ s. b.reports.shows s i) Off 0 log.events;
        last = length log.events ∷ log.code ∷ log.offset ∷ [];
      }

  one-walk : (bytes : List ℕ) → Bytes bytes → p.walk bytes ≡ our_walk bytes
  one-walk bytes are = by (ltb 65536 (length bytes)) refl
    where
      by : (t : Bool) → ltb 65536 (length bytes) ≡ t → p.walk bytes ≡ our_walk bytes
      by true e = let long = ltb-true 65536 (length bytes) e in b.walks.stops bytes long ∙ sym (our-walks.stops bytes long)
      by false e =
          let short = ltb-false 65536 (length bytes) e in
          b.walks.walks bytes are short ∙ one-print bytes are ∙ sym (our-walks.walks bytes are short)

  is_ours : IsOurs p
  is_ours = record {
    steps = one-step;
    reports = b.reports.shows;
    stats = b.stats.shows;
    registers = b.registers.shows;
    reads = only-reader p.read b.reads;
    compares = only-comparer p.compare b.compares;
    walks = one-walk;
    runlogs = λ bytes are.
        only-ours-printed bytes (p.runlog bytes)
        (subst (λ (w : LogLines). RunText w.lines w.last (p.runlog bytes)) (one-walk bytes are) (b.runlog bytes are));
    partlogs = λ x y are bes. (our-printed x y are bes (p.partlog x y)).0 (b.partlog x y are bes);
    writes = only-writer p.write b.writes;
    refuses = only-refuser p.write b.writes;
  }

pub only-ours : OnlyOurs
only-ours = is_ours
