-- Demand 3 of lists of events is demand 3 of logs, for every product that keeps the format and runs logs by its step: each record of a log is one more event of a list.
use Prim.Native.Nat.{ℕ, zero, suc, ◌+◌, ◌≤◌}
use native.Mathlib.Omega.{arith}
use mathlib.Core.Path.{◌≡◌, refl, sym, ap, subst, ◌∙◌}
use mathlib.Core.List.{List, [], ◌∷◌, ◌++◌}
use lib.ListN.{length, get_or, length-append}
use mathlib.Core.List.{append_assoc}
use Rattle.base.specs.Volts.{millivolts_of}
use Rattle.state_parts.specs.declared.state.State.{State}
use Rattle.state_parts.specs.declared.state.Model.{Model}
use Rattle.state_parts.specs.declared.state.Model.TheVariants.{Off, On}
use Rattle.log_event.specs.declared.Event.{Event}
use Rattle.log_record.specs.Records.{met}
use Rattle.report_state.specs.declared.line.Line.{Line}
use Rattle.step_event.specs.Pages.{blank_line}
use Rattle.laws_account.specs.History.{Run}
use Rattle.laws_format.specs.Format.{SpellsAll, no-events, event-then}
use Rattle.laws_format.specs.Readers.{Reader, Reads}
use Rattle.laws_third.specs.Demand.{Third, ran_by, ThirdOfLists}
use Rattle.laws_demands.specs.Product.{Step, Reporter, Walker}
use Rattle.laws_demands.specs.Printed.{report_in, read_on, log_from, line_by, lines_by, printed_by}
use Rattle.laws_demands.specs.Second.{Walks}
use Rattle.laws_demands.specs.Third.{Shown, ThirdOfLogs}
use Rattle.laws_demands.proofs.Answers.{some_byte}

-- records have a byte each
pub some_bytes : {es : List Event} {bytes : List ℕ} → SpellsAll es bytes → length es ≤ length bytes
some_bytes no-events = omega arith
some_bytes (event-then e es spelling bytes s more) =
    omega (arith, length-append spelling bytes, some_byte e spelling s, some_bytes more)

module _ (read : Reader) (keeps : Reads read) where
  -- what is read of a log that has these records from a place on
  abbrev Starts : ℕ → List Event → List ℕ → ℕ → Type 0
  Starts most es log at = (more : List Event) × ((log_from read most log at).events ≡ es ++ more)

  starts-one : (most : ℕ) (e : Event) (es : List Event) (log : List ℕ) (at next : ℕ) → read log at ≡ met e next → Starts most es log next → Starts (suc most) (e ∷ es) log at
  unfolding log_from
  starts-one most e es log at next h k =
      (k.0, ap (λ x. (read_on at x (λ after. log_from read most log after)).events) h ∙ ap (λ (l : List Event). e ∷ l) k.1)

  starts : (es : List Event) (start : List ℕ) → SpellsAll es start → (most : ℕ) → length es ≤ most → (before rest : List ℕ)
      → Starts most es (before ++ (start ++ rest)) (length before)
  starts _ _ no-events most h before rest = ((log_from read most (before ++ rest) (length before)).events, refl)
  starts _ _ (event-then e es spelling bytes s more) zero h before rest = absurd (omega arith)
  starts _ _ (event-then e es spelling bytes s more) (suc most) h before rest =
      let whole = before ++ ((spelling ++ bytes) ++ rest) in
      let inner : (spelling ++ bytes) ++ rest ≡ spelling ++ (bytes ++ rest) = append_assoc spelling bytes rest in
      let outer : (before ++ spelling) ++ (bytes ++ rest) ≡ before ++ (spelling ++ (bytes ++ rest)) = append_assoc before spelling (bytes ++ rest) in
      let again = starts es bytes more most (omega arith) (before ++ spelling) rest in
      let read-it : read whole (length before) ≡ met e (length before + length spelling) = rw inner (keeps.back e spelling s before (bytes ++ rest)) in
      starts-one most e es whole (length before) (length before + length spelling) read-it
      (subst (λ (at : ℕ). Starts most es whole at) (length-append before spelling)
      (subst (λ (log : List ℕ). Starts most es log (length (before ++ spelling))) (outer ∙ ap (λ (l : List ℕ). before ++ l) (sym inner)) again))

module _ (step : Step) (report : Reporter) where
  -- the line of an event shows the model that it leaves
  abbrev LineOf : Model → ℕ → List Event → Event → Line → Type 0
  LineOf m number es e line = (n : ℕ) × (line ≡ line_by report n e (step (ran_by step m es) e))

  line_at : (es : List Event) (e : Event) (more : List Event) (m : Model) (number : ℕ)
      → LineOf m number es e (get_or (lines_by step report m number (es ++ (e ∷ more))) (length es) blank_line)
  unfolding lines_by ran_by
  line_at [] e more m number = (suc number, refl)
  line_at (d ∷ es) e more m number = line_at es e more (step m d).model (suc number)

  ran-last : (es : List Event) (e : Event) (m : Model) → ran_by step m (es ++ (e ∷ [])) ≡ (step (ran_by step m es) e).model
  unfolding ran_by
  ran-last [] e m = refl
  ran-last (d ∷ es) e m = ran-last es e (step m d).model

  shown_by : (r : Run) (n : ℕ) (e : Event) (before : Model) (s : State) → Third r (report s) → (step before e).model ≡ On s → Shown r (line_by report n e (step before e))
  unfolding line_by
  shown_by r n e before s third is = record {
    report = report s;
    third = third;
    current = ap (λ (m : Model). (report_in report m).current) is;
    voltage = ap (λ (m : Model). millivolts_of (report_in report m).voltage) is;
  }

  pub third-of-logs : (read : Reader) → Reads read → (walk : Walker) → Walks step report read walk → ThirdOfLists step report → ThirdOfLogs walk
  unfolding printed_by
  third-of-logs read keeps walk walks third es e start rest spells are short r left =
      let log = start ++ rest in
      let whole = es ++ (e ∷ []) in
      let few = some_bytes spells in
      let both = length-append start rest in
      let k = starts read keeps whole start spells (suc (length log)) (omega arith) [] rest in
      let told = third.since whole r left in
      let at = line_at es e k.0 Off 0 in
      let lines : (walk log).lines ≡ lines_by step report Off 0 (es ++ (e ∷ k.0)) =
      ap (λ w. w.lines) (walks.walks log are short) ∙ ap (λ (l : List Event). lines_by step report Off 0 l) (k.1 ∙ append_assoc es (e ∷ []) k.0) in
      subst (λ (l : List Line). Shown r (get_or l (length es) blank_line)) (sym lines)
      (subst (λ (l : Line). Shown r l) (sym at.1) (shown_by r at.0 e (ran_by step Off es) told.0 told.2 (sym (ran-last es e Off) ∙ told.1)))
