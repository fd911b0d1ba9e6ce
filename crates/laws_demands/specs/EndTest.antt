-- 02, R-2: "One test fewer at the end of charge." The step with that test, and this product's, which has it no longer: the same on every model and event, and so through every list of
-- events and every log. And the step in which a restart has lost its test too, which is a wrong one.
use Rattle.std.specs.Prelude.{ℕ, ◌≡◌, false, List, [], ◌∷◌}
use Rattle.state_parts.specs.declared.state.Model.{Model}
use Rattle.log_event.specs.declared.Event.{Event}
use Rattle.settle_all.specs.Gather.{tests_of}
use Rattle.settle_all.specs.Settle.{Tester, settle_by}
use Rattle.settle_all.specs.EndTested.{end_tested, tests_end_tested}
use Rattle.report_state.specs.Report.{report_of}
use Rattle.step_turns.specs.Turns.{turn_of}
use Rattle.step_kinds.specs.Answers.{Outcome}
use Rattle.step_kinds.specs.Finish.{finish_by}
use Rattle.step_event.specs.Steps.{ended_by, change_of, step_of}
use Rattle.laws_format.specs.Readers.{Reader}
use Rattle.laws_demands.specs.Product.{Step}
use Rattle.laws_demands.specs.Printed.{lines_by, printed_by}

-- this product's step, but that it settles by other tests; by its own it is the step itself
abbrev pub step_by : Tester → Step
step_by tests m e = ended_by (finish_by (settle_by tests)) m (change_of m (turn_of e))

abbrev pub StepByOwnTests : Type 0
StepByOwnTests = (m : Model) (e : Event) → step_by tests_of m e ≡ step_of m e

-- "VBAT not below the recharge point" asked for the end of a charge, as before
unfoldable pub step_end_tested : Step
step_end_tested m e = step_by tests_end_tested m e

-- what each event comes to: refusal and place, the model after it, pulse, flags handed back
unfoldable pub outcomes_by : Step → Model → List Event → List Outcome
outcomes_by step m [] = []
outcomes_by step m (e ∷ es) = step m e ∷ outcomes_by step (step m e).model es

-- "show that no run's report changes": nothing does, whatever model a list of events begins with, refused events and later power-ons included
pub record NothingChanges : Type 0 where
  pub outcomes : (m : Model) (es : List Event) → outcomes_by step_end_tested m es ≡ outcomes_by step_of m es
  -- the lines: number, kind, answer, phase, current, voltage, input limit, pulse and flags of each event
  pub lines : (m : Model) (number : ℕ) (es : List Event) → lines_by step_end_tested report_of m number es ≡ lines_by step_of report_of m number es
  -- and what is printed of a log, however it is read
  pub logs : (read : Reader) (bytes : List ℕ) → printed_by step_end_tested report_of read bytes ≡ printed_by step_of report_of read bytes

-- the recharge point asked for neither the end nor the restart
unfoldable pub never_restarts : Step
never_restarts m e = step_by (λ s k b observed. end_tested (tests_of s k b observed) false) m e
