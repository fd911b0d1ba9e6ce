-- 02, R-2: the step with the test is this product's step.
use mathlib.Core.Path.{◌≡◌, refl, ap}
use Rattle.state_parts.specs.declared.state.State.{State}
use Rattle.settle_all.specs.Settle.{settle_of}
use Rattle.settle_bands.specs.Holding.{bands_of}
use Rattle.settle_all.proofs.EndTested.{test-decides-nothing}
use Rattle.report_state.specs.Report.{report_of}
use Rattle.step_turns.specs.Turns.{turn_of}
use Rattle.step_kinds.specs.Finish.{finish_by, finish_of}
use Rattle.step_event.specs.Steps.{ended_by, change_of, turned_by, step_of}
use Rattle.laws_demands.specs.Product.{Step}
use Rattle.laws_demands.specs.Printed.{lines_by, printed_by}
use Rattle.laws_demands.specs.EndTest.{StepByOwnTests, step_end_tested, outcomes_by, NothingChanges}

pub step-by-own-tests : StepByOwnTests
unfolding step_of turned_by finish_of settle_of
step-by-own-tests m e = refl

same_step : step_end_tested ≡ step_of
unfolding step_end_tested step_of turned_by finish_of settle_of
same_step = λ i m e. ended_by (finish_by (λ (s : State) observed. test-decides-nothing.settles bands_of s observed i)) m (change_of m (turn_of e))

pub nothing-changes : NothingChanges
nothing-changes = record {
  outcomes = λ m es. ap (λ (step : Step). outcomes_by step m es) same_step;
  lines = λ m number es. ap (λ (step : Step). lines_by step report_of m number es) same_step;
  logs = λ read bytes. ap (λ (step : Step). printed_by step report_of read bytes) same_step;
}
