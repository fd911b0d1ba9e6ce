-- What the operators may count on holds of this product, by the law of every run.
use mathlib.Core.Path.{◌≡◌, refl, ap, subst, ◌∙◌}
use mathlib.Core.List.{List}
use Rattle.state_parts.specs.Numbers.{phase_number}
use Rattle.state_parts.specs.declared.state.Model.{Model}
use Rattle.log_event.specs.declared.Event.{Event}
use Rattle.report_state.specs.Report.{report_of}
use Rattle.step_event.specs.Steps.{step_of}
use Rattle.laws_account.specs.History.{Run}
use Rattle.laws_account.specs.Cycles.{number_at, phase_at}
use Rattle.laws_account.specs.Refused.{Accepted, none, some, past_of}
use Rattle.laws_account.specs.Runs.{Lawful}
use Rattle.laws_account.specs.States.{state_by, state_of, model_of}
use Rattle.laws_account.proofs.Logging.{past-lawful}
use Rattle.laws_third.proofs.Full.{ends-in-five, stays-at-voltage}
use Rattle.laws_third.proofs.Third.{ran-is}
use Rattle.laws_demands.specs.Printed.{report_in}
use Rattle.laws_demands.specs.Operators.{SaysDone, OperatorsHold}

module _ (es : List Event) (r : Run) (e : past_of none es ≡ some r) where
  accepted : Accepted r
  accepted = subst Lawful e (past-lawful es none tt)

  shown : phase_number (report_of (state_of r)).phase ≡ number_at phase_at r
  unfolding report_of state_by
  shown = refl

  says : number_at phase_at r ≡ 5 → SaysDone step_of report_of es
  says five = ap (λ (m : Model). phase_number (report_in report_of m).phase) (ran-is es none tt ∙ ap model_of e) ∙ shown ∙ five

pub operators-hold : OperatorsHold
operators-hold = record {
  ends = λ es r e ends. says es r e (ends-in-five r (accepted es r e) ends);
  stays = λ es r e was may at. says es r e (stays-at-voltage r (accepted es r e) was may at).1;
}
