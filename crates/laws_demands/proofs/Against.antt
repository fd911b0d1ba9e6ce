-- A product that meets a demand, against this one: what a step, a report and a current must come to after a list of events, by this product's own definitions.
use Prim.Native.Nat.{ℕ, ◌<◌}
use native.Mathlib.Omega.{arith}
use mathlib.Core.Path.{◌≡◌, refl, sym, ap, subst, ◌∙◌}
use mathlib.Core.Logic.{◌↔◌}
use mathlib.Core.List.{List}
use Rattle.state_parts.specs.declared.state.Model.{Model}
use Rattle.state_parts.specs.declared.state.Model.TheVariants.{Off, On}
use Rattle.log_event.specs.declared.Event.{Event}
use Rattle.report_state.specs.declared.answer.Report.{Report}
use Rattle.report_state.specs.Report.{report_of}
use Rattle.step_event.specs.Steps.{step_of}
use Rattle.laws_account.specs.Refused.{Past, none, some, past_of}
use Rattle.laws_account.specs.States.{model_of}
use Rattle.laws_account.specs.Runs.{Lawful}
use Rattle.laws_account.proofs.Agreeing.{outcome-is-step}
use Rattle.laws_account.proofs.Logging.{past-lawful}
use Rattle.laws_third.specs.Demand.{ran_by, ThirdOfLists}
use Rattle.laws_third.proofs.Third.{ran-is, third-of-lists}
use Rattle.laws_demands.specs.Product.{Step, Reporter}
use Rattle.laws_demands.specs.Second.{Moves, Reports}
use Rattle.laws_account.proofs.Reports.{report-is-model}

-- this product after a list of events
abbrev pub after : List Event → Model
after es = ran_by step_of Off es

after_is : (es : List Event) → model_of (past_of none es) ≡ after es
after_is es = sym (ran-is es none tt)

-- a step that moves as the account says moves as this product's, after every list of events
pub as-ours : (step : Step) → Moves step → (es : List Event) (e : Event) → step (after es) e ≡ step_of (after es) e
as-ours step d es e =
    subst (λ (m : Model). step m e ≡ step_of m e) (after_is es)
    (d.moves (past_of none es) (past-lawful es none tt) e ∙ sym (outcome-is-step (past_of none es) (past-lawful es none tt) e))

-- what is reported of a model; 0 of one that is off
abbrev pub current_by : Reporter → Model → ℕ
current_by report Off = 0
current_by report (On s) = (report s).current

-- and so does a report
report-as : (report : Reporter) → Reports report → (h : Past) → Lawful h → current_by report (model_of h) ≡ current_by report_of (model_of h)
report-as report d none l = refl
report-as report d (some r) l = ap (λ (q : Report). q.current) (d.reports r l ∙ sym (report-is-model r))

pub shown-as-ours : (report : Reporter) → Reports report → (es : List Event) → current_by report (after es) ≡ current_by report_of (after es)
shown-as-ours report d es =
    subst (λ (m : Model). current_by report m ≡ current_by report_of m) (after_is es) (report-as report d (past_of none es) (past-lawful es none tt))

-- a current above zero is told by the events, so every product that meets demand 3 has one where this one has
module _ (step : Step) (report : Reporter) (d : ThirdOfLists step report) where
  agrees-in : (es : List Event) (h : Past) → past_of none es ≡ h → (0 < current_by report (ran_by step Off es)) ↔ (0 < current_by report_of (after es))
  agrees-in es none e =
      let one = ap (current_by report) (d.before es e) in
      let other = ap (current_by report_of) (third-of-lists.before es e) in
      (λ h. absurd (omega (arith, one, h)), λ h. absurd (omega (arith, other, h)))
  agrees-in es (some r) e =
      let mine = d.since es r e in
      let ours = third-of-lists.since es r e in
      let one = ap (current_by report) mine.1 in
      let other = ap (current_by report_of) ours.1 in
      let that = mine.2.2.charges in
      let this = ours.2.2.charges in (
        λ h. subst (λ (n : ℕ). 0 < n) (sym other) (this.1 (that.0 (subst (λ (n : ℕ). 0 < n) one h))),
        λ h. subst (λ (n : ℕ). 0 < n) (sym one) (that.1 (this.0 (subst (λ (n : ℕ). 0 < n) other h))),
      )

  pub agrees : (es : List Event) → (0 < current_by report (ran_by step Off es)) ↔ (0 < current_by report_of (after es))
  agrees es = agrees-in es (past_of none es) refl
