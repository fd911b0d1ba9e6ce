-- 02, R-1: what the operators of warm shelves may count on, of a step and of what is reported of its states: a pack whose charge ends says done, in every band that charges, and goes on
-- saying so at its charge voltage.
use Rattle.std.specs.Prelude.{◌≡◌, List}
use Rattle.state_parts.specs.Numbers.{phase_number}
use Rattle.state_parts.specs.declared.state.Model.TheVariants.{Off}
use Rattle.log_event.specs.declared.Event.{Event}
use Rattle.laws_account.specs.History.{Run}
use Rattle.laws_account.specs.Refused.{none, some, past_of}
use Rattle.laws_third.specs.Banded.{AtVoltage}
use Rattle.laws_third.specs.Allowed.{Allowed}
use Rattle.laws_third.specs.Stages.{WasDone, Ends}
use Rattle.laws_third.specs.Demand.{ran_by}
use Rattle.laws_demands.specs.Product.{Step, Reporter}
use Rattle.laws_demands.specs.Printed.{report_in}
use Rattle.laws_demands.specs.Ours.{ours}

-- phase 5 is reported after a list of events, refused ones and later power-ons included
abbrev pub SaysDone : Step → Reporter → List Event → Type 0
SaysDone step report es = phase_number (report_in report (ran_by step Off es)).phase ≡ 5

pub record CountedOn (step : Step) (report : Reporter) : Type 0 where
  -- an observation before which phase 4 was held and after which it is judged, with EN_TERM, IBAT < ITERM, no regulation, ends the charge
  pub ends : (es : List Event) (r : Run) → past_of none es ≡ some r → Ends r → SaysDone step report es
  -- and a charge that was done is not restarted with VBAT at or above the charge voltage
  pub stays : (es : List Event) (r : Run) → past_of none es ≡ some r → WasDone r → Allowed r → AtVoltage r → SaysDone step report es

abbrev pub OperatorsHold : Type 0
OperatorsHold = CountedOn ours.step ours.report
