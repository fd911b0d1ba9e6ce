-- Demand 3 of a product: "Take any run of accepted events since the latest power-on. .." holds of every list of events that its step is given, of every
-- record of every log, and of every image that its calls for C moved.
use Rattle.std.specs.Prelude.{ℕ, ◌≤◌, ◌≡◌, List, [], ◌∷◌, ◌++◌, length, get_or}
use Rattle.base.specs.Volts.{millivolts_of}
use Rattle.log_number.specs.Promises.{Bytes}
use Rattle.log_event.specs.declared.Event.{Event}
use Rattle.report_state.specs.declared.answer.Report.{Report}
use Rattle.report_state.specs.declared.line.Line.{Line}
use Rattle.step_event.specs.Pages.{blank_line}
use Rattle.laws_account.specs.History.{Run}
use Rattle.laws_account.specs.Refused.{none, some, past_of}
use Rattle.laws_format.specs.Format.{SpellsAll}
use Rattle.laws_third.specs.Demand.{Third, ThirdOfLists}
use Rattle.laws_heads.specs.Third.{ThirdOfImages}
use Rattle.laws_demands.specs.Product.{Walker, Product}

-- a line shows what demand 3 says of a run
pub record Shown (r : Run) (line : Line) : Type 0 where
  pub report : Report
  pub third : Third r report
  pub current : line.current ≡ report.current
  pub voltage : line.voltage ≡ millivolts_of report.voltage

-- whatever log starts with the records of these events: the line of the last of them shows what the accepted ones since the latest power-on tell
abbrev pub ThirdOfLogs : Walker → Type 0
ThirdOfLogs walk =
    (es : List Event) (e : Event) (start rest : List ℕ) → SpellsAll (es ++ (e ∷ [])) start → Bytes (start ++ rest) → length (start ++ rest) ≤ 65536
    → (r : Run) → past_of none (es ++ (e ∷ [])) ≡ some r → Shown r (get_or (walk (start ++ rest)).lines (length es) blank_line)

pub record ThirdDemand (p : Product) : Type 0 where
  pub lists : ThirdOfLists p.step p.report
  pub logs : ThirdOfLogs p.walk
  pub images : ThirdOfImages p.calls
