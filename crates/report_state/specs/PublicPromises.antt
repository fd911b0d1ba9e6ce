-- What `report` and `stat` promise, and that each promise allows one outcome.
use Rattle.std.specs.Prelude.{◌≡◌}
use Rattle.base.specs.Outcomes.{One}
use Rattle.state_parts.specs.declared.state.State.{State}
use Rattle.report_state.specs.Report.{report_of}
use Rattle.report_state.specs.Stats.{stat_of}
use Rattle.report_state.specs.declared.answer.Report.{Report}
use Rattle.report_state.specs.declared.answer.Stat.{Stat}

abbrev pub ReportPromise : State → Report → Type 0
ReportPromise s r = r ≡ report_of s

abbrev pub StatPromise : State → Stat → Type 0
StatPromise s r = r ≡ stat_of s

-- "equal inputs allow one outcome"
pub record OneOutcome : Type 0 where
  pub report : (s : State) → One (ReportPromise s)
  pub stat : (s : State) → One (StatPromise s)
