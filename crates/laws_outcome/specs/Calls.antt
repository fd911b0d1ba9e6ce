-- "For each public call and every input, refusals too, the contract settles result and lent bytes": each public call's promise allows one outcome. A promise that has a
-- name stands in its crate's specs/PublicPromises, beside the theorem that it allows one outcome, and the contract above the call cites it by that name.
use Rattle.base.specs.Outcomes.{PlainSettles}
use Rattle.base.specs.PublicPromises as base
use Rattle.log_number.specs.PublicPromises as number
use Rattle.log_raw.specs.PublicPromises as raw
use Rattle.log_event.specs.PublicPromises as kinds
use Rattle.log_record.specs.PublicPromises as log
use Rattle.log_reader.specs.PublicPromises as reader
use Rattle.log_pairs.specs.PublicPromises as logs
use Rattle.state_parts.specs.PublicPromises as parts
use Rattle.state_registers.specs.PublicPromises as registers
use Rattle.state_runs.specs.PublicPromises as runs
use Rattle.report_registers.specs.PublicPromises as reads
use Rattle.report_state.specs.PublicPromises as state
use Rattle.report_text.specs.PublicPromises as text
use Rattle.report_pages.specs.PublicPromises as pages
use Rattle.step_kinds.specs.PublicPromises as change
use Rattle.step_event.specs.PublicPromises as step
use Rattle.step_text.specs.PublicPromises as print
use Rattle.c_words.specs.PublicPromises as words
use Rattle.c_image.specs.PublicPromises as image
use Rattle.c_event.specs.PublicPromises as given
use Rattle.c_calls.specs.PublicPromises as firmware

pub record EveryCall : Type 1 where
  -- each call whose promise has no name: it is `r ≡ ..`
  pub plain : PlainSettles
  -- the crates that have calls with a named promise, in the order of the crates
  pub base : base.OneOutcome
  pub log-number : number.OneOutcome
  pub log-raw : raw.OneOutcome
  pub log-event : kinds.OneOutcome
  pub log-record : log.OneOutcome
  pub log-reader : reader.OneOutcome
  pub log-pairs : logs.OneOutcome
  pub state-parts : parts.OneOutcome
  pub state-registers : registers.OneOutcome
  pub state-runs : runs.OneOutcome
  pub report-registers : reads.OneOutcome
  pub report-state : state.OneOutcome
  pub report-text : text.OneOutcome
  pub report-pages : pages.OneOutcome
  pub step-kinds : change.OneOutcome
  pub step-event : step.OneOutcome
  pub step-text : print.OneOutcome
  pub c-words : words.OneOutcome
  pub c-image : image.OneOutcome
  pub c-event : given.OneOutcome
  pub c-calls : firmware.OneOutcome
