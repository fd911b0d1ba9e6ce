-- Each crate's theorem, one beside the other.
use Rattle.base.proofs.Outcomes.{plain-settles}
use Rattle.base.proofs.Contracts as base
use Rattle.log_number.proofs.Contracts as number
use Rattle.log_raw.proofs.Contracts as raw
use Rattle.log_event.proofs.Contracts as kinds
use Rattle.log_record.proofs.Contracts as log
use Rattle.log_reader.proofs.Contracts as reader
use Rattle.log_pairs.proofs.Contracts as logs
use Rattle.state_parts.proofs.Contracts as parts
use Rattle.state_registers.proofs.Contracts as registers
use Rattle.state_runs.proofs.Contracts as runs
use Rattle.report_registers.proofs.Contracts as reads
use Rattle.report_state.proofs.Contracts as state
use Rattle.report_text.proofs.Contracts as text
use Rattle.report_pages.proofs.Contracts as pages
use Rattle.step_kinds.proofs.Contracts as change
use Rattle.step_event.proofs.Contracts as step
use Rattle.step_text.proofs.Contracts as print
use Rattle.c_words.proofs.Contracts as words
use Rattle.c_image.proofs.Contracts as image
use Rattle.c_event.proofs.Contracts as given
use Rattle.c_calls.proofs.Contracts as firmware
use Rattle.laws_outcome.specs.Calls.{EveryCall}

pub every_call : EveryCall
every_call =
    record {
      plain = plain-settles;
      base = base.one-outcome;
      log-number = number.one-outcome;
      log-raw = raw.one-outcome;
      log-event = kinds.one-outcome;
      log-record = log.one-outcome;
      log-reader = reader.one-outcome;
      log-pairs = logs.one-outcome;
      state-parts = parts.one-outcome;
      state-registers = registers.one-outcome;
      state-runs = runs.one-outcome;
      report-registers = reads.one-outcome;
      report-state = state.one-outcome;
      report-text = text.one-outcome;
      report-pages = pages.one-outcome;
      step-kinds = change.one-outcome;
      step-event = step.one-outcome;
      step-text = print.one-outcome;
      c-words = words.one-outcome;
      c-image = image.one-outcome;
      c-event = given.one-outcome;
      c-calls = firmware.one-outcome;
    }
