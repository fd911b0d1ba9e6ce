-- A product, by what is told of its calls' answers: what the three demands are said of, so that it can be said of a wrong product that it breaks them.
use Rattle.std.specs.Prelude.{ℕ, List}
use Rattle.base.specs.Told.{Told}
use Rattle.log_event.specs.declared.Event.{Event}
use Rattle.state_parts.specs.declared.state.State.{State}
use Rattle.state_parts.specs.declared.state.Model.{Model}
use Rattle.report_state.specs.declared.answer.Report.{Report}
use Rattle.report_state.specs.declared.answer.Stat.{Stat}
use Rattle.report_state.specs.declared.line.Line.{Line}
use Rattle.step_kinds.specs.Answers.{Outcome}
use Rattle.c_calls.specs.Promises.{Calls}
use Rattle.laws_format.specs.Readers.{Reader, Writer}
use Rattle.laws_pairs.specs.Compared.{Comparer}

-- one event on a model
abbrev pub Step : Type 0
Step = Model → Event → Outcome

-- what is reported of a state
abbrev pub Reporter : Type 0
Reporter = State → Report

-- a run of a log, in numbers: a line for each record, and the last line's three
pub record LogLines : Type 0 where
  pub lines : List Line
  pub last : List ℕ

abbrev pub Walker : Type 0
Walker = List ℕ → LogLines

pub record Product : Type 0 where
  pub step : Step
  pub report : Reporter
  -- STAT of a state, and the byte of a model's register
  pub stat : State → Stat
  pub register : Model → ℕ → Told ℕ
  pub read : Reader
  pub write : Writer
  pub compare : Comparer
  pub walk : Walker
  -- the bytes that runlog prints of its input, and partlog of its two files
  pub runlog : List ℕ → List ℕ
  pub partlog : List ℕ → List ℕ → List ℕ
  -- the calls for C
  pub calls : Calls
