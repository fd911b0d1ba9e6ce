-- What is printed of a log, in numbers by any step, report and reader, and the text of such numbers: "each record gives: number, kind, answer (0 or refusal), phase, current, voltage, input limit, pulse, flags" and
-- "Last: `end`, records read, code (0 or 1-4), offset of the log's end or the unreadable record": of that record, what decided it, as the reader tells it (02, R-4).
use Rattle.std.specs.Prelude.{ℕ, zero, suc, List, [], ◌∷◌, ◌++◌, length}
use Rattle.base.specs.Pick.{bit_of}
use Rattle.base.specs.Volts.{pack_of, millivolts_of}
use Rattle.state_parts.specs.Edges.{no_flags}
use Rattle.state_parts.specs.Numbers.{phase_number}
use Rattle.state_parts.specs.declared.phase.Phase.TheVariants.{Idle}
use Rattle.state_parts.specs.declared.state.Model.{Model}
use Rattle.state_parts.specs.declared.state.Model.TheVariants.{Off, On}
use Rattle.log_event.specs.declared.Event.{Event}
use Rattle.log_event.specs.declared.Event.TheVariants.{PowerOn, Set, Write, TakeFlags, Observe, Service, Reset, PowerOnResistors, ObserveTwo, PowerOnEdition, WriteRun, ReadFlags}
use Rattle.log_record.specs.Records.{Met, met, refused, end}
use Rattle.step_kinds.specs.Answers.{Outcome}
use Rattle.report_state.specs.declared.answer.Report.{Report}
use Rattle.report_state.specs.declared.line.Line.{Line}
use Rattle.laws_format.specs.Readers.{Reader}
use Rattle.laws_pairs.specs.Text.{LineText, EndText}
use Rattle.laws_demands.specs.Product.{Step, Reporter, LogLines}

-- "all else is the state held, zeros before power-on"
abbrev pub report_in : Reporter → Model → Report
report_in report Off = record { phase = Idle; current = 0; voltage = pack_of 0; limit = 0 }
report_in report (On s) = report s

abbrev pub flags_in : Model → ℕ
flags_in Off = no_flags
flags_in (On s) = s.flags

-- "kind": 1 power-on, 2 set, 3 write, 4 take flags, 5 observe, 6 service watchdog, 7 register reset; 02, R-5: 9 power-on by its resistors; R-7: 10 an observation of two thermistors; R-8: 11 a power-on with an edition; R-3: 8 a run of written bytes, 14 a read of a flag register
abbrev pub kind_number : Event → ℕ
kind_number (PowerOn p) = 1
kind_number (Set number value) = 2
kind_number (Write address byte) = 3
kind_number TakeFlags = 4
kind_number (Observe x) = 5
kind_number Service = 6
kind_number Reset = 7
kind_number (PowerOnResistors r) = 9
kind_number (ObserveTwo t) = 10
kind_number (PowerOnEdition v) = 11
kind_number (WriteRun address raw) = 8
kind_number (ReadFlags address) = 14

-- "Report and flags are those after the record"
unfoldable pub line_by : Reporter → ℕ → Event → Outcome → Line
line_by report number e o =
    let r = report_in report o.model in
    record {
      number = number;
      kind = kind_number e;
      answer = o.number;
      phase = phase_number r.phase;
      current = r.current;
      voltage = millivolts_of r.voltage;
      limit = r.limit;
      pulse = bit_of o.pulse;
      flags = flags_in o.model;
    }

-- the lines of events on a model, numbered from the one after `number`: each event on the model that the one before it left, refused or not
unfoldable pub lines_by : Step → Reporter → Model → ℕ → List Event → List Line
lines_by step report m number [] = []
lines_by step report m number (e ∷ es) = line_by report (suc number) e (step m e) ∷ lines_by step report (step m e).model (suc number) es

-- a log as it was read: its events, a code, and where it ends or can't be read
pub record Log : Type 0 where
  pub events : List Event
  pub code : ℕ
  pub offset : ℕ

abbrev pub read_on : ℕ → Met → (ℕ → Log) → Log
read_on at (met e next) more = record { events = e ∷ (more next).events; code = (more next).code; offset = (more next).offset }
read_on at (refused number place) more = record { events = []; code = number; offset = place }
read_on at end more = record { events = []; code = 0; offset = at }

-- from a place on, at most so many records
unfoldable pub log_from : Reader → ℕ → List ℕ → ℕ → Log
log_from read zero bytes at = record { events = []; code = 0; offset = at }
log_from read (suc most) bytes at = read_on at (read bytes at) (λ next. log_from read most bytes next)

-- a whole log: it has no more records than bytes
abbrev pub log_by : Reader → List ℕ → Log
log_by read bytes = log_from read (suc (length bytes)) bytes 0

-- and on a model that is off
unfoldable pub printed_by : Step → Reporter → Reader → List ℕ → LogLines
printed_by step report read bytes =
    let log = log_by read bytes in
    record { lines = lines_by step report Off 0 log.events; last = length log.events ∷ log.code ∷ log.offset ∷ [] }

-- 13: "program input above 65,536 bytes": "it prints only `end 0 13 0`"
abbrev pub refused_run : LogLines
refused_run = record { lines = []; last = 0 ∷ 13 ∷ 0 ∷ [] }

abbrev pub line_numbers : Line → List ℕ
line_numbers l = l.number ∷ l.kind ∷ l.answer ∷ l.phase ∷ l.current ∷ l.voltage ∷ l.limit ∷ l.pulse ∷ l.flags ∷ []

-- "in decimal, one space apart": a line after the other, and the last one
pub data RunText : List Line → List ℕ → List ℕ → Type 0 where
  last-line : (records code offset : ℕ) (text : List ℕ) → EndText records code offset text → RunText [] (records ∷ code ∷ offset ∷ []) text
  line-then : (l : Line) (ls : List Line) (last text rest : List ℕ) → LineText (line_numbers l) text → RunText ls last rest → RunText (l ∷ ls) last (text ++ rest)
