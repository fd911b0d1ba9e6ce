-- 01, "Rows to prove": what a row puts in, and what comes out of it by the definitions that the public calls' promises cite.
use Rattle.std.specs.Prelude.{ℕ, List, [], ◌∷◌}
use Prim.Native.Char.{code}
use Prim.Native.String.{String}
use Prim.Native.String as text
use Rattle.base.specs.Found.{Found, found, refused}
use Rattle.base.specs.Stamps.{elapsed_of}
use Rattle.base.specs.Volts.{millivolts_of}
use Rattle.state_parts.specs.Numbers.{band_number, phase_number}
use Rattle.state_parts.specs.declared.state.State.{State}
use Rattle.state_parts.specs.declared.state.Model.{Model}
use Rattle.state_parts.specs.declared.state.Model.TheVariants.{Off, On}
use Rattle.log_number.specs.Number.{number_at}
use Rattle.log_event.specs.declared.Event.{Event}
use Rattle.log_record.specs.Records.{spell_event}
use Rattle.settle_bands.specs.Joined.{pack_band}
use Rattle.state_settings.specs.Numbered.{held_of}
use Rattle.report_state.specs.Report.{report_of}
use Rattle.step_event.specs.Steps.{step_of}
use Rattle.step_text.specs.Runs.{run_text}

-- what is asked of a state
pub data Asked : Type 0 where
  setting : ℕ → Asked
  band : Asked
  phase : Asked
  current : Asked
  voltage : Asked
  input_limit : Asked

abbrev pub told : State → Asked → ℕ
told s (setting number) = held_of s.settings number
told s band = band_number (pack_band s.bands)
told s phase = phase_number (report_of s).phase
told s current = (report_of s).current
told s voltage = millivolts_of (report_of s).voltage
told s input_limit = (report_of s).limit

abbrev pub all_told : Model → List Asked → List ℕ
all_told m [] = []
all_told Off (a ∷ more) = []
all_told (On s) (a ∷ more) = told s a ∷ all_told (On s) more

-- events one after the other, on a model that is off
abbrev pub after : Model → List Event → Model
after m [] = m
after m (e ∷ es) = after (step_of m e).model es

-- a log, an event or a byte string
pub data Case : Type 0 where
  -- the bytes that runlog is given: the bytes that it prints
  log : List ℕ → Case
  -- events: what is asked of the state after them
  events : List Event → List Asked → Case
  -- two stamps: how much the second is ahead
  stamps : ℕ → ℕ → Case
  -- an event: its log spelling
  spelling : Event → Case
  -- the bytes of a number: its refusal
  number : List ℕ → Case

abbrev pub refusal_of : Found ℕ → List ℕ
refusal_of (found value next) = []
refusal_of (refused n place) = n ∷ []

abbrev pub given : Case → List ℕ
given (log bytes) = run_text bytes
given (events es asked) = all_told (after Off es) asked
given (stamps earlier later) = elapsed_of earlier later ∷ []
given (spelling e) = spell_event e
given (number bytes) = refusal_of (number_at bytes 0)

-- the bytes of a text
abbrev pub bytes_of : String → List ℕ
bytes_of text.[] = []
bytes_of (text.◌∷◌ c s) = code c ∷ bytes_of s
