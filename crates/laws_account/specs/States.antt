-- The model's state as the account has it, each field what the account says of the run; and what an event comes to.
use Rattle.std.specs.Prelude.{ℕ, ◌*◌, min, Bool, false, eqb}
use Rattle.base.specs.Pick.{pick}
use Rattle.base.specs.Volts.{pack_of}
use Rattle.state_parts.specs.Edges.{no_flags}
use Rattle.state_parts.specs.declared.cycle.Cycle.{Cycle}
use Rattle.state_parts.specs.declared.latches.Latches.{Latches}
use Rattle.state_parts.specs.declared.phase.Phase.{Phase}
use Rattle.state_parts.specs.declared.registers.Registers.{Registers}
use Rattle.state_table.specs.Rows.{Field}
use Rattle.state_fields.specs.Held.{gathered}
use Rattle.state_parts.specs.declared.settings.Settings.{Settings}
use Rattle.state_parts.specs.declared.state.State.{State}
use Rattle.state_parts.specs.declared.state.Model.{Model}
use Rattle.state_parts.specs.declared.state.Model.TheVariants.{Off, On}
use Rattle.state_parts.specs.declared.watchdog.Watchdog.{Watchdog}
use Rattle.log_event.specs.declared.Event.{Event}
use Rattle.step_kinds.specs.Answers.{Outcome, refused_with}
use Rattle.laws_account.specs.History.{Run}
use Rattle.laws_account.specs.Held.{profile_of, sample_of, unserved, cells_of, field_at}
use Rattle.laws_account.specs.Valued.{setting_of}
use Rattle.laws_account.specs.Judged.{input_ok, input_over, short, low, pack_over}
use Rattle.laws_account.specs.Bands.{bands_at}
use Rattle.laws_account.specs.Cycles.{trickle, precharge, fast, is_done, time_in, phase_at}
use Rattle.laws_account.specs.Flagged.{flags_by, flagged, handed_back, pulsed}
use Rattle.laws_account.specs.Refused.{Past, none, some, refusal_of, next_of}

-- settings of these numbers
abbrev pub numbered : (ℕ → ℕ) → Settings
numbered value = record {
  vreg = pack_of (value 1);
  ichg = value 2;
  iprechg = value 3;
  iterm = value 4;
  iindpm = value 5;
  vsysmin = pack_of (value 6);
  lowv = value 7;
  vrechg = value 8;
  enchg = eqb (value 9) 1;
  enterm = eqb (value 10) 1;
  enhiz = eqb (value 11) 1;
  enextilim = eqb (value 12) 1;
  disstat = eqb (value 13) 1;
  masks = value 14;
}

unfoldable pub settings_at : Run → Settings
settings_at r = numbered (λ number. setting_of number r)

-- the stored fields, each with its code
unfoldable pub registers_at : Run → Registers
registers_at r = record { words = gathered (profile_of r) (λ (f : Field). field_at f r); cells = cells_of r }

unfoldable pub latches_at : Run → Latches
latches_at r = record { inputok = input_ok r; inputover = input_over r; short = short r; low = low r; packover = pack_over r }

-- "it rests": the count is held as the lower of the period and the time since it was zeroed
unfoldable pub watchdog_at : Run → Watchdog
watchdog_at r = record { count = min (unserved r) ((profile_of r).watchdog * 1000) }

module _ (P : Run → Phase) where
  unfoldable pub cycle_at : Run → Cycle
  cycle_at r = record { trickle = time_in P trickle r; precharge = time_in P precharge r; fast = time_in P fast r; done = is_done P r }

  unfoldable pub flags_at : Run → ℕ
  flags_at r = flags_by (λ k. flagged P k r)

  unfoldable pub state_by : Run → State
  state_by r = record {
    profile = profile_of r;
    settings = settings_at r;
    registers = registers_at r;
    latches = latches_at r;
    cycle = cycle_at r;
    watchdog = watchdog_at r;
    sample = sample_of r;
    phase = P r;
    bands = bands_at r;
    flags = flags_at r;
  }

abbrev pub state_of : Run → State
state_of = state_by phase_at

-- the model after what has come before
abbrev pub model_of : Past → Model
model_of none = Off
model_of (some r) = On (state_of r)

-- whether its last event pulsed, and the flags that it handed back
abbrev pub pulse_after : Past → Bool
pulse_after none = false
pulse_after (some r) = pulsed phase_at r

abbrev pub handed_after : Past → ℕ
handed_after none = no_flags
handed_after (some r) = handed_back phase_at r

-- what an event comes to: "A refusal returns its number, place and the old state."
abbrev pub comes_to : ℕ → Past → Past → Outcome
comes_to refusal before after =
    pick (eqb refusal 0)
    (record { number = 0; place = 0; model = model_of after; pulse = pulse_after after; handed = handed_after after })
    (refused_with refusal (model_of before))

unfoldable pub outcome_of : Past → Event → Outcome
outcome_of h e = comes_to (refusal_of h e) h (next_of h e)
