-- 01, "Slips to exclude": each slip as this product with the slip in it; and two more of the same kind, in the sums of stage times.
use Rattle.std.specs.Prelude.{ℕ, ◌*◌, ◌/◌, Bool, true, ◌&&◌, leb, eqb}
use Rattle.base.specs.Pick.{pick, bit_of}
use Rattle.base.specs.Stamps.{elapsed_of}
use Rattle.state_parts.specs.With.{with_registers, with_cycle, with_words}
use Rattle.state_parts.specs.declared.profile.Profile.{Profile}
use Rattle.state_table.specs.Rows.{digit_of, cell_override}
use Rattle.state_fields.specs.Held.{with_field}
use Rattle.state_parts.specs.declared.band.TsBand.{TsBand}
use Rattle.state_parts.specs.declared.band.TsBand.TheVariants.{Normal, Cool}
use Rattle.state_parts.specs.declared.registers.Registers.{Registers}
use Rattle.state_parts.specs.declared.sample.Sample.{Sample}
use Rattle.state_parts.specs.declared.state.State.{State}
use Rattle.state_parts.specs.declared.state.Model.{Model}
use Rattle.state_parts.specs.declared.state.Model.TheVariants.{Off, On}
use Rattle.settle_bands.specs.Thresholds.{th2_of, ts_off, jeita_on, band_of}
use Rattle.settle_bands.specs.Joined.{pack_band}
use Rattle.settle_bands.specs.Effect.{share_of}
use Rattle.state_parts.specs.Stages.{charging}
use Rattle.settle_all.specs.Gather.{tests_of}
use Rattle.settle_all.specs.Settle.{Bander, settle_with, settle_of}
use Rattle.report_state.specs.Report.{trickle_current, current_in, fast_current, report_of}
use Rattle.step_turns.specs.Turns.{turn_of}
use Rattle.step_turns.specs.declared.later.Later.{Later}
use Rattle.step_turns.specs.declared.later.Later.TheVariants.{Set, Write, TakeFlags, Observe, Service, Reset, WriteRun, ReadFlags}
use Rattle.step_turns.specs.declared.turn.Turn.{Turn}
use Rattle.step_turns.specs.declared.turn.Turn.TheVariants.{Opens, Follows, OpensOutside, FollowsOutside}
use Rattle.step_flags.specs.Edges.{seen_of}
use Rattle.step_kinds.specs.Answers.{Outcome}
use Rattle.step_kinds.specs.Finish.{finish_by, finish_of}
use Rattle.step_kinds.specs.declared.change.Way.TheVariants.{Observes}
use Rattle.step_event.specs.Clock.{units_of, times_of, observed_of}
use Rattle.step_event.specs.Steps.{ended_by, change_of, step_of}
use Rattle.laws_demands.specs.Product.{Step, Reporter}
use Rattle.laws_demands.specs.Wrong.{with_model}

-- "Using a CELL_PIN override from the same write": it is as the written byte has it before the byte is taken
abbrev pub with_override : Bool → Registers → Registers
with_override stands g = with_words g (with_field cell_override (bit_of stands) g.words)

abbrev later_written : Later → State → State
later_written (Set number value) s = s
later_written (Write address byte) s = pick (eqb address cell_override.address) (with_registers s (with_override (eqb (digit_of cell_override byte) 1) s.registers)) s
later_written TakeFlags s = s
later_written (Observe x) s = s
later_written Service s = s
later_written Reset s = s
later_written (WriteRun first raw) s = s
later_written (ReadFlags address) s = s

abbrev pub as_written : Turn → State → State
as_written (Opens p) s = s
as_written (Follows later) s = later_written later s
as_written OpensOutside s = s
as_written FollowsOutside s = s

unfoldable pub same_write : Step
same_write Off e = step_of Off e
same_write (On s) e = step_of (On (as_written (turn_of e) s)) e

-- "scaling precharge by ICHG's band share"
unfoldable pub scales_precharge : Reporter
scales_precharge s = record {
  phase = s.phase;
  current = current_in s.phase (trickle_current s.profile) (s.settings.iprechg * share_of s.profile s.registers (pack_band s.bands) / 100) (fast_current s.profile s.settings s.registers (pack_band s.bands));
  voltage = (report_of s).voltage;
  limit = (report_of s).limit;
}

-- an observation whose time is added otherwise: `counted` has the state with the new sample and the times that it comes to
abbrev later_timed : (State → Sample → State) → State → Later → Outcome → Outcome
later_timed counted s (Set number value) o = o
later_timed counted s (Write address byte) o = o
later_timed counted s TakeFlags o = o
later_timed counted s (Observe x) o = pick (eqb o.number 0) (finish_of (seen_of s) (counted s x) Observes) o
later_timed counted s Service o = o
later_timed counted s Reset o = o
later_timed counted s (WriteRun first raw) o = o
later_timed counted s (ReadFlags address) o = o

abbrev pub timed_by : (State → Sample → State) → State → Turn → Outcome → Outcome
timed_by counted s (Opens p) o = o
timed_by counted s (Follows later) o = later_timed counted s later o
timed_by counted s OpensOutside o = o
timed_by counted s FollowsOutside o = o

abbrev pub with_clock : (State → Sample → State) → Step
with_clock counted Off e = step_of Off e
with_clock counted (On s) e = timed_by counted s (turn_of e) (step_of (On s) e)

-- "charging time to the phase after the sample"
abbrev pub charged_after : State → Sample → State
charged_after s x =
    let observed = observed_of s x in
    with_cycle observed (times_of s.profile (settle_of observed true).phase (units_of s.sample (elapsed_of s.sample.stamp x.stamp)) s.cycle)

unfoldable pub times_after : Step
times_after = with_clock charged_after

-- the half rate by the new sample
abbrev pub rated_by_new : State → Sample → State
rated_by_new s x = with_cycle (observed_of s x) (times_of s.profile s.phase (units_of x (elapsed_of s.sample.stamp x.stamp)) s.cycle)

unfoldable pub halves_by_new : Step
halves_by_new = with_clock rated_by_new

-- times that aren't cleared at a restart: where the cycle was done and charges again, they are those before
abbrev pub times_on : State → State → State
times_on s t =
    pick (s.cycle.done && charging t.phase)
    (with_cycle t (record { trickle = s.cycle.trickle; precharge = s.cycle.precharge; fast = s.cycle.fast; done = t.cycle.done })) t

abbrev pub kept_on : State → Model → Model
kept_on s Off = Off
kept_on s (On t) = On (times_on s t)

unfoldable pub keeps_times : Step
keeps_times Off e = step_of Off e
keeps_times (On s) e = with_model (step_of (On s) e) (kept_on s (step_of (On s) e).model)

-- this product's step, but that it settles by other bands
abbrev pub step_banded : Bander → Step
step_banded band m e = ended_by (finish_by (settle_with band tests_of)) m (change_of m (turn_of e))

-- "judging cool before cold", of each thermistor
unfoldable pub cool_first : Profile → Registers → ℕ → TsBand
cool_first p g ts = pick (ts_off g) Normal (pick (jeita_on g && leb (th2_of p g) ts) Cool (band_of p g ts))

unfoldable pub judges_cool : Step
judges_cool m e = step_banded (λ p g x held. record { first = cool_first p g x.ts; second = cool_first p g x.secondts }) m e
