-- Wrong products, each this product with one thing changed: three that break demand 1, those that 01 names in "What the contracts owe", and those that are right only where an easier
-- demand would look.
use Rattle.std.specs.Prelude.{ℕ, List, [], ◌∷◌, ◌++◌, length, take, drop, Bool, true, false, ◌&&◌, eqb}
use Rattle.base.specs.Pick.{pick}
use Rattle.base.specs.Refusals.{refusal_number}
use Rattle.base.specs.Volts.{pack_of}
use Rattle.base.specs.Writing.{put, written}
use Rattle.base.specs.declared.refusal.Refusal.{Refusal}
use Rattle.state_parts.specs.With.{with_cycle}
use Rattle.state_parts.specs.declared.phase.Phase.TheVariants.{Idle}
use Rattle.state_parts.specs.declared.state.State.{State}
use Rattle.state_parts.specs.declared.state.Model.{Model}
use Rattle.state_parts.specs.declared.state.Model.TheVariants.{Off, On}
use Rattle.log_record.specs.Records.{spell_event, end}
use Rattle.step_kinds.specs.Answers.{Outcome, refused_with}
use Rattle.step_event.specs.Steps.{step_of}
use Rattle.state_parts.specs.declared.cycle.Cycle.{Cycle}
use Rattle.step_turns.specs.Turns.{turn_of}
use Rattle.step_turns.specs.declared.turn.Turn.{Turn}
use Rattle.step_turns.specs.declared.turn.Turn.TheVariants.{Opens, Follows, OpensOutside, FollowsOutside}
use Rattle.settle_bands.specs.Joined.{is_band}
use Rattle.settle_bands.specs.Holding.{bands_of}
use Rattle.laws_account.specs.Cycles.{Stage, trickle, precharge, fast}
use Rattle.laws_format.specs.Readers.{Reader, Writer}
use Rattle.laws_demands.specs.Product.{Step, Reporter, Walker}
use Rattle.laws_demands.specs.Ours.{our_walk}

-- an outcome with another model
abbrev pub with_model : Outcome → Model → Outcome
with_model o m = record { number = o.number; place = o.place; model = m; pulse = o.pulse; handed = o.handed }

-- a refused event that changes the model: what was held is gone
unfoldable pub forgets : Step
forgets m e = pick (eqb (step_of m e).number 0) (step_of m e) (with_model (step_of m e) Off)

-- a reader that answers no byte string
unfoldable pub stops_always : Reader
stops_always bytes at = end

-- a refused write that changes a lent buffer: the record as far as the room goes
unfoldable pub spills : Writer
spills e buffer = (written (spell_event e) buffer, take (length buffer) (spell_event e ++ drop (length (spell_event e)) buffer))

-- "A model that refuses always", with whatever number
unfoldable pub refuses_always : Refusal → Step
refuses_always r m e = refused_with (refusal_number r) m

-- "reports zeros always"
unfoldable pub reports_zeros : Reporter
reports_zeros s = record { phase = Idle; current = 0; voltage = pack_of 0; limit = 0 }

-- "or ignores events": every answer is right, and the model stays
unfoldable pub ignores_events : Step
ignores_events m e = with_model (step_of m e) m

-- "one that works only on the first event": the power-on
unfoldable pub works_once : Step
works_once Off e = step_of Off e
works_once (On s) e = with_model (step_of (On s) e) (On s)

-- "invented stage times": a stage's is whatever number
abbrev pub timed : Stage → ℕ → Cycle → Cycle
timed trickle time y = record { trickle = time; precharge = y.precharge; fast = y.fast; done = y.done }
timed precharge time y = record { trickle = y.trickle; precharge = time; fast = y.fast; done = y.done }
timed fast time y = record { trickle = y.trickle; precharge = y.precharge; fast = time; done = y.done }

abbrev pub with_time : Stage → ℕ → Model → Model
with_time stage time Off = Off
with_time stage time (On s) = On (with_cycle s (timed stage time s.cycle))

unfoldable pub invents_times : Stage → ℕ → Step
invents_times stage time m e = with_model (step_of m e) (with_time stage time (step_of m e).model)

-- "or record counts": whatever number of records read
abbrev pub counting : ℕ → List ℕ → List ℕ
counting count [] = []
counting count (n ∷ more) = count ∷ more

unfoldable pub invents_counts : ℕ → Walker
invents_counts count bytes = record { lines = (our_walk bytes).lines; last = counting count (our_walk bytes).last }

-- "A constant log writer": whatever bytes, for every event
unfoldable pub writes_constant : List ℕ → Writer
writes_constant bytes e buffer = (written bytes buffer, put bytes buffer)

-- throws every event away on a state whose bands would be judged otherwise again: after every run they wouldn't
abbrev pub judged_so : State → Bool
judged_so s =
    let again = bands_of s.profile s.registers s.sample s.bands in
    is_band s.bands.first again.first && is_band s.bands.second again.second

unfoldable pub drops_stray : Step
drops_stray Off e = step_of Off e
drops_stray (On s) e = pick (judged_so s) (step_of (On s) e) (with_model (step_of (On s) e) (On s))

-- refuses every second power-on
abbrev pub opens : Turn → Bool
opens (Opens p) = true
opens (Follows later) = false
opens OpensOutside = false
opens FollowsOutside = false

unfoldable pub powers_once : Step
powers_once Off e = step_of Off e
powers_once (On s) e = pick (opens (turn_of e)) (refused_with 5 (On s)) (step_of (On s) e)
