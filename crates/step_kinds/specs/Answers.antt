-- 01: what an event comes to, in the paper's terms.
use Rattle.std.specs.Prelude.{ℕ, Bool, false, Result, Ok, Err}
use Rattle.base.specs.Refusals.{refusal_number}
use Rattle.base.specs.declared.refusal.Refusal.{Refusal}
use Rattle.state_parts.specs.Edges.{no_flags}
use Rattle.state_parts.specs.declared.state.Model.{Model}
use Rattle.state_parts.specs.declared.state.Model.TheVariants.{On}
use Rattle.step_kinds.specs.declared.answer.Finished.{Finished}
use Rattle.step_kinds.specs.declared.answer.Refused.{Refused}

-- its number (0 or the refusal's), the refusal's place, the model after it, whether it pulses, and the flags that it hands back
pub record Outcome : Type 0 where
  pub number : ℕ
  pub place : ℕ
  pub model : Model
  pub pulse : Bool
  pub handed : ℕ

-- "A refusal returns its number, place and the old state."
abbrev pub refused_at : ℕ → ℕ → Model → Outcome
refused_at number place m = record { number = number; place = place; model = m; pulse = false; handed = no_flags }

-- "An event given outside a log has place 0."
abbrev pub refused_with : ℕ → Model → Outcome
refused_with number m = refused_at number 0 m

abbrev pub finished_told : Finished → Outcome
finished_told f = record { number = 0; place = 0; model = On f.state; pulse = f.pulse; handed = f.handed }

-- of a model that its caller still has
abbrev pub verdict_told : Model → Result Finished Refusal → Outcome
verdict_told m (Ok f) = finished_told f
verdict_told m (Err r) = refused_with (refusal_number r) m

abbrev pub stepped_told : Result Finished Refused → Outcome
stepped_told (Ok f) = finished_told f
stepped_told (Err r) = refused_at (refusal_number r.refusal) r.place r.model
