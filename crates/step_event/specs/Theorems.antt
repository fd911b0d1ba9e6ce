-- What is proved of every step: of every model and every event.
use Rattle.std.specs.Prelude.{◌≡◌, true, false, ◌≢◌}
use Rattle.state_parts.specs.Edges.{no_flags}
use Rattle.state_parts.specs.declared.state.Model.{Model}
use Rattle.log_event.specs.declared.Event.{Event}
use Rattle.step_kinds.specs.Answers.{Outcome}
use Rattle.step_event.specs.Steps.{model_ok, step_of}

-- "A refusal returns its number, place and the old state." "An event given outside a log has place 0." "Refused records pulse 0"; and nothing is handed back
pub record Untouched (m : Model) (o : Outcome) : Type 0 where
  pub place : o.place ≡ 0
  pub model : o.model ≡ m
  pub pulse : o.pulse ≡ false
  pub handed : o.handed ≡ no_flags

abbrev pub RefusedLeaves : Type 0
RefusedLeaves = (m : Model) (e : Event) → (step_of m e).number ≢ 0 → Untouched m (step_of m e)

-- "every model that accepted events make passes", whatever the model was before
abbrev pub AcceptedPasses : Type 0
AcceptedPasses = (m : Model) (e : Event) → (step_of m e).number ≡ 0 → model_ok (step_of m e).model ≡ true

-- so every event, accepted or refused, leaves a model that passes one that passes
abbrev pub StepKeeps : Type 0
StepKeeps = (m : Model) (e : Event) → model_ok m ≡ true → model_ok (step_of m e).model ≡ true
