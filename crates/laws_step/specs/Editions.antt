-- 02, R-8: two models that differ in the edition of the pack's sheet alone, and an event on each.
use Rattle.std.specs.Prelude.{ℕ, ◌≡◌, ◌⊎◌}
use Rattle.log_event.specs.declared.Event.{Event}
use Rattle.log_event.specs.declared.Event.TheVariants.{PowerOnEdition}
use Rattle.log_event.specs.declared.spelled.SpelledProfile.{SpelledProfile}
use Rattle.state_parts.specs.With.{with_profile, with_edition}
use Rattle.state_parts.specs.declared.state.State.{State}
use Rattle.state_parts.specs.declared.state.Model.{Model}
use Rattle.state_parts.specs.declared.state.Model.TheVariants.{Off, On}
use Rattle.settle_bands.specs.Holding.{fresh_bands}
use Rattle.step_kinds.specs.Answers.{Outcome}

-- a state, and a model, of the same profile in another edition
abbrev pub in_edition : ℕ → State → State
in_edition n s = with_profile s (with_edition s.profile n)

abbrev pub model_in : ℕ → Model → Model
model_in n Off = Off
model_in n (On s) = On (in_edition n s)

-- what is held of each thermistor is what the first edition judges: the hold keeps nothing else
abbrev pub JudgedAfresh : Model → Type 0
JudgedAfresh Off = Unit {0}
JudgedAfresh (On s) = s.bands ≡ fresh_bands s.profile s.registers s.sample s.bands

-- the outcomes of an event are the same, but that the edition held is still the first: unless the event is a power-on, which says its own
pub record AlikeButEdition (first second : Outcome) : Type 0 where
  pub number : first.number ≡ second.number
  pub place : first.place ≡ second.place
  pub pulse : first.pulse ≡ second.pulse
  pub handed : first.handed ≡ second.handed
  pub model : (first.model ≡ model_in 1 second.model) ⊎ (first.model ≡ second.model)

-- of any step: where an event on a model of the second edition leaves nothing kept, on the same model of the first it comes to the same
abbrev pub EditionsActAlike : (Model → Event → Outcome) → Type 0
EditionsActAlike step =
    (s : State) (e : Event) → s.profile.edition ≡ 2 → JudgedAfresh (step (On s) e).model → AlikeButEdition (step (On (in_edition 1 s)) e) (step (On s) e)

-- and a power-on of each edition, on any model
abbrev pub EditionsOpenAlike : (Model → Event → Outcome) → Type 0
EditionsOpenAlike step =
    (m : Model) (p : SpelledProfile)
    → let opening : ℕ → Event = λ n. PowerOnEdition (record { profile = p; edition = n }) in
    JudgedAfresh (step m (opening 2)).model → AlikeButEdition (step m (opening 1)) (step m (opening 2))
