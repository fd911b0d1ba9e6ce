-- What a power-on leaves, whichever kind says it. 02, R-5: "From there it acts as kind 1 with those codes."; R-8: "Kinds 1 and 9 mean the first".
use Rattle.std.specs.Prelude.{◌<◌, ◌≡◌, ◌≢◌, ◌↔◌, ◌⊎◌}
use Rattle.log_event.specs.declared.Event.{Event}
use Rattle.log_event.specs.declared.Event.TheVariants.{PowerOn, PowerOnResistors, PowerOnEdition}
use Rattle.log_event.specs.declared.spelled.SpelledProfile.{SpelledProfile}
use Rattle.log_event.specs.declared.spelled.SpelledResistors.{SpelledResistors}
use Rattle.state_parts.specs.declared.profile.Profile.{Profile}
use Rattle.state_parts.specs.declared.state.Model.{Model}
use Rattle.state_parts.specs.declared.state.Model.TheVariants.{Off, On}
use Rattle.step_turns.specs.Begins.{Begins}
use Rattle.step_turns.specs.Coded.{coded_of}
use Rattle.step_kinds.specs.Answers.{Outcome, refused_with}

-- "ohms above 100,000"
pub data TooLarge (r : SpelledResistors) : Type 0 where
  at-cell : 100000 < r.cell → TooLarge r
  at-vchg : 100000 < r.vchg → TooLarge r
  at-ichg : 100000 < r.ichg → TooLarge r

-- of any step, on any model
pub record ActsAsCodes (step : Model → Event → Outcome) : Type 0 where
  -- it comes to what kind 1 with the codes comes to, all of it: refusal and place, the model with its flags, so what is reported, pulse, flags handed back
  pub same : (m : Model) (r : SpelledResistors) → ¬ TooLarge r → step m (PowerOnResistors r) ≡ step m (PowerOn (coded_of r))
  -- "ohms above 100,000 are 5"
  pub large : (m : Model) (r : SpelledResistors) → TooLarge r → step m (PowerOnResistors r) ≡ refused_with 5 m
  -- so it is refused exactly if that one is, or if one of the three is too large
  pub refused : (m : Model) (r : SpelledResistors) → ((step m (PowerOnResistors r)).number ≢ 0) ↔ (((step m (PowerOn (coded_of r))).number ≢ 0) ⊎ TooLarge r)

-- of any step, on any model: kind 11 with edition 1 comes to what kind 1 comes to, all of it
abbrev pub FirstActsAsOne : (Model → Event → Outcome) → Type 0
FirstActsAsOne step = (m : Model) (p : SpelledProfile) → step m (PowerOnEdition (record { profile = p; edition = 1 })) ≡ step m (PowerOn p)

-- what is held after an accepted power-on is what its own numbers say
abbrev pub HoldsProfile : Model → Profile → Type 0
HoldsProfile Off p = ⊥
HoldsProfile (On s) p = s.profile ≡ p

abbrev pub HoldsWhatIsSaid : (Model → Event → Outcome) → Type 0
HoldsWhatIsSaid step = (m : Model) (e : Event) (p : Profile) → Begins e p → (step m e).number ≡ 0 → HoldsProfile (step m e).model p
