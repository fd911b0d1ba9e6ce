-- What an observation leaves, whichever kind says it. 02, R-7: "Kind 10 is kind 5 with the second value right after the first; kind 5 stands for two equal ones."
use Rattle.std.specs.Prelude.{◌≡◌}
use Rattle.log_event.specs.declared.Event.{Event}
use Rattle.log_event.specs.declared.Event.TheVariants.{Observe, ObserveTwo}
use Rattle.log_event.specs.declared.spelled.SpelledSample.{SpelledSample}
use Rattle.log_event.specs.declared.spelled.SpelledTwo.{SpelledTwo}
use Rattle.state_parts.specs.declared.sample.Sample.{Sample}
use Rattle.state_parts.specs.declared.state.Model.{Model}
use Rattle.state_parts.specs.declared.state.Model.TheVariants.{Off, On}
use Rattle.settle_all.specs.Theorems.{other_way}
use Rattle.step_turns.specs.Sampled.{SaysSample}
use Rattle.step_kinds.specs.Answers.{Outcome}

-- of any step, on any model: with two equal values it comes to what kind 5 comes to, all of it: refusal and place, the model with its flags, so what is reported, pulse, flags handed back
abbrev pub EqualActAsFive : (Model → Event → Outcome) → Type 0
EqualActAsFive step = (m : Model) (x : SpelledSample) → step m (ObserveTwo (record { sample = x; second = x.ts })) ≡ step m (Observe x)

-- it doesn't matter which thermistor is which: with its two values in each other's place, on a model that holds their bands so, an observation comes to the same, but that values and bands are then held so
abbrev pub exchanged_two : SpelledTwo → SpelledTwo
exchanged_two t =
    let s = t.sample in
    record { sample = record { stamp = s.stamp; input = s.input; pack = s.pack; ibat = s.ibat; ts = t.second; bits = s.bits }; second = s.ts }

abbrev pub held_other_way : Model → Model
held_other_way Off = Off
held_other_way (On s) = On (other_way s)

pub record SameOtherWay (one other : Outcome) : Type 0 where
  pub number : other.number ≡ one.number
  pub place : other.place ≡ one.place
  pub pulse : other.pulse ≡ one.pulse
  pub handed : other.handed ≡ one.handed
  pub model : one.number ≡ 0 → other.model ≡ held_other_way one.model

abbrev pub ExchangedActAlike : (Model → Event → Outcome) → Type 0
ExchangedActAlike step = (m : Model) (t : SpelledTwo) → SameOtherWay (step m (ObserveTwo t)) (step (held_other_way m) (ObserveTwo (exchanged_two t)))

-- what is held after an accepted observation is what its own numbers say, both thermistors' among them
abbrev pub HoldsSample : Model → Sample → Type 0
HoldsSample Off x = ⊥
HoldsSample (On s) x = s.sample ≡ x

abbrev pub HoldsWhatIsObserved : (Model → Event → Outcome) → Type 0
HoldsWhatIsObserved step = (m : Model) (e : Event) (x : Sample) → SaysSample e x → (step m e).number ≡ 0 → HoldsSample (step m e).model x
