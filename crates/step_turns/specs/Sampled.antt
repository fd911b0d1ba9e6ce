-- The sample that an observation says, told by its own numbers, whichever kind brought them.
use Rattle.std.specs.Prelude.{◌≡◌}
use Rattle.log_event.specs.declared.Event.{Event}
use Rattle.log_event.specs.declared.Event.TheVariants.{Observe, ObserveTwo}
use Rattle.log_event.specs.declared.spelled.SpelledSample.{SpelledSample}
use Rattle.state_parts.specs.declared.sample.Sample.{Sample}

-- a sample as kind 5 says it, but for the second thermistor
abbrev pub by_sample : Sample → SpelledSample
by_sample x = record { stamp = x.stamp; input = x.input; pack = x.pack; ibat = x.ibat; ts = x.ts; bits = x.bits }

-- 02, R-7: "Kind 10 is kind 5 with the second value right after the first; kind 5 stands for two equal ones."
pub data SaysSample : Event → Sample → Type 0 where
  one_value : (x : Sample) → x.secondts ≡ x.ts → SaysSample (Observe (by_sample x)) x
  two-values : (x : Sample) → SaysSample (ObserveTwo (record { sample = by_sample x; second = x.secondts })) x
