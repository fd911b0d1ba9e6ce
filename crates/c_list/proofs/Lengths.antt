-- Every state has as many numbers.
use mathlib.Core.Path.{refl}
use Rattle.state_settings.specs.Numbered.{setting_numbers}
use Rattle.c_list.specs.Numbers.{state_numbers, StateLong}

pub state-long : StateLong
unfolding state_numbers setting_numbers
state-long s = refl
