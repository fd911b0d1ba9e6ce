-- The format of images and the rules have one number.
use mathlib.Core.Path.{refl}
use Rattle.c_calls.specs.Rules.{FormatIsRules}

pub format-is-rules : FormatIsRules
format-is-rules = refl
