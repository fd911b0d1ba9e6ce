-- The least VREG, by the table of ranges.
use native.Mathlib.Omega.{arith}
use Rattle.state_settings.specs.Kept.{settings_ok}
use Rattle.state_settings.specs.Numbered.{setting_numbers, held_of}
use Rattle.state_settings.specs.Ranges.{last_setting, ranges, range_of}
use Rattle.state_settings.specs.Theorems.{LeastVreg}
use Rattle.state_settings.proofs.Steps.{at_least}
use Rattle.state_settings.proofs.Stores.{each-may}

pub least-vreg : LeastVreg
unfolding settings_ok held_of setting_numbers range_of ranges
least-vreg p s e = at_least p 1 (held_of s 1) (each-may p s last_setting 1 e (omega arith) (omega arith))
