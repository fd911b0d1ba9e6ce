-- What settling leaves alone, and what it moves the rest to.
use mathlib.Core.Path.{refl}
use Rattle.settle_levels.specs.Clamps.{base_of}
use Rattle.settle_levels.specs.Comparators.{low_of, latches_of}
use Rattle.settle_all.specs.Settle.{Bander, forced_of, settled_of}
use Rattle.settle_all.specs.Theorems.{SettlesAlone, SettlesTo}

pub settles-alone : (band : Bander) → SettlesAlone band
unfolding settled_of forced_of
settles-alone band s observed = record { profile = refl; settings = refl; registers = refl; watchdog = refl; sample = refl; flags = refl }

-- no comparator reads EN_CHG
pub settles-to : (band : Bander) → SettlesTo band
unfolding settled_of forced_of latches_of low_of base_of
settles-to band s observed = record { latches = refl; bands = refl; cycle = refl; phase = refl }
