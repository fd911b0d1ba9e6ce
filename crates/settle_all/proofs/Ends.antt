-- Settling reads the two thermistors each by what is held of it, and then by their joined band alone, so it doesn't matter which is which.
use mathlib.Core.Path.{ap}
use Rattle.settle_bands.proofs.Joining.{either_end}
use Rattle.settle_bands.specs.Joining.{exchanged_bands}
use Rattle.settle_bands.specs.Holding.{bands_of}
use Rattle.settle_levels.specs.Comparators.{short_of, low_of, pack_over_of, latches_of}
use Rattle.settle_levels.specs.Voltage.{taper_of, below_recharge}
use Rattle.settle_permission.specs.Bits.{regulated_of}
use Rattle.settle_permission.specs.Ending.{ending_of}
use Rattle.settle_permission.specs.Permission.{permitted_of}
use Rattle.state_parts.specs.declared.band.Band.{Band}
use Rattle.settle_all.specs.Gather.{tests_of}
use Rattle.settle_all.specs.Settle.{forced_of, settled_of, settle_of}
use Rattle.settle_all.specs.Theorems.{other_way, EndsAlike}

pub ends-alike : EndsAlike
unfolding settle_of bands_of settled_of forced_of latches_of short_of low_of pack_over_of tests_of permitted_of ending_of regulated_of taper_of below_recharge
ends-alike s observed =
    let f = forced_of s in
    let k = latches_of f.profile f.settings f.registers f.sample f.latches in
    let b = bands_of s.profile s.registers s.sample s.bands in
    ap (λ (j : Band). settled_of (other_way f) k (exchanged_bands b) (tests_of f k j observed)) (either_end.joined b)
