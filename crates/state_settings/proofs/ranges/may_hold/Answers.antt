-- `may_hold`: its calls' results; every row has a step.
use Rattle.state_settings.specs.Ranges.{may_hold}
use Rattle.state_settings.proofs.Steps.{some-step}
use Rattle.state_settings.proofs.ranges.may_hold.Goals as goal

pub in_range-fits-requires : goal.in_range-fits-requires
in_range-fits-requires c = rw c.range_of-range.ensures (some-step _ _)

pub returns : goal.returns
unfolding may_hold
returns c = simp (c.in_range-fits.ensures, c.range_of-range.ensures, c.known-there.ensures)
