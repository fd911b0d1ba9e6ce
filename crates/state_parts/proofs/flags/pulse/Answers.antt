-- `pulse`: an edge isn't among the masks.
use Rattle.state_parts.proofs.FlagLaws.{pulse-means}
use Rattle.state_parts.proofs.flags.pulse.Goals as goal

pub returns : goal.returns
returns c = let a = c.args in rw c.from-raised.ensures (pulse-means a.edges a.masks)
