-- The promise of `cycle::limit_units` allows one outcome.
use Rattle.base.proofs.Outcomes.{bounded-settles}
use Rattle.state_parts.specs.PublicPromises.{OneOutcome}

pub one-outcome : OneOutcome
one-outcome = record { limit-units = λ seconds. bounded-settles _ _ }
