-- The promise of `choice::bit` allows one outcome.
use Rattle.base.specs.PublicPromises.{OneOutcome}
use Rattle.base.proofs.Outcomes.{bounded-settles}

pub one-outcome : OneOutcome
one-outcome = record { bit = λ test. bounded-settles _ _ }
