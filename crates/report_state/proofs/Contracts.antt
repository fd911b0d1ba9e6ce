-- Each call's promise allows one outcome.
use Rattle.base.proofs.Outcomes.{plain-settles}
use Rattle.report_state.specs.PublicPromises.{OneOutcome}

pub one-outcome : OneOutcome
one-outcome = record { report = λ s. plain-settles _ _; stat = λ s. plain-settles _ _ }
