-- Each call's promise allows one outcome.
use Rattle.base.proofs.Outcomes.{plain-settles, writing-settles}
use Rattle.c_words.specs.PublicPromises.{OneOutcome}

pub one-outcome : OneOutcome
one-outcome = record { read = λ bytes all. plain-settles _ _; write = λ all part. writing-settles _ _ }
