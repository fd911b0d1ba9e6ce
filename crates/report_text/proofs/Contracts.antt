-- Each call's promise allows one outcome.
use Rattle.base.proofs.Outcomes.{bounded-settles, writing-settles}
use Rattle.report_text.specs.PublicPromises.{OneOutcome}

pub one-outcome : OneOutcome
one-outcome =
    record {
      width = λ n. bounded-settles _ _;
      line-width = λ numbers. bounded-settles _ _;
      line = λ numbers part. writing-settles _ _;
      headed = λ word numbers part. writing-settles _ _;
      end = λ numbers part. writing-settles _ _;
    }
