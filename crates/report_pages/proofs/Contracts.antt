-- Each call's promise allows one outcome.
use Rattle.base.proofs.Outcomes.{bounded-settles, writing-settles}
use Rattle.report_pages.specs.PublicPromises.{OneOutcome}

pub one-outcome : OneOutcome
one-outcome =
    record {
      page-width = λ most lines. bounded-settles _ _;
      page = λ most lines part a b p q. writing-settles _ _ a b (p.0, p.1) (q.0, q.1);
    }
