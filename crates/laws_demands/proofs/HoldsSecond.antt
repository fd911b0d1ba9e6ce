-- Demand 2 holds of this product.
use mathlib.Core.Path.{refl}
use Rattle.laws_step.proofs.Given.{each-given}
use Rattle.laws_step.proofs.Powered.{holds-what-is-said}
use Rattle.laws_step.proofs.Observed.{holds-what-is-observed}
use Rattle.laws_account.proofs.Agreeing.{outcome-is-step}
use Rattle.laws_account.proofs.Looking.{stat-is-model, register-is-model}
use Rattle.laws_format.proofs.Keeping.{our-reads, our_writes}
use Rattle.laws_pairs.proofs.Comparing.{our-compares}
use Rattle.laws_pairs.proofs.Printing.{our-printed}
use Rattle.laws_heads.proofs.Second.{second-of-images}
use Rattle.laws_heads.proofs.Growing.{catches-up}
use Rattle.laws_demands.specs.Ours.{our_partlog, SecondHolds}
use Rattle.laws_demands.proofs.Places.{plays-at}
use Rattle.laws_demands.proofs.Prints.{our-walks}
use Rattle.laws_demands.proofs.Texts.{our-text}
use Rattle.laws_account.proofs.Reports.{report-is-model}

pub second_holds : SecondHolds
second_holds = record {
  moves = record { refuses = each-given; moves = outcome-is-step; passes = λ m ok e. refl; begins = holds-what-is-said; sees = holds-what-is-observed };
  reports = record { reports = λ r accepted. report-is-model r; shows = λ s. refl };
  stats = record { stats = λ r accepted. stat-is-model r; shows = λ s. refl };
  registers = record { reads = register-is-model; shows = λ m address. refl };
  reads = our-reads;
  writes = our_writes;
  walks = our-walks;
  compares = our-compares;
  runlog = λ bytes are. our-text bytes;
  partlog = λ a b are bes. (our-printed a b are bes (our_partlog a b)).1 refl;
  places = plays-at;
  heads = second-of-images;
  grows = catches-up;
}
