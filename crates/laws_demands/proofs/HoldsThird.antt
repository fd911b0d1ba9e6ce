-- Demand 3 holds of this product.
use Rattle.report_state.specs.Report.{report_of}
use Rattle.step_event.specs.Steps.{step_of}
use Rattle.laws_format.specs.Ours.{our_read}
use Rattle.laws_format.proofs.Keeping.{our-reads}
use Rattle.laws_heads.proofs.Third.{third-of-images}
use Rattle.laws_third.proofs.Third.{third-of-lists}
use Rattle.laws_demands.specs.Ours.{our_walk, ThirdHolds}
use Rattle.laws_demands.proofs.Prints.{our-walks}
use Rattle.laws_demands.proofs.Logs.{third-of-logs}

pub third-holds : ThirdHolds
third-holds = record { lists = third-of-lists; logs = third-of-logs step_of report_of our_read our-reads our_walk our-walks third-of-lists; images = third-of-images }
