-- `page`: the lines as pieces, one after the other.
use Rattle.base.proofs.Pieces.{Turn}
use Rattle.report_pages.proofs.Writing.{pieces}
use Rattle.report_pages.proofs.page.Given as goal

abbrev pub invariant-loop-line : goal.invariant-loop-line
invariant-loop-line l = Turn (pieces l.lines) l.initial.out 0 l.out l.at l.line-index
