-- `put` meets its contract: the line's pieces, one after the other.
use Rattle.base.proofs.Pieces.{Turn}
use Rattle.report_text.proofs.Turns.{words}
use Rattle.report_text.proofs.numbers.put.Given as goal

abbrev pub invariant-loop-i : goal.invariant-loop-i
invariant-loop-i l = Turn (words l.numbers) l.initial.out 0 l.out l.at l.i
