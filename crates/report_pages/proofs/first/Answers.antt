-- `first`: no page has more lines than there is room for.
use Rattle.std.proofs.Common.{arith, length-take}
use Rattle.report_pages.proofs.Writing.{first-lines}
use Rattle.report_pages.proofs.first.Goals as goal

pub returns : goal.returns
returns c =
    let a = c.args in
    (first-lines a.most c.min.result a.lines.now c.min.ensures c.told-lines, omega (arith, length-take c.min.result a.lines.now, c.min.ensures))
