-- `page` meets its contract, case by case.
use native.Mathlib.Omega.{arith}
use lib.ListN.{length-append}
use borrow.Author.Rules.{rules}
use Rattle.base.specs.Refusals.{refusal_number}
use Rattle.step_text.proofs.Sizes.{end_short}
use Rattle.step_text.proofs.page.Goals as goal

pub returns-in-End : goal.returns-in-End
returns-in-End c =
    let p = c.args.p in
    let short = end_short p.walk.number 0 p.walk.place (search rules) (omega arith) in
    let e = rw c.low.ensures at c.ending.ensures in
    rw c.in-End.is (e.0, e.1, rw length-append (omega (arith, e.2, short)))

pub returns-in-Unreadable : goal.returns-in-Unreadable
returns-in-Unreadable c =
    let p = c.args.p in
    let short = end_short p.walk.number (refusal_number c.in-Unreadable.r) c.in-Unreadable.start (search rules) (omega (arith, c.from.ensures)) in
    let e = rw (c.low-in-Unreadable.ensures, c.from.ensures) at c.ending-in-Unreadable.ensures in
    rw c.in-Unreadable.is (e.0, e.1, rw length-append (omega (arith, e.2, short)))
