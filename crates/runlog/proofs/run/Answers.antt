-- `run` meets its contract: at each turn the pages that are left have the last among them.
use Prim.Native.Nat.{suc, ◌+◌, ◌-◌}
use mathlib.Core.Path.{◌≡◌, sym, ap, ◌∙◌}
use native.Mathlib.Omega.{arith}
use Rattle.log_number.specs.Promises.{Bytes}
use Rattle.step_text.specs.Prints.{next_text, print_told}
use Rattle.step_text.proofs.Printing.{run-prints, goes_on, not_none}
use Rattle.runlog.proofs.run.Goals as goal

pub loop-pages-init : goal.loop-pages-init
loop-pages-init g c =
    let bytes : Bytes c.args.log.now = λ i. omega (arith, c.type_inv.log i) in
    (rw c.start-walk.ensures (run-prints c.args.log.now bytes).1, omega arith)

pub loop-pages-preserved : goal.loop-pages-preserved
loop-pages-preserved g c =
    let log = c.args.log.now in
    let l = c.loop-pages in
    let next = next_text log l.walk in
    let same = sym (ap print_told c.in-Ok.is) ∙ c.print_page.ensures in
    let walk : c.in-Ok.page.walk ≡ next.walk = cc same in
    let over : c.in-Ok.page.over ≡ next.over = cc same in
    let count : 4097 - l._pages ≡ suc (4097 - (l._pages + 1)) = omega (arith, c.loop-pages-test.true) in
    (rw walk (goes_on (4097 - (l._pages + 1)) log l.walk (sym over ∙ c.if-page.false) (rw count at l.invariant.0)), omega (arith, c.loop-pages-test.true))

pub returns : goal.returns
returns g c =
    let l = c.loop-pages in
    let none : 4097 - l._pages ≡ 0 = omega (arith, c.loop-pages-test.false) in
    absurd (not_none _ l.walk (rw none at l.invariant.0))
