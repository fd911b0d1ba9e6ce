-- `print_page` meets its contract: a page has the room, and no more is printed than was written.
use Prim.Native.Nat.{ℕ, ◌≤◌}
use mathlib.Core.Path.{◌≡◌, sym, ap, ◌∙◌}
use mathlib.Core.List.{List}
use native.Mathlib.Omega.{arith}
use lib.ListN.{length}
use lib.Seq.{length-take-le}
use Rattle.std.proofs.lemmas.Result.{err_from_is_err_and}
use Rattle.base.proofs.Puts.{written-fits}
use Rattle.step_event.specs.declared.walking.Walk.{Walk}
use Rattle.step_text.specs.Prints.{next_text, printed, print_told, printed_in, told_by}
use Rattle.step_text.specs.declared.answer.Printed.{Printed}
use Rattle.base.specs.declared.refusal.Refusal.{Refusal}
use Rattle.std.proofs.Common.{Result}
use Rattle.runlog.proofs.print_page.Goals as goal

-- a page that has the room is told whole
told : (log : List ℕ) (from : Walk) (out : List ℕ) (page : Result Printed Refusal) → print_told page ≡ printed_in (next_text log from) out → length (next_text log from).text ≤ length out
    → print_told page ≡ printed (length (next_text log from).text) (next_text log from).walk (next_text log from).over
told log from out page e h =
    let t = next_text log from in
    e ∙ ap (λ r. told_by r t.walk t.over) (sym (written-fits t.text out h))

pub returns-in_err-page : goal.returns-in_err-page
returns-in_err-page g c =
    let why = err_from_is_err_and c.from_residual.result c.from_residual.ensures.1 in
    rw (why.1, why.2) (sym (ap print_told c.in_err-page.was) ∙ told c.args.log.now c.args.from _ c.print.result c.print.ensures.0 (omega (arith, c.print.ensures.2)))

pub slice_bounds-out-end : goal.slice_bounds-out-end
slice_bounds-out-end g c =
    let all = told c.args.log.now c.args.from _ c.print.result c.print.ensures.0 (omega (arith, c.print.ensures.2)) in
    let bytes : c.in_ok-page.page.bytes ≡ length (next_text c.args.log.now c.args.from).text = cc (sym (ap print_told c.in_ok-page.was) ∙ all) in
    omega (arith, bytes, c.print.ensures.2, c.print.auto.out)

pub slice_bounds-write_all-end : goal.slice_bounds-write_all-end
slice_bounds-write_all-end g c =
    let all = told c.args.log.now c.args.from _ c.print.result c.print.ensures.0 (omega (arith, c.print.ensures.2)) in
    let bytes : c.in_ok-page.page.bytes ≡ length (next_text c.args.log.now c.args.from).text = cc (sym (ap print_told c.in_ok-page.was) ∙ all) in
    sym (length-take-le _ _ (omega (arith, bytes, c.print.ensures.2, c.print.auto.out)))

pub returns : goal.returns
returns g c =
    sym (ap print_told c.in_ok-page.was) ∙ told c.args.log.now c.args.from _ c.print.result c.print.ensures.0 (omega (arith, c.print.ensures.2))
