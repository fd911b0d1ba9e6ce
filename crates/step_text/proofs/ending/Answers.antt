-- `ending` meets its contract: the last line in the rest of the part, then the page before it; refused, nothing is written.
use mathlib.Core.Path.{sym, ap, ◌∙◌}
use mathlib.Core.List.{◌++◌}
use native.Mathlib.Omega.{arith}
use lib.ListN.{length-append, length-take, length-drop}
use Rattle.std.proofs.lemmas.Result.{err_from_is_err_and}
use Rattle.base.specs.Writing.{written_told}
use Rattle.report_text.specs.Text.{end_text}
use Rattle.report_text.proofs.Outcomes.{no_room, had-room}
use Rattle.report_pages.specs.Text.{page_text}
use Rattle.step_text.proofs.Heads.{refuses, prints}
use Rattle.step_text.proofs.ending.Goals as goal

pub returns-then-out-start : goal.returns-then-out-start
returns-then-out-start c =
    let a = c.args in
    let w = c.page_width-start.ensures in
    let r = no_room (page_text a.count a.lines ++ end_text a.numbers) a.out.now (simp length-append (omega (arith, w.0))) in
    (r.0, r.1, omega (arith, w))

pub overflow_add-result : goal.overflow_add-result
overflow_add-result c =
    let a = c.args in
    let h = had-room (end_text a.numbers) _ _ (sym (ap written_told c.in_ok-bytes.was) ∙ c.end.ensures.0) in
    omega (arith, h.0, simp (length-take, length-drop) at h.1)

pub returns : goal.returns
returns c =
    let a = c.args in
    let r = prints (page_text a.count a.lines) (end_text a.numbers) a.out.now c.page_width-start.result c.page_width-start.ensures.0 (omega arith) _ c.end.new.out c.page.new.out (sym (ap written_told c.in_ok-bytes.was) ∙ c.end.ensures.0) c.end.ensures.1 c.page.ensures.1 in
    (r.0, r.1, omega (arith, c.page_width-start.ensures))

pub returns-in_err-bytes : goal.returns-in_err-bytes
returns-in_err-bytes c =
    let a = c.args in
    let why = err_from_is_err_and c.from_residual.result c.from_residual.ensures.1 in
    let r = refuses (page_text a.count a.lines) (end_text a.numbers) a.out.now c.page_width-start.result c.page_width-start.ensures.0 (omega arith) _ c.end.new.out (sym (ap written_told c.in_err-bytes.was) ∙ c.end.ensures.0) c.end.ensures.1 in
    rw (why.1, why.2) (r.0, r.1, omega (arith, c.page_width-start.ensures))
