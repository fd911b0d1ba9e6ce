-- `headed`: the line of numbers in the rest of the part, then the word before it; refused, nothing is written.
use native.Mathlib.Omega.{arith}
use mathlib.Core.Path.{sym, ap, ◌∙◌}
use lib.ListN.{length-append, length-take, length-drop}
use Rattle.std.proofs.lemmas.Result.{err_from_is_err_and}
use Rattle.report_text.specs.Text.{line_text, headed_text}
use Rattle.base.specs.Writing.{written_told}
use Rattle.report_text.proofs.Outcomes.{no_room, had-room, headed, headed-none}
use Rattle.report_text.proofs.text.headed.Goals as goal

pub returns-then-out-start : goal.returns-then-out-start
unfolding headed_text
returns-then-out-start c =
    let a = c.args in
    no_room (headed_text a.word.now a.numbers.now) a.out.now (simp length-append (omega arith))

pub overflow_add-result : goal.overflow_add-result
overflow_add-result c =
    let a = c.args in
    let h = had-room (line_text a.numbers.now) _ _ (sym (ap written_told c.in_ok-bytes.was) ∙ c.whole.ensures.0) in
    omega (arith, h.0, simp (length-take, length-drop) at h.1)

pub returns : goal.returns
unfolding headed_text
returns c =
    let a = c.args in
    headed a.word.now (line_text a.numbers.now) a.out.now (omega arith) _ c.whole.new.out c.put_word.new.out (sym (ap written_told c.in_ok-bytes.was) ∙ c.whole.ensures.0) c.whole.ensures.1 c.put_word.ensures

pub returns-in_err-bytes : goal.returns-in_err-bytes
unfolding headed_text
returns-in_err-bytes c =
    let a = c.args in
    let why = err_from_is_err_and c.from_residual.result c.from_residual.ensures.1 in
    rw (why.1, why.2) (headed-none a.word.now (line_text a.numbers.now) a.out.now (omega arith) _ c.whole.new.out (sym (ap written_told c.in_err-bytes.was) ∙ c.whole.ensures.0) c.whole.ensures.1)
