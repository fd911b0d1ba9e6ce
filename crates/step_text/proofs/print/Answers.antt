-- `print` meets its contract: an input that is too long by itself, else by its page.
use mathlib.Core.Path.{ap, ◌∙◌}
use native.Mathlib.Omega.{arith}
use lib.ListN.{length}
use borrow.Author.Tests.{le-ltb}
use Rattle.base.specs.Writing.{put}
use Rattle.report_pages.specs.Text.{page_text}
use Rattle.step_event.specs.Pages.{Passed}
use Rattle.step_text.specs.Prints.{next_text, passed_text, text_of_page, told_by, printed_in}
use Rattle.step_text.proofs.print.Goals as goal

pub returns : goal.returns
unfolding next_text page_text
returns c =
    let a = c.args in
    simp (le-ltb 65536 (length a.log.now) (omega arith)) (
      c.told-2.ensures ∙ (λ i. told_by (c.page-put.ensures.0 i) c.turn-p.result.walk (c.is_over.ensures i)) ∙ ap (λ (q : Passed). printed_in (text_of_page q) a.out.now) c.turn-p.ensures.0,
      c.page-put.ensures.1 ∙ ap (λ (q : Passed). put (passed_text q) a.out.now) c.turn-p.ensures.0,
      rw (← c.turn-p.ensures.0) c.page-put.ensures.2,
    )
