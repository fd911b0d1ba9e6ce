-- `words_ok`: a test to each gap.
use borrow.Author.Rules.{rules}
use Rattle.state_fields.proofs.Gaps.{empty-gaps}
use Rattle.state_fields.proofs.holding.words_ok.Goals as goal

pub returns : goal.returns
returns c = let a = c.args in empty-gaps a.p a.w (search rules, (search rules, (search rules, (search rules, (search rules, tt)))))
