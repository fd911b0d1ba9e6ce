-- `restored`: the resets, and the three fields that stand over them.
use Rattle.state_fields.proofs.Restores.{three-kept}
use Rattle.state_fields.proofs.holding.restored.Goals as goal

pub returns : goal.returns
returns c =
    let a = c.args in
    simp (c.put.ensures, c.put-second.ensures, c.put-first.ensures, c.get-exit.ensures, c.get-stop.ensures, c.get-vindpm.ensures, c.start_words-start.ensures)
    (three-kept a.p a.w)
