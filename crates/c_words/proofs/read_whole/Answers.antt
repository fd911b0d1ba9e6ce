-- `read_whole` meets its contract: what is stored and what is left to store come to all the words.
use mathlib.Core.Path.{◌∙◌}
use native.Mathlib.Omega.{arith}
use lib.ListN.{length}
use Rattle.c_words.proofs.Turns.{read_more, read_none}
use Rattle.c_words.proofs.read_whole.Goals as goal

pub loop-i-preserved : goal.loop-i-preserved
loop-i-preserved c =
    let a = c.args in
    rw c.whole.ensures (read_more a.bytes.now c.loop-i.all (length a.all.now) c.loop-i.i (omega arith) ∙ c.loop-i.invariant)

pub returns : goal.returns
returns c =
    let a = c.args in
    read_none a.bytes.now c.loop-i.all a.all.now c.loop-i.i (omega arith) c.loop-i.invariant
