-- `same` meets its contract: what was compared and what is left to compare come to the same.
use mathlib.Core.Path.{◌∙◌}
use native.Mathlib.Omega.{arith}
use Rattle.c_words.proofs.Sames.{other-length, left-turn, left-none}
use Rattle.c_words.proofs.same.same.Goals as goal

pub returns-then-bytes-all : goal.returns-then-bytes-all
returns-then-bytes-all c = other-length _ _ c.if-bytes-all.true

pub loop-i-preserved : goal.loop-i-preserved
loop-i-preserved c =
    left-turn _ _ c.loop-i.i c.whole.result c.loop-i.r (λ i. omega (arith, c.type_inv.bytes i)) c.loop-i-test.true (omega (arith, c.type_inv.all c.loop-i.i)) (omega arith) c.whole.ensures ∙ c.loop-i.invariant

pub returns : goal.returns
returns c = left-none _ _ c.loop-i.i c.loop-i.r c.loop-i-test.false (omega arith) ∙ c.loop-i.invariant
