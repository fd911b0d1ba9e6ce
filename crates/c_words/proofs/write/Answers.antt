-- `write` meets its contract: at each turn, what is stored and what is left to store come to all the bytes.
use Prim.Native.Nat.{◌≤◌, ◌<◌}
use mathlib.Core.Path.{sym, ap, ◌∙◌}
use native.Mathlib.Omega.{arith}
use lib.ListN.{length}
use Rattle.base.specs.Writing.{wrote}
use Rattle.base.proofs.Puts.{put-fits, put-short, written-fits, written-short}
use Rattle.c_words.specs.Words.{bytes_of}
use Rattle.c_words.proofs.WordLaws.{length-bytes}
use Rattle.c_words.proofs.Turns.{write-more, write-none}
use Rattle.c_words.proofs.write.Goals as goal

pub returns-then-out-all : goal.returns-then-out-all
returns-then-out-all c =
    let a = c.args in
    let short : length a.out.now < length (bytes_of a.all.now) = omega (arith, length-bytes a.all.now) in
    (written-short (bytes_of a.all.now) a.out.now short, put-short (bytes_of a.all.now) a.out.now short)

pub loop-i-preserved : goal.loop-i-preserved
loop-i-preserved c =
    let all = c.args.all.now in
    let i = c.loop-i.i in
    let n = length-bytes all in
    write-more c.loop-i.out all _ i _ c.loop-i-test.true (omega arith) (omega arith) (c.copy_from_slice.ensures.after ∙ c.to_le_bytes.ensures) ∙ c.loop-i.invariant

pub returns : goal.returns
returns c =
    let a = c.args in
    let n = length-bytes a.all.now in
    let fits : length (bytes_of a.all.now) ≤ length a.out.now = omega arith in
    (ap wrote (sym n) ∙ written-fits (bytes_of a.all.now) a.out.now fits, (rw (write-none a.all.now c.loop-i.i (omega arith)) at c.loop-i.invariant) ∙ put-fits (bytes_of a.all.now) a.out.now fits)
