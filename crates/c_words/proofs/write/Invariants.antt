-- `write` meets its contract: at each turn, what is stored and what is left to store come to all the bytes.
use Prim.Native.Nat.{◌*◌}
use mathlib.Core.Path.{◌≡◌}
use lib.ListN.{drop}
use lib.Seq.{sets}
use Rattle.c_words.specs.Words.{bytes_of}
use Rattle.c_words.proofs.write.Given as goal

abbrev pub invariant-loop-i : goal.invariant-loop-i
invariant-loop-i l = sets l.out (l.i * 4) (bytes_of (drop l.i l.all)) ≡ sets l.initial.out 0 (bytes_of l.all)
