-- `read_past` meets its contract: what is stored and what is left to store come to all the words.
use mathlib.Core.Path.{◌≡◌}
use lib.ListN.{length}
use lib.Seq.{sets}
use Rattle.c_words.proofs.Turns.{to_read}
use Rattle.c_words.proofs.read_past.Given as goal

abbrev pub invariant-loop-i : goal.invariant-loop-i
invariant-loop-i l =
    sets l.all l.i (to_read l.bytes (length l.initial.all) l.i) ≡ sets l.initial.all 0 (to_read l.bytes (length l.initial.all) 0)
