-- `same` meets its contract: what was compared and what is left to compare come to the same.
use Prim.Native.Nat.{◌*◌}
use mathlib.Core.Path.{◌≡◌}
use mathlib.Core.Bool.{◌&&◌}
use lib.ListN.{drop}
use Rattle.c_words.specs.Same.{same_bytes}
use Rattle.c_words.specs.Words.{bytes_of}
use Rattle.c_words.proofs.same.same.Given as goal

abbrev pub invariant-loop-i : goal.invariant-loop-i
invariant-loop-i l = (l.r && same_bytes (bytes_of (drop l.i l.all)) (drop (l.i * 4) l.bytes)) ≡ same_bytes (bytes_of l.all) l.bytes
