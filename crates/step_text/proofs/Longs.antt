-- What is printed of an input that is too long: its only line.
use Prim.Native.Nat.{ℕ, ◌≤◌, ◌<◌}
use mathlib.Core.Path.{◌≡◌}
use mathlib.Core.Bool.{true}
use mathlib.Core.List.{List}
use native.Mathlib.Omega.{arith}
use lib.ListN.{length}
use borrow.Author.Tests.{lt-ltb}
use Rattle.step_event.specs.declared.walking.Walk.{Walk}
use Rattle.step_text.specs.Runs.{refused_text}
use Rattle.step_text.specs.Prints.{next_text, most_text}
use Rattle.step_text.proofs.Sizes.{end_short}

pub long_text : (log : List ℕ) (w : Walk) → 65536 < length log → (next_text log w).text ≡ refused_text
unfolding next_text
long_text log w h = simp (lt-ltb 65536 (length log) h)

pub long_walk : (log : List ℕ) (w : Walk) → 65536 < length log → (next_text log w).walk ≡ w
unfolding next_text
long_walk log w h = simp (lt-ltb 65536 (length log) h)

pub long_over : (log : List ℕ) (w : Walk) → 65536 < length log → (next_text log w).over ≡ true
unfolding next_text
long_over log w h = simp (lt-ltb 65536 (length log) h)

pub long_short : length refused_text ≤ most_text
long_short = omega (arith, end_short 0 13 0 (omega arith) (omega arith))
