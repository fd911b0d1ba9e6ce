-- At each turn of `run` the pages that are left have the last among them.
use Prim.Native.Nat.{◌-◌, ◌≤◌}
use mathlib.Core.Path.{◌≡◌}
use mathlib.Core.Bool.{true}
use Rattle.step_text.specs.Promises.{until_over}
use Rattle.runlog.proofs.run.Given as goal

abbrev pub invariant-loop-pages : goal.invariant-loop-pages
invariant-loop-pages g l = ((until_over (4097 - l._pages) l.log l.walk).over ≡ true) × (l._pages ≤ 4097)
