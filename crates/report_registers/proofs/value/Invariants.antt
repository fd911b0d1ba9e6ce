-- `value`: a loop over the register's rows.
use Prim.Native.Nat.{◌*◌, ◌≤◌}
use mathlib.Core.Path.{◌≡◌}
use lib.ListN.{drop}
use Rattle.state_table.specs.Rows.{fields, over}
use Rattle.report_registers.specs.Reads.{code_of}
use Rattle.report_registers.proofs.Sums.{on, step}
use Rattle.report_registers.proofs.value.Given as goal

abbrev pub invariant-loop-i : goal.invariant-loop-i
invariant-loop-i l =
    (l.sum ≤ l.i * 0x7FFF8000)
    × (over (on l.address (code_of l.s)) (step l.address (code_of l.s)) (drop l.i fields) l.sum ≡ over (on l.address (code_of l.s)) (step l.address (code_of l.s)) fields 0)
