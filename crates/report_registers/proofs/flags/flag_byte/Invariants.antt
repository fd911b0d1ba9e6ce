-- `flag_byte`: a loop over the register's rows.
use Prim.Native.Nat.{ℕ, ◌*◌, ◌≤◌}
use mathlib.Core.Path.{◌≡◌}
use lib.ListN.{drop}
use Rattle.state_table.specs.Rows.{Field, fields, over}
use Rattle.report_registers.specs.Reads.{flag_by}
use Rattle.report_registers.proofs.Sums.{on, step}
use Rattle.report_registers.proofs.flags.flag_byte.Given as goal

-- the code of a field by these flags
abbrev pub code : ℕ → Field → ℕ
code flags f = flag_by f.access flags

abbrev pub invariant-loop-i : goal.invariant-loop-i
invariant-loop-i l =
    (l.sum ≤ l.i * 0x7FFF8000)
    × (over (on l.address (code l.flags)) (step l.address (code l.flags)) (drop l.i fields) l.sum ≡ over (on l.address (code l.flags)) (step l.address (code l.flags)) fields 0)
