-- `taken`: a loop over the register's rows.
use mathlib.Core.Path.{◌≡◌}
use lib.ListN.{drop}
use Rattle.state_table.specs.Rows.{fields, over}
use Rattle.state_fields.proofs.Turns.{on, step}
use Rattle.state_fields.proofs.taking.taken.Given as goal

-- what the rows from here on make of the words is what all of them make of those at entry
abbrev pub invariant-loop-i : goal.invariant-loop-i
invariant-loop-i l =
    over (on l.address l.value) (step l.address l.value) (drop l.i fields) l.u ≡ over (on l.address l.value) (step l.address l.value) fields l.initial.u
