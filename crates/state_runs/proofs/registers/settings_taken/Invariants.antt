-- `settings_taken`: a loop over the register's rows.
use mathlib.Core.Path.{◌≡◌}
use lib.ListN.{drop}
use Rattle.state_table.specs.Rows.{fields, over}
use Rattle.state_runs.specs.Registers.{setting_by}
use Rattle.state_runs.proofs.Turns.{on, step}
use Rattle.state_runs.proofs.registers.settings_taken.Given as goal

-- what the rows from here on make of it is what all of them make of what there was at entry
abbrev pub invariant-loop-i : goal.invariant-loop-i
invariant-loop-i l =
    over (on l.address) (step l.address setting_by l.value) (drop l.i fields) l.u ≡ over (on l.address) (step l.address setting_by l.value) fields l.initial.u
