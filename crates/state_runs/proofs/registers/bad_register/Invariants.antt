-- `bad_register`: a loop over the register's rows.
use Prim.Native.Nat.{ℕ}
use mathlib.Core.Path.{◌≡◌}
use mathlib.Core.Bool.{Bool, false, ◌||◌}
use lib.ListN.{drop}
use Rattle.state_table.specs.Rows.{fields, over}
use Rattle.state_table.specs.declared.Access.{Access}
use Rattle.state_parts.specs.declared.profile.Profile.{Profile}
use Rattle.state_runs.specs.Registers.{bad_by}
use Rattle.state_runs.proofs.Turns.{on, step}
use Rattle.state_runs.proofs.registers.bad_register.Given as goal

-- one more field
abbrev pub worse : Profile → Access → ℕ → Bool → Bool
worse p access code bad = bad || bad_by p access code

-- what the rows from here on make of it is what all of them make of what there was at entry
abbrev pub invariant-loop-i : goal.invariant-loop-i
invariant-loop-i l =
    over (on l.address) (step l.address (worse l.p) l.value) (drop l.i fields) l.bad ≡ over (on l.address) (step l.address (worse l.p) l.value) fields false
