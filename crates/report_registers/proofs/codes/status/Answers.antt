-- `status`: the last arm is the number that is left.
use Prim.Native.Nat.{◌%◌}
use native.Mathlib.Omega.{arith}
use Rattle.base.proofs.Arms.{last_code}
use Rattle.report_registers.specs.Reads.{statuses, status_of}
use Rattle.report_registers.proofs.codes.status.Goals as goal

pub returns-in_default : goal.returns-in_default
unfolding status_of statuses
returns-in_default c = simp (c.bit-in_default.ensures.0, last_code (c.args.number % 11) 10 c.in_default.in_default-own.rest (omega arith))
