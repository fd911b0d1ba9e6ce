-- `bits`: a mask of ones keeps the low bits.
use Prim.Native.Nat.{◌/◌, ◌^◌}
use native.Mathlib.Omega.{arith}
use lib.Bits.{and_mask}
use Rattle.state_fields.proofs.Puts.{below_64}
use Rattle.state_fields.proofs.bits.bits.Goals as goal

pub returns : goal.returns
returns c =
    let a = c.args in
    rw (below_64 a.width c.power-most.ensures (omega arith)) (and_mask (a.x / 2 ^ a.at) a.width)
