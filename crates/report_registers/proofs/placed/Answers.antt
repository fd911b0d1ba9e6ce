-- `placed`: the code's low bits, at their place.
use Prim.Native.Nat.{ℕ, ◌*◌, ◌%◌, ◌^◌, ◌≤◌}
use mathlib.Core.Path.{◌≡◌, refl}
use native.Mathlib.Omega.{arith}
use Rattle.state_fields.proofs.Puts.{below_64}
use Rattle.report_registers.proofs.Sums.{placed-most}
use Rattle.report_registers.proofs.placed.Goals as goal

-- the two powers, and so the result
most : (low width l w code : ℕ) → l ≡ 2 ^ (low % 64) → w ≡ 2 ^ (width % 64) → low ≤ 15 → width ≤ 16
    → (code % w * l ≡ code % 2 ^ width * 2 ^ low) × (code % w * l ≤ 0x7FFF8000)
most low width l w code el ew hl hw =
    let a = below_64 low el (omega arith) in
    let b = below_64 width ew (omega arith) in
    rw (a, b) (refl, placed-most code low width hl hw)

pub returns : goal.returns
returns c = let a = c.args in most a.row.low a.row.width _ _ a.code c.power-unit.ensures c.power-most.ensures (omega arith) (omega arith)
