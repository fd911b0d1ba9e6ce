-- The least of the voltages that the vchg codes stand for.
use Prim.Native.Nat.{ℕ, ◌%◌}
use mathlib.Core.Path.{◌≡◌}
use mathlib.Core.Bool.{false, ◌||◌}
use lib.Dec.{leb, eqb, leb→le}
use native.Mathlib.Omega.{arith}
use borrow.Author.Tests.{ne_eqb}
use Rattle.base.proofs.Table.{at}
use Rattle.state_parts.specs.Pins.{vchg_table, LeastPin}

pub least-pin : LeastPin
least-pin p least most =
    let some : eqb (p.vchg % 8) 0 ≡ false = ne_eqb (p.vchg % 8) 0 (λ e. omega arith) in
    leb→le 3500 _ (rw some at (at (λ (i x : ℕ). eqb i 0 || leb 3500 x) vchg_table tt (p.vchg % 8) (omega arith)))
