-- The table fills the map, each bit once, and its resets fit.
use Prim.Native.Nat.{ℕ, ◌%◌, ◌^◌}
use mathlib.Core.Path.{◌≡◌, refl}
use mathlib.Core.Bool.{Bool, true}
use native.Mathlib.Omega.{arith}
use borrow.Author.Tests.{eqb-true, ltb-true}
use lib.Dec.{eqb, ltb}
use Rattle.base.proofs.Span.{tested}
use Rattle.state_table.specs.Rows.{Field, fields}
use Rattle.state_table.specs.Packed.{field_at}
use Rattle.state_table.specs.Theorems.{fields_with, OneRow, ResetsFit}
use Rattle.state_table.proofs.Tested.{every, at, long}

pub one-row : OneRow
unfolding fields
one-row bit h = eqb-true (fields_with fields bit) 1 (tested (λ (n : ℕ). eqb (fields_with fields n) 1) 0 312 bit refl (omega arith) (omega arith))

abbrev fits_reset : Field → Bool
fits_reset f = ltb f.reset (2 ^ f.width)

all-resets : every fits_reset fields ≡ true
unfolding fields
all-resets = refl

pub resets-fit : ResetsFit
unfolding field_at
resets-fit number = ltb-true (field_at number).reset (2 ^ (field_at number).width) (at fits_reset fields (number % 147) all-resets (rw long (omega arith)))
