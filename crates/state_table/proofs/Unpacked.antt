-- What the test of a field says.
use Prim.Native.Nat.{◌+◌, ◌%◌, ◌≤◌}
use mathlib.Core.Path.{◌≡◌}
use mathlib.Core.Bool.{true}
use Rattle.base.proofs.Tests.{and-iff, leb-iff}
use Rattle.state_table.specs.Rows.{Field, bit_of}
use Rattle.state_table.specs.Packed.{first_of, second_of, fits_access, fits}

pub record Fit (f : Field) : Type 0 where
  pub address : f.address ≤ 38
  pub low : f.low ≤ 15
  pub width : f.width ≤ 16
  pub one_word : bit_of f % 64 + f.width ≤ 64
  pub first : first_of f.access ≤ 255
  pub second : second_of f.access ≤ 255
  pub access : fits_access f.access ≡ true

pub fit : (f : Field) → fits f ≡ true → Fit f
unfolding fits
fit f e =
    let p = simp (and-iff, leb-iff) at e in
    record { address = p.0.0.0.0.0.0; low = p.0.0.0.0.0.1; width = p.0.0.0.0.1; one_word = p.0.0.0.1; first = p.0.0.1; second = p.0.1; access = p.1 }
