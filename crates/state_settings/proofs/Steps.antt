-- Rules of the table of ranges, and the bounds that a value in a range keeps.
use Prim.Native.Nat.{ℕ, suc, ◌%◌, ◌≤◌, ◌<◌}
use mathlib.Core.Path.{◌≡◌, refl}
use mathlib.Core.Bool.{true, ◌&&◌}
use lib.Dec.{leb, ltb, eqb}
use lib.ListN.{get_or, length}
use native.Mathlib.Omega.{arith}
use borrow.Author.Tests.{ltb-true, leb-true, eqb-true}
use Rattle.base.proofs.Span.{tested}
use Rattle.base.proofs.Tests.{and-iff}
use Rattle.state_parts.specs.declared.profile.Profile.{Profile}
use Rattle.state_settings.specs.Ranges.{last_setting, range, ranges, range_of, known_setting, in_range, may_hold}

-- the table has a row for each setting, and one at 0
pub one_each : length ranges ≡ suc last_setting
unfolding ranges
one_each = refl

-- every row has a step
pub some-step : (p : Profile) (number : ℕ) → 0 < (range_of p number).step
unfolding range_of ranges
some-step p number = ltb-true 0 _ (tested (λ (k : ℕ). ltb 0 (get_or ranges k (range 0 0 0)).step) 0 (suc last_setting) (number % suc last_setting) refl (omega arith) (omega arith))

module _ (p : Profile) (number value : ℕ) (e : may_hold p number value ≡ true) where
  inside : in_range (range_of p number) value ≡ true
  unfolding may_hold
  inside = ((and-iff (known_setting p number) (in_range (range_of p number) value)).0 e).1

  bounds : (leb (range_of p number).low value && leb value (range_of p number).high) ≡ true
  bounds = ((and-iff (leb (range_of p number).low value && leb value (range_of p number).high) (eqb (value % (range_of p number).step) 0)).0 inside).0

  pub at_least : (range_of p number).low ≤ value
  at_least = leb-true _ _ ((and-iff (leb (range_of p number).low value) (leb value (range_of p number).high)).0 bounds).0

  pub at_most : value ≤ (range_of p number).high
  at_most = leb-true _ _ ((and-iff (leb (range_of p number).low value) (leb value (range_of p number).high)).0 bounds).1

  pub on_step : value % (range_of p number).step ≡ 0
  on_step = eqb-true _ _ ((and-iff (leb (range_of p number).low value && leb value (range_of p number).high) (eqb (value % (range_of p number).step) 0)).0 inside).1
