-- Each crossed threshold of the account means the moments that the demand names.
use Prim.Native.Nat.{ℕ, ◌*◌, ◌-◌, ◌≤◌, ◌<◌}
use native.Mathlib.Omega.{arith}
use mathlib.Core.Path.{◌≡◌, refl}
use mathlib.Core.Bool.{not, false≢true}
use lib.Dec.{ltb}
use borrow.Author.Tests.{le-ltb, ltb-false}
use Rattle.base.specs.Units.{below, below_share}
use Rattle.laws_account.specs.History.{Run, powered, ◌▸◌, count}
use Rattle.laws_account.specs.Held.{profile_of, sample_of, vchg, ichg, overridden, cells_of}
use Rattle.laws_account.specs.Valued.{pin_fault}
use Rattle.laws_account.specs.Judged.{vbat, base_at, cell_point, low_ends, input_ok, input_over, input_good, at_power_on, fault_or_on, short, low, pack_over}
use Rattle.laws_account.specs.Refused.{Accepted}
use Rattle.laws_third.specs.Crossed.{InputOk, InputOver, InputGood, PinFault, FaultOrOn, point, base, Short, Low, PackOver}
use Rattle.laws_third.proofs.Means.{Means, leb-means, ltb-means, eqb-means, false-means, and-means, or-means, not-means, re-means}
use Rattle.laws_third.proofs.Positions.{since-means, since-in}
use Rattle.laws_third.proofs.Packs.{point-plain, base-plain}

pub ok-means : (r : Run) → Means (input_ok r) (InputOk r)
unfolding input_ok
ok-means r = since-means (λ m. leb-means 2350 (sample_of m).input) (λ m. leb-means 2900 (sample_of m).input) r

pub over-means : (r : Run) → Means (input_over r) (InputOver r)
unfolding input_over
over-means r = since-means (λ m. leb-means 34500 (sample_of m).input) (λ m. leb-means 36300 (sample_of m).input) r

pub good-means : (r : Run) → Means (input_good r) (InputGood r)
unfolding input_good
good-means r = and-means (ok-means r) (not-means (over-means r))

pub pins-mean : (r : Run) → Means (pin_fault r) (PinFault r)
unfolding pin_fault
pins-mean r =
    or-means
    (or-means (eqb-means (cells_of r) 0) (and-means (eqb-means (profile_of r).vchg 0) (false-means (overridden vchg r))))
    (and-means (eqb-means (profile_of r).ichg 0) (false-means (overridden ichg r)))

on-means : (m : Run) → Means (at_power_on m) (count m ≡ 0)
unfolding count
on-means (powered p) = record { fact = λ t. refl; test = λ e. refl }
on-means (r ▸ e) = record { fact = λ t. absurd (false≢true t); test = λ n. absurd (omega (arith, n)) }

fault-or-on : (m : Run) → Means (fault_or_on m) (FaultOrOn m)
fault-or-on m = or-means (on-means m) (pins-mean m)

-- not below a point is at it or above
from-means : (a b : ℕ) → Means (not (ltb a b)) (b ≤ a)
from-means a b = re-means (ltb-false a b) (le-ltb a b) (false-means (ltb a b))

-- the points of a moment of accepted events
module _ (m : Run) (a : Accepted m) where
  point-means : (few many : ℕ) → few ≤ 45000 → many ≤ 45000 → Means (below (vbat m) (cell_point few many m)) ((sample_of m).pack < point few many m)
  unfolding vbat
  point-means few many h k = rw (point-plain few many h k m a) (ltb-means (sample_of m).pack (point few many m))

  below-means : (share : ℕ) → Means (below_share (vbat m) (base_at m) share) ((sample_of m).pack * 1000 < base m * share)
  unfolding vbat below_share
  below-means share = rw (base-plain m a) (ltb-means ((sample_of m).pack * 1000) (base m * share))

  above-means : (share : ℕ) → Means (not (below_share (vbat m) (base_at m) share)) (base m * share ≤ (sample_of m).pack * 1000)
  unfolding vbat below_share
  above-means share = rw (base-plain m a) (from-means ((sample_of m).pack * 1000) (base m * share))

pub short-means : (r : Run) → Accepted r → Means (short r) (Short r)
unfolding short
short-means r a =
    since-in (λ m k. point-means m k 2150 2200 (omega arith) (omega arith))
    (λ m k. or-means (fault-or-on m) (point-means m k 1850 2000 (omega arith) (omega arith))) r a

pub low-means : (r : Run) → Accepted r → Means (low r) (Low r)
unfolding low
low-means r a =
    since-in (λ m k. below-means m k (low_ends m)) (λ m k. or-means (fault-or-on m) (below-means m k (low_ends m - 50))) r a

pub pack-means : (r : Run) → Accepted r → Means (pack_over r) (PackOver r)
unfolding pack_over
pack-means r a =
    since-in (λ m k. and-means (not-means (fault-or-on m)) (above-means m k 1020)) (λ m k. and-means (not-means (fault-or-on m)) (above-means m k 1040)) r a
