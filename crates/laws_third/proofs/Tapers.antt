-- 02, R-2: after no run of accepted events does a sample taper below the recharge point.
use Prim.Native.Nat.{◌%◌, ◌+◌, ◌≤◌}
use native.Mathlib.Omega.{arith}
use mathlib.Core.Path.{◌≡◌, sym, subst, ap, ◌∙◌}
use mathlib.Core.Bool.{false}
use Rattle.base.specs.Volts.{millivolts_of}
use Rattle.state_parts.specs.declared.band.Band.{Band}
use Rattle.state_valid.specs.Holds.{PartsPass}
use Rattle.settle_levels.specs.Clamps.{fault_of}
use Rattle.settle_levels.proofs.Least.{least-voltage}
use Rattle.settle_levels.proofs.Points.{highest-share, share-below-taper}
use Rattle.laws_account.specs.History.{Run}
use Rattle.laws_account.specs.Held.{profile_of, sample_of}
use Rattle.laws_account.specs.Valued.{setting_of, pin_fault}
use Rattle.laws_account.specs.Bands.{band_at}
use Rattle.laws_account.specs.Refused.{Accepted}
use Rattle.laws_account.specs.States.{settings_at, registers_at, state_by}
use Rattle.laws_account.proofs.Judging.{voltage-is, fault-is}
use Rattle.laws_third.specs.Crossed.{PinFault}
use Rattle.laws_third.specs.Banded.{charge_to}
use Rattle.laws_third.specs.Laws.{TapersAbovePoint, EndsAbovePoint}
use Rattle.laws_third.proofs.Bands.{only-band, voltage-plain}
use Rattle.laws_third.proofs.Crossings.{pins-mean}
use Rattle.laws_third.proofs.Means.{false-means, not-means}
use Rattle.laws_third.proofs.Packs.{holding}

module _ (r : Run) (a : Accepted r) where
  parts-pass : PartsPass (profile_of r) (settings_at r) (registers_at r)
  unfolding state_by
  parts-pass = let k = holding r a in record { profile = k.profile; settings = k.settings; registers = k.registers }

  unfaulty : ¬ PinFault r → fault_of (profile_of r) (registers_at r) ≡ false
  unfaulty sound = fault-is r ∙ (false-means (pin_fault r)).fact ((not-means (pins-mean r)).test sound)

  -- "the least is 650": in the band that holds
  least : ¬ PinFault r → (b : Band) → band_at r ≡ b → 650 ≤ charge_to b r
  least sound b e =
      subst (λ (b : Band). 650 ≤ charge_to b r) e
      (subst (λ n. 650 ≤ n) (ap millivolts_of (voltage-is r) ∙ voltage-plain r a)
      (least-voltage.least (profile_of r) (settings_at r) (registers_at r) (band_at r) parts-pass (unfaulty sound)))

pub tapers-above-point : TapersAbovePoint
tapers-above-point r a sound tapers below =
    let same : tapers.0 ≡ below.0 = sym (only-band r tapers.0 tapers.1) ∙ only-band r below.0 below.1 in
    let near = subst (λ (b : Band). charge_to b r ≤ (sample_of r).pack + 10) same tapers.2 in
    let share = highest-share (profile_of r) (setting_of 8 r % 4) in
    let high = least r a sound below.0 (only-band r below.0 below.1) in
    omega (arith, share-below-taper (charge_to below.0 r) (sample_of r).pack _ share (omega (arith, high, near)) near, below.2)

pub ends-above-point : EndsAbovePoint
ends-above-point r a ends = tapers-above-point r a ends.allowed.permitted.pinned ends.charged.2
