-- Where short has ended there is a cell, and VBAT is far above what a taper below the recharge point would need.
use Prim.Native.Nat.{◌≤◌}
use mathlib.Core.Path.{◌≡◌}
use mathlib.Core.Bool.{Bool, true, false}
use native.Mathlib.Nat.{mul-le-mul}
use native.Mathlib.Omega.{arith}
use lib.Dec.{leb}
use borrow.Author.Tests.{ltb-false}
use Rattle.base.specs.Pick.{pick}
use Rattle.base.specs.Units.{in_pack}
use Rattle.base.proofs.Tests.{neither}
use Rattle.base.specs.declared.units.CellMv.{CellMv}
use Rattle.state_parts.specs.declared.latches.Latches.{Latches}
use Rattle.state_parts.specs.declared.profile.Profile.{Profile}
use Rattle.state_parts.specs.declared.registers.Registers.{Registers}
use Rattle.state_parts.specs.declared.sample.Sample.{Sample}
use Rattle.state_parts.specs.declared.settings.Settings.{Settings}
use Rattle.settle_levels.specs.Clamps.{fault_of}
use Rattle.settle_levels.specs.Comparators.{short_returns, short_of, latches_of}
use Rattle.settle_levels.specs.Theorems.{NoTaperBelowUnlessShort}
use Rattle.settle_levels.specs.Voltage.{charge_voltage_of}
use Rattle.settle_levels.proofs.Least.{some-cell}
use Rattle.settle_levels.proofs.Points.{taper-figure}

returns-least : (p : Profile) (g : Registers) → 1850 ≤ (short_returns p g).0
returns-least p g = by (leb g.cells 2)
  where
    by : (few : Bool) → 1850 ≤ (pick {A = CellMv} few (record { 0 = 1850 }) (record { 0 = 2000 })).0
    by true = omega arith
    by false = omega arith

module _ (p : Profile) (s : Settings) (g : Registers) (x : Sample) (was : Latches) (ended : (latches_of p s g x was).short ≡ false) where
  apart : (fault_of p g ≡ false) × (short_of p g x was.short ≡ false)
  unfolding latches_of
  apart = neither (fault_of p g) (short_of p g x was.short) ended

  pub ended-pack : 1850 ≤ x.pack
  unfolding short_of in_pack
  ended-pack =
      let point = ltb-false x.pack (in_pack (short_returns p g) g.cells).0 (neither _ _ apart.1).0 in
      let m = mul-le-mul (returns-least p g) (some-cell p g apart.0) in
      omega arith

pub no-taper-below-unless-short : NoTaperBelowUnlessShort
no-taper-below-unless-short p s g b x was ended = taper-figure.pack_suffices p s (charge_voltage_of p s g b) x (omega (arith, ended-pack p s g x was ended))
