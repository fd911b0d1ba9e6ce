-- VBAT at or above the charge voltage, or so near it that the current tapers, isn't below the recharge point.
use Prim.Native.Nat.{ℕ, ◌%◌, ◌*◌, ◌+◌, ◌≤◌, ◌<◌}
use mathlib.Core.Path.{◌≡◌, refl}
use mathlib.Core.Bool.{true, false}
use native.Mathlib.Nat.{mul-le-mul}
use native.Mathlib.Omega.{arith}
use borrow.Author.Tests.{le-ltb, leb-true}
use Rattle.base.specs.Units.{below_share}
use Rattle.base.proofs.Table.{table-most}
use Rattle.base.specs.declared.units.PackMv.{PackMv}
use Rattle.state_parts.specs.declared.profile.Profile.{Profile}
use Rattle.state_parts.specs.declared.sample.Sample.{Sample}
use Rattle.state_parts.specs.declared.settings.Settings.{Settings}
use Rattle.settle_levels.specs.Theorems.{HighestShare, FullAtVoltage, TaperFigure}
use Rattle.settle_levels.specs.Voltage.{recharge_shares, recharge_share_at, taper_of, below_recharge}

pub highest-share : HighestShare
highest-share p code = table-most recharge_shares 970 tt code

-- a share of at most 97%
pub share-below : (whole now share : ℕ) → share ≤ 970 → whole ≤ now → whole * share ≤ now * 1000
share-below whole now share h k = let m = mul-le-mul k h in omega arith

-- and of what is at most 10 above
pub share-below-taper : (whole now share : ℕ) → share ≤ 970 → 323 < now → whole ≤ now + 10 → whole * share ≤ now * 1000
share-below-taper whole now share h l k = let m = mul-le-mul k h in omega arith

pub full-at-voltage : FullAtVoltage
unfolding below_recharge below_share
full-at-voltage p s charge x h =
    le-ltb (x.pack * 1000) (charge.0 * recharge_share_at p (s.vrechg % 4)) (share-below charge.0 x.pack _ (highest-share p (s.vrechg % 4)) h)

module _ (p : Profile) (s : Settings) (charge : PackMv) (x : Sample) where
  near : taper_of charge x ≡ true → charge.0 ≤ x.pack + 10
  unfolding taper_of
  near tapers = omega (arith, leb-true charge.0 _ tapers)

  above : 323 < x.pack → taper_of charge x ≡ true → below_recharge p s charge x ≡ false
  unfolding below_recharge below_share
  above l tapers =
      le-ltb (x.pack * 1000) (charge.0 * recharge_share_at p (s.vrechg % 4))
      (share-below-taper charge.0 x.pack _ (highest-share p (s.vrechg % 4)) l (near tapers))

pub taper-figure : TaperFigure
unfolding taper_of below_recharge below_share
taper-figure = record {
  suffices = λ p s charge x l tapers. above p s charge x (omega (arith, near p s charge x tapers)) tapers;
  pack_suffices = above;
  needed = λ p s x code now. simp (code, now) (refl, refl);
}
