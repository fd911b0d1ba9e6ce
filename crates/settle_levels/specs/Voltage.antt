-- 01, "Settling, in order": the charge voltage, taper and the recharge point.
use Rattle.std.specs.Prelude.{ℕ, ◌%◌, Bool, List, [], ◌∷◌, get_or}
use Rattle.settle_bands.specs.Effect.{cut_of}
use Rattle.base.specs.Units.{in_pack, less_of, below_share, within}
use Rattle.base.specs.Volts.{pack_of}
use Rattle.base.specs.declared.units.PackMv.{PackMv}
use Rattle.state_parts.specs.declared.band.Band.{Band}
use Rattle.state_parts.specs.declared.profile.Profile.{Profile}
use Rattle.state_parts.specs.declared.registers.Registers.{Registers}
use Rattle.state_parts.specs.declared.sample.Sample.{Sample}
use Rattle.state_parts.specs.declared.settings.Settings.{Settings}
use Rattle.settle_levels.specs.Clamps.{base_of}

-- "Charge voltage: base, less in warm 250, 100 or 0 per cell (JEITA_VSET 1-3)."
unfoldable pub charge_voltage_of : Profile → Settings → Registers → Band → PackMv
charge_voltage_of p s g b = less_of (base_of p s g) (in_pack (cut_of p g b) g.cells)

-- "4 taper, VBAT + 10 >= charge voltage"
unfoldable pub taper_of : PackMv → Sample → Bool
taper_of charge x = within (pack_of x.pack) charge 10

-- "VBAT is below 92.7, 94.1, 95.5, 97% .. by VRECHG 0-3": the recharge point, a share of the charge voltage. 02, R-1: "The recharge point .. is taken from the charge voltage after the
-- band's cut."
abbrev pub recharge_shares : List ℕ
recharge_shares = 927 ∷ 941 ∷ 955 ∷ 970 ∷ []

abbrev pub recharge_share_at : Profile → ℕ → ℕ
recharge_share_at p code = get_or recharge_shares code 0

abbrev pub recharge_share : Profile → Settings → ℕ
recharge_share p s = recharge_share_at p (s.vrechg % 4)

unfoldable pub below_recharge : Profile → Settings → PackMv → Sample → Bool
below_recharge p s charge x = below_share (pack_of x.pack) charge (recharge_share p s)
