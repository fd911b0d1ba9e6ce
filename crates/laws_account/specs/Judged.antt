-- The account, what settling judges of a moment before any phase: clamps, base, comparators, what the band does, permission.
use Rattle.std.specs.Prelude.{ℕ, ◌-◌, ◌%◌, Bool, true, false, not, ◌&&◌, ◌||◌, leb, eqb, pos}
use Rattle.std.specs.Int.Signed.{lt_z}
use Rattle.base.specs.Pick.{pick}
use Rattle.base.specs.Units.{in_pack, lower_of, less_of, below, below_share, within}
use Rattle.base.specs.Volts.{pack_of}
use Rattle.base.specs.declared.units.CellMv.{CellMv}
use Rattle.base.specs.declared.units.PackMv.{PackMv}
use Rattle.state_parts.specs.Pins.{vchg_of, ichg_of}
use Rattle.state_parts.specs.declared.band.Band.{Band}
use Rattle.state_parts.specs.declared.band.Band.TheVariants.{Normal, Cold, Cool, Warm, Hot, Mixed}
use Rattle.state_table.specs.Rows.{jeita_isetc, jeita_iseth, jeita_vset}
use Rattle.settle_bands.specs.Effect.{cool_share, warm_share, warm_cut}
use Rattle.settle_levels.specs.Comparators.{low_ends_at}
use Rattle.settle_levels.specs.Voltage.{recharge_share_at}
use Rattle.settle_permission.specs.Bits.{ce_high, hiz_high}
use Rattle.laws_account.specs.History.{Run, powered, ◌▸◌, since}
use Rattle.laws_account.specs.Held.{profile_of, sample_of, regulated, vchg, ichg, overridden, cells_of, field_at}
use Rattle.laws_account.specs.Valued.{pin_fault, setting_of, enabled}
use Rattle.laws_account.specs.Bands.{band_at}

unfoldable pub vbat : Run → PackMv
vbat r = pack_of (sample_of r).pack

-- "the pack clamp, which is vchg x cells or, with VCHG override, ceiling x cells"
unfoldable pub pack_clamp : Run → PackMv
pack_clamp r = in_pack (pick (overridden vchg r) (record { 0 = (profile_of r).ceiling }) (vchg_of (profile_of r))) (cells_of r)

-- "Base voltage: lower of VREG and the pack clamp"
unfoldable pub base_at : Run → PackMv
base_at r = lower_of (pack_of (setting_of 1 r)) (pack_clamp r)

-- "Charge clamp: ichg's value; with override 3,300."
unfoldable pub charge_clamp : Run → ℕ
charge_clamp r = pick (overridden ichg r) 3300 (ichg_of (profile_of r))

-- "VIN ok from 2,900 up, lost below 2,350;"
unfoldable pub input_ok : Run → Bool
input_ok = since (λ m. leb 2350 (sample_of m).input) (λ m. leb 2900 (sample_of m).input)

-- "VIN over from 36,300, cleared below 34,500."
unfoldable pub input_over : Run → Bool
input_over = since (λ m. leb 34500 (sample_of m).input) (λ m. leb 36300 (sample_of m).input)

-- "Input good: ok and not over."
unfoldable pub input_good : Run → Bool
input_good r = input_ok r && not (input_over r)

-- "Under a pin fault and at power-on: short, low, not over."
abbrev pub at_power_on : Run → Bool
at_power_on (powered p) = true
at_power_on (r ▸ e) = false

abbrev pub fault_or_on : Run → Bool
fault_or_on m = at_power_on m || pin_fault m

-- a point of 1-2 cells and of 3-7, per cell, in the pack
abbrev pub cell_point : ℕ → ℕ → Run → PackMv
cell_point few many m = in_pack (pick (leb (cells_of m) 2) (record { 0 = few }) (record { 0 = many })) (cells_of m)

-- "Short ends at 2,150 per cell, returns below 1,850 (1-2 cells); 2,200 and 2,000 (3-7)."
unfoldable pub short : Run → Bool
short = since (λ m. below (vbat m) (cell_point 2150 2200 m)) (λ m. fault_or_on m || below (vbat m) (cell_point 1850 2000 m))

-- "Low ends at 30, 55, 66.7, 71.4% of base by VBAT_LOWV 0-3, returns 5 points lower."
abbrev pub low_ends : Run → ℕ
low_ends m = low_ends_at (profile_of m) (setting_of 7 m % 4)

unfoldable pub low : Run → Bool
low = since (λ m. below_share (vbat m) (base_at m) (low_ends m)) (λ m. fault_or_on m || below_share (vbat m) (base_at m) (low_ends m - 50))

-- "Battery over from 104%, cleared below 102%."
unfoldable pub pack_over : Run → Bool
pack_over =
    since (λ m. not (fault_or_on m) && not (below_share (vbat m) (base_at m) 1020)) (λ m. not (fault_or_on m) && not (below_share (vbat m) (base_at m) 1040))

-- "6 suspended, cold, hot, cool with JEITA_ISETC 0, warm with JEITA_VSET 0"; 02, R-7: "a new band, apart, which suspends"
abbrev pub suspended_in : Band → Run → Bool
suspended_in Normal r = false
suspended_in Cold r = true
suspended_in Cool r = eqb (field_at jeita_isetc r) 0
suspended_in Warm r = eqb (field_at jeita_vset r) 0
suspended_in Hot r = true
suspended_in Mixed r = true

unfoldable pub suspended : Run → Bool
suspended r = suspended_in (band_at r) r

-- "times 20, 40, 100% in cool (ISETC 1-3), 40 or 100% in warm"
abbrev pub share_in : Band → Run → ℕ
share_in Normal r = 100
share_in Cold r = 100
share_in Cool r = cool_share (profile_of r) (field_at jeita_isetc r)
share_in Warm r = warm_share (profile_of r) (field_at jeita_iseth r)
share_in Hot r = 100
share_in Mixed r = 100

-- "less in warm 250, 100 or 0 per cell (JEITA_VSET 1-3)"
abbrev pub cut_in : Band → Run → CellMv
cut_in Normal r = record { 0 = 0 }
cut_in Cold r = record { 0 = 0 }
cut_in Cool r = record { 0 = 0 }
cut_in Warm r = warm_cut (profile_of r) (field_at jeita_vset r)
cut_in Hot r = record { 0 = 0 }
cut_in Mixed r = record { 0 = 0 }

-- "Charge voltage: base, less in warm .. per cell"
unfoldable pub charge_voltage : Run → PackMv
charge_voltage r = less_of (base_at r) (in_pack (cut_in (band_at r) r) (cells_of r))

-- "no HIZ (EN_HIZ, or EN_EXTILIM with the pin high)"
abbrev pub high_z : Run → Bool
high_z r = enabled 11 r || (enabled 12 r && hiz_high (sample_of r))

-- "Permission: input good, no HIZ .., EN_CHG, CE low, no pin fault."
unfoldable pub permitted : Run → Bool
permitted r = input_good r && not (high_z r) && enabled 9 r && not (ce_high (sample_of r)) && not (pin_fault r)

-- "4 taper, VBAT + 10 >= charge voltage"
unfoldable pub tapering : Run → Bool
tapering r = within (vbat r) (charge_voltage r) 10

-- "VBAT is below 92.7, 94.1, 95.5, 97% .. by VRECHG 0-3", and 02, R-1: "The recharge point .. is taken from the charge voltage after the band's cut."
unfoldable pub recharge_due : Run → Bool
recharge_due r = below_share (vbat r) (charge_voltage r) (recharge_share_at (profile_of r) (setting_of 8 r % 4))

-- "EN_TERM, IBAT < ITERM, no regulation"
unfoldable pub ending : Run → Bool
ending r = enabled 10 r && lt_z (sample_of r).ibat (pos (setting_of 4 r)) && not (regulated r)
