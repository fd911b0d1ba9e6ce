-- What is proved of the charge voltage and of the recharge point, of every profile, settings, registers and sample.
use Rattle.std.specs.Prelude.{ℕ, ◌≤◌, ◌<◌, ◌≡◌, true, false}
use Rattle.base.specs.Volts.{pack_of}
use Rattle.base.specs.declared.units.PackMv.{PackMv}
use Rattle.state_parts.specs.declared.band.Band.{Band}
use Rattle.state_parts.specs.declared.latches.Latches.{Latches}
use Rattle.state_parts.specs.declared.profile.Profile.{Profile}
use Rattle.state_parts.specs.declared.registers.Registers.{Registers}
use Rattle.state_parts.specs.declared.sample.Sample.{Sample}
use Rattle.state_parts.specs.declared.settings.Settings.{Settings}
use Rattle.state_valid.specs.Holds.{PartsPass}
use Rattle.settle_bands.specs.Effect.{warm_cut, cut_of}
use Rattle.settle_levels.specs.Clamps.{fault_of}
use Rattle.settle_levels.specs.Comparators.{latches_of}
use Rattle.settle_levels.specs.Voltage.{charge_voltage_of, taper_of, recharge_share_at, below_recharge}

-- "92.7, 94.1, 95.5, 97%": no point is above 97% of the charge voltage
abbrev pub HighestShare : Type 0
HighestShare = (p : Profile) (code : ℕ) → recharge_share_at p code ≤ 970

-- so VBAT at or above the charge voltage isn't below it
abbrev pub FullAtVoltage : Type 0
FullAtVoltage = (p : Profile) (s : Settings) (charge : PackMv) (x : Sample) → charge.0 ≤ x.pack → below_recharge p s charge x ≡ false

-- "less in warm 250, 100 or 0 per cell": no cut is above 250
abbrev pub HighestCut : Type 0
HighestCut = (p : Profile) (code : ℕ) → (warm_cut p code).0 ≤ 250

-- 02, R-2: "a taper sample below R-1's recharge point". At most 10 mV below the charge voltage, and below 97% of it: that leaves 30 thousandths of it less than 10 mV. So there is
-- none at a charge voltage above 333 mV, and none with VBAT above 323 mV; at 333 mV and 323 mV there is one
pub record TaperFigure : Type 0 where
  pub suffices : (p : Profile) (s : Settings) (charge : PackMv) (x : Sample) → 333 < charge.0 → taper_of charge x ≡ true → below_recharge p s charge x ≡ false
  pub pack_suffices : (p : Profile) (s : Settings) (charge : PackMv) (x : Sample) → 323 < x.pack → taper_of charge x ≡ true → below_recharge p s charge x ≡ false
  pub needed : (p : Profile) (s : Settings) (x : Sample) → s.vrechg ≡ 3 → x.pack ≡ 323 → (taper_of (pack_of 333) x ≡ true) × (below_recharge p s (pack_of 333) x ≡ true)

-- the least charge voltage without a pin fault: "VREG 2,400, seven cells, cut 250 gives 650", and nothing gives less
pub record LeastVoltage : Type 0 where
  pub least : (p : Profile) (s : Settings) (g : Registers) (b : Band) → PartsPass p s g → fault_of p g ≡ false → 650 ≤ (charge_voltage_of p s g b).0
  pub met : (p : Profile) (s : Settings) (g : Registers) (b : Band) → PartsPass p s g → fault_of p g ≡ false
      → s.vreg ≡ pack_of 2400 → g.cells ≡ 7 → (cut_of p g b).0 ≡ 250 → (charge_voltage_of p s g b).0 ≡ 650

-- "Show that none exists at any setting, cell count or VRECHG value": nor in any band, under any clamp, at any ceiling or cut
abbrev pub NoTaperBelow : Type 0
NoTaperBelow =
    (p : Profile) (s : Settings) (g : Registers) (b : Band) (x : Sample) → PartsPass p s g → fault_of p g ≡ false
    → taper_of (charge_voltage_of p s g b) x ≡ true → below_recharge p s (charge_voltage_of p s g b) x ≡ false

-- and where a sample tapers and short has ended, as phase 4 asks, none exists whatever is held: VBAT is then 1,850 mV or more
abbrev pub NoTaperBelowUnlessShort : Type 0
NoTaperBelowUnlessShort =
    (p : Profile) (s : Settings) (g : Registers) (b : Band) (x : Sample) (was : Latches) → (latches_of p s g x was).short ≡ false
    → taper_of (charge_voltage_of p s g b) x ≡ true → below_recharge p s (charge_voltage_of p s g b) x ≡ false
