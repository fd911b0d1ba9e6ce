-- The least charge voltage, by the bounds of the tables: of VREG, of the pins and the ceiling, of the cuts and of the cell count.
use Prim.Native.Nat.{◌≤◌}
use mathlib.Core.Path.{◌≡◌, refl, ap}
use mathlib.Core.Bool.{Bool, true, false, not, ◌&&◌, ◌||◌, true≢false}
use native.Mathlib.Nat.{mul-le-mul}
use native.Mathlib.Omega.{arith}
use lib.Dec.{leb, eqb}
use borrow.Author.Tests.{leb-false, eqb-false}
use Rattle.base.specs.Pick.{pick}
use Rattle.base.specs.Units.{in_pack}
use Rattle.base.specs.Volts.{pack_of}
use Rattle.base.specs.declared.units.PackMv.{PackMv}
use Rattle.base.proofs.Table.{table-most}
use Rattle.state_fields.specs.Held.{field_of}
use Rattle.state_table.specs.Rows.{jeita_vset}
use Rattle.state_parts.specs.Pins.{vchg_of}
use Rattle.state_parts.proofs.Codes.{least-pin}
use Rattle.state_parts.specs.declared.band.Band.{Band}
use Rattle.state_fields.specs.Held.{is_set}
use Rattle.state_table.specs.Rows.{vchg_override, ichg_override}
use Rattle.state_parts.specs.declared.profile.Profile.{Profile}
use Rattle.state_parts.specs.declared.registers.Registers.{Registers}
use Rattle.state_parts.specs.declared.settings.Settings.{Settings}
use Rattle.state_settings.proofs.Least.{least-vreg}
use Rattle.state_valid.specs.Holds.{PartsPass}
use Rattle.state_valid.proofs.Bounds.{profile-bounds, few-cells}
use Rattle.settle_bands.specs.Effect.{is_warm, warm_cuts, warm_cut, cut_of}
use Rattle.settle_levels.specs.Clamps.{fault_of, pack_clamp_of, base_of}
use Rattle.settle_levels.specs.Theorems.{HighestCut, LeastVoltage, NoTaperBelow}
use Rattle.settle_levels.specs.Voltage.{charge_voltage_of}
use Rattle.settle_levels.proofs.Points.{taper-figure}

pub highest-cut : HighestCut
highest-cut p code = table-most warm_cuts 250 tt code

cut_most : (p : Profile) (g : Registers) (b : Band) → (cut_of p g b).0 ≤ 250
unfolding cut_of
cut_most p g b = by (is_warm b)
  where
    by : (t : Bool) → (pick t (warm_cut p (field_of jeita_vset g)) (record { 0 = 0 })).0 ≤ 250
    by true = highest-cut p (field_of jeita_vset g)
    by false = omega arith

-- without a pin fault there is a cell, and a vchg code or its override
pinned : (none unset lifted other : Bool) → ((none || (unset && not lifted)) || other) ≡ false → (none ≡ false) × (lifted ≡ false → unset ≡ false)
pinned true unset lifted other e = absurd (true≢false e)
pinned false true false other e = absurd (true≢false e)
pinned false true true other e = (refl, λ l. absurd (true≢false l))
pinned false false lifted other e = (refl, λ l. refl)

module _ (p : Profile) (g : Registers) (sound : fault_of p g ≡ false) where
  pins : (eqb g.cells 0 ≡ false) × (is_set vchg_override g ≡ false → eqb p.vchg 0 ≡ false)
  unfolding fault_of
  pins = pinned (eqb g.cells 0) (eqb p.vchg 0) (is_set vchg_override g) (eqb p.ichg 0 && not (is_set ichg_override g)) sound

  pub some-cell : 1 ≤ g.cells
  some-cell = omega (arith, eqb-false g.cells 0 pins.0)

  some-code : is_set vchg_override g ≡ false → 1 ≤ p.vchg
  some-code e = omega (arith, eqb-false p.vchg 0 (pins.1 e))

module _ (p : Profile) (s : Settings) (g : Registers) (k : PartsPass p s g) (sound : fault_of p g ≡ false) where
  -- what a cell may be charged to
  each-least : (lifted : Bool) → is_set vchg_override g ≡ lifted → 3500 ≤ (pick lifted (record { 0 = p.ceiling }) (vchg_of p)).0
  each-least true e = let b = profile-bounds p k.profile in omega (arith, b.ceiling_least)
  each-least false e = least-pin p (some-code p g sound e) (profile-bounds p k.profile).vchg

  clamp-least : 3500 ≤ (pack_clamp_of p g).0
  unfolding pack_clamp_of in_pack
  clamp-least = let m = mul-le-mul (each-least (is_set vchg_override g) refl) (some-cell p g sound) in omega arith

  base-least : 2400 ≤ (base_of p s g).0
  unfolding base_of
  base-least = by (leb s.vreg.0 (pack_clamp_of p g).0)
    where
      by : (t : Bool) → 2400 ≤ (pick t s.vreg (pack_clamp_of p g)).0
      by true = least-vreg p s k.settings
      by false = omega (arith, clamp-least)

  base-most : (base_of p s g).0 ≤ s.vreg.0
  unfolding base_of
  base-most = by (leb s.vreg.0 (pack_clamp_of p g).0) refl
    where
      by : (t : Bool) → leb s.vreg.0 (pack_clamp_of p g).0 ≡ t → (pick t s.vreg (pack_clamp_of p g)).0 ≤ s.vreg.0
      by true e = omega arith
      by false e = omega (arith, leb-false s.vreg.0 (pack_clamp_of p g).0 e)

  module _ (b : Band) where
    -- "less .. 250 .. per cell": of seven cells 1,750
    pack-cut-most : (in_pack (cut_of p g b) g.cells).0 ≤ 1750
    unfolding in_pack
    pack-cut-most = let m = mul-le-mul (cut_most p g b) (few-cells p g k.registers) in omega arith

    voltage-least : 650 ≤ (charge_voltage_of p s g b).0
    unfolding charge_voltage_of
    voltage-least = omega (arith, base-least, pack-cut-most)

    voltage-met : s.vreg ≡ pack_of 2400 → g.cells ≡ 7 → (cut_of p g b).0 ≡ 250 → (charge_voltage_of p s g b).0 ≡ 650
    unfolding charge_voltage_of in_pack
    voltage-met vreg cells cut =
        let whole : (in_pack (cut_of p g b) g.cells).0 ≡ 1750 = simp (cut, cells) refl in
        omega (arith, whole, base-least, base-most, ap (λ (v : PackMv). v.0) vreg)

pub least-voltage : LeastVoltage
least-voltage = record { least = λ p s g b k sound. voltage-least p s g k sound b; met = λ p s g b k sound. voltage-met p s g k sound b }

pub no-taper-below : NoTaperBelow
no-taper-below p s g b x k sound = taper-figure.suffices p s (charge_voltage_of p s g b) x (omega (arith, voltage-least p s g k sound b))
