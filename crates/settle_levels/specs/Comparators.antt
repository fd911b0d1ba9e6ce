-- 01, "Settling, in order": the comparators of the input and the battery.
use Rattle.std.specs.Prelude.{ℕ, ◌-◌, ◌%◌, Bool, not, ◌&&◌, ◌||◌, [], ◌∷◌, get_or, leb}
use Rattle.base.specs.Pick.{pick}
use Rattle.base.specs.Units.{in_pack, below, below_share}
use Rattle.base.specs.Volts.{pack_of}
use Rattle.base.specs.declared.units.CellMv.{CellMv}
use Rattle.base.specs.declared.units.PackMv.{PackMv}
use Rattle.state_parts.specs.declared.latches.Latches.{Latches}
use Rattle.state_parts.specs.declared.profile.Profile.{Profile}
use Rattle.state_parts.specs.declared.registers.Registers.{Registers}
use Rattle.state_parts.specs.declared.sample.Sample.{Sample}
use Rattle.state_parts.specs.declared.settings.Settings.{Settings}
use Rattle.settle_levels.specs.Clamps.{fault_of, base_of}

-- on if it begins, or if it was on and nothing ends it
abbrev pub held : Bool → Bool → Bool → Bool
held begins stays was = begins || (was && stays)

-- "VIN ok from 2,900 up, lost below 2,350;"
abbrev pub input_ok_of : Profile → Sample → Bool → Bool
input_ok_of p x = held (leb 2900 x.input) (leb 2350 x.input)

-- "VIN over from 36,300, cleared below 34,500."
abbrev pub input_over_of : Profile → Sample → Bool → Bool
input_over_of p x = held (leb 36300 x.input) (leb 34500 x.input)

-- "Input good: ok and not over."
abbrev pub good_of : Latches → Bool
good_of k = k.inputok && not k.inputover

-- "Short ends at 2,150 per cell, returns below 1,850 (1-2 cells); 2,200 and 2,000 (3-7)."
abbrev pub short_returns_at : Profile → ℕ → CellMv
short_returns_at p cells = pick (leb cells 2) (record { 0 = 1850 }) (record { 0 = 2000 })

abbrev pub short_ends_at : Profile → ℕ → CellMv
short_ends_at p cells = pick (leb cells 2) (record { 0 = 2150 }) (record { 0 = 2200 })

abbrev pub short_returns : Profile → Registers → CellMv
short_returns p g = short_returns_at p g.cells

abbrev pub short_ends : Profile → Registers → CellMv
short_ends p g = short_ends_at p g.cells

unfoldable pub short_of : Profile → Registers → Sample → Bool → Bool
short_of p g x = held (below (pack_of x.pack) (in_pack (short_returns p g) g.cells)) (below (pack_of x.pack) (in_pack (short_ends p g) g.cells))

-- "Low ends at 30, 55, 66.7, 71.4% of base by VBAT_LOWV 0-3, returns 5 points lower."
abbrev pub low_ends_at : Profile → ℕ → ℕ
low_ends_at p code = get_or (300 ∷ 550 ∷ 667 ∷ 714 ∷ []) code 0

abbrev pub low_ends : Profile → Settings → ℕ
low_ends p s = low_ends_at p (s.lowv % 4)

abbrev pub low_returns : Profile → Settings → ℕ
low_returns p s = low_ends p s - 50

unfoldable pub low_of : Profile → Settings → PackMv → Sample → Bool → Bool
low_of p s base x = held (below_share (pack_of x.pack) base (low_returns p s)) (below_share (pack_of x.pack) base (low_ends p s))

-- "Battery over from 104%, cleared below 102%."
unfoldable pub pack_over_of : Profile → PackMv → Sample → Bool → Bool
pack_over_of p base x = held (not (below_share (pack_of x.pack) base 1040)) (not (below_share (pack_of x.pack) base 1020))

-- "Under a pin fault and at power-on: short, low, not over."
unfoldable pub latches_of : Profile → Settings → Registers → Sample → Latches → Latches
latches_of p s g x was =
    let fault = fault_of p g in
    let base = base_of p s g in
    record {
      inputok = input_ok_of p x was.inputok;
      inputover = input_over_of p x was.inputover;
      short = fault || short_of p g x was.short;
      low = fault || low_of p s base x was.low;
      packover = not fault && pack_over_of p base x was.packover;
    }
