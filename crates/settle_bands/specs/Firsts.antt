-- 01, "Slips to exclude": "judging cool before cold".
use Rattle.std.specs.Prelude.{ℕ, ◌≤◌, ◌≡◌, false}
use Rattle.state_parts.specs.declared.band.TsBand.TheVariants.{Cold, Hot}
use Rattle.state_parts.specs.declared.profile.Profile.{Profile}
use Rattle.state_parts.specs.declared.registers.Registers.{Registers}
use Rattle.settle_bands.specs.Thresholds.{th1_of, th5_of, ts_off, band_of}

-- a value from TH1 up is cold, wherever TH2 stands
abbrev pub ColdFirst : Type 0
ColdFirst = (p : Profile) (g : Registers) (ts : ℕ) → ts_off g ≡ false → th1_of p g ≤ ts → band_of p g ts ≡ Cold

-- a value up to TH5 is hot, wherever TH3 stands: no threshold for cold reaches down to one for hot
abbrev pub HotFirst : Type 0
HotFirst = (p : Profile) (g : Registers) (ts : ℕ) → ts_off g ≡ false → ts ≤ th5_of p g → band_of p g ts ≡ Hot
