-- 01's numbers of the phases, and the sheet's of the bands.
use Rattle.std.specs.Prelude.{ℕ}
use Rattle.state_parts.specs.declared.band.Band.{Band}
use Rattle.state_parts.specs.declared.band.Band.TheVariants.{Normal, Cold, Cool, Warm, Hot, Mixed}
use Rattle.state_parts.specs.declared.band.TsBand.{TsBand}
use Rattle.state_parts.specs.declared.band.TsBand.TheVariants as ts
use Rattle.state_parts.specs.declared.phase.Phase.{Phase}
use Rattle.state_parts.specs.declared.phase.Phase.TheVariants.{Idle, Trickle, Precharge, Fast, Taper, Done, Suspended, Fault}

-- "0 idle, no permission; 7 fault, ..; 6 suspended, ..; 5 done; 1 trickle (short); 2 precharge (low); 4 taper, ..; 3 fast."
abbrev pub phase_number : Phase → ℕ
phase_number Idle = 0
phase_number Trickle = 1
phase_number Precharge = 2
phase_number Fast = 3
phase_number Taper = 4
phase_number Done = 5
phase_number Suspended = 6
phase_number Fault = 7

-- The sheet, table 6-37, TS_STAT: "000b = Normal 001b = TS Cold .. 010b = TS Hot .. 011b = TS Cool .. 100b = TS Warm". Of one thermistor's value,
abbrev pub ts_band_number : TsBand → ℕ
ts_band_number ts.Normal = 0
ts_band_number ts.Cold = 1
ts_band_number ts.Hot = 2
ts_band_number ts.Cool = 3
ts_band_number ts.Warm = 4

-- and of the pack
abbrev pub band_number : Band → ℕ
band_number Normal = 0
band_number Cold = 1
band_number Hot = 2
band_number Cool = 3
band_number Warm = 4
-- 02, R-7: "cool beside warm counts as a new band, apart"; house: 7, since 5 and 6 mean other things on another part of the maker's
band_number Mixed = 7
