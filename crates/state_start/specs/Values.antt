-- 01, "Settings (start values are house)", and the rest of what a power-on begins with. A register reset takes start values by the CELL_PIN held then, so the count is handed in.
use Rattle.std.specs.Prelude.{ℕ, true, false, ◌||◌, eqb, pos}
use Rattle.base.specs.Pick.{pick}
use Rattle.base.specs.Units.{in_pack}
use Rattle.base.specs.Volts.{pack_of}
use Rattle.base.specs.declared.units.PackMv.{PackMv}
use Rattle.state_fields.specs.Held.{start_words}
use Rattle.state_parts.specs.Edges.{no_flags}
use Rattle.state_parts.specs.Pins.{vchg_of, ichg_of}
use Rattle.state_parts.specs.declared.band.Bands.{Bands}
use Rattle.state_parts.specs.declared.band.TsBand.TheVariants.{Normal}
use Rattle.state_parts.specs.declared.cycle.Cycle.{Cycle}
use Rattle.state_parts.specs.declared.latches.Latches.{Latches}
use Rattle.state_parts.specs.declared.phase.Phase.TheVariants.{Idle}
use Rattle.state_parts.specs.declared.profile.Profile.{Profile}
use Rattle.state_parts.specs.declared.registers.Registers.{Registers}
use Rattle.state_parts.specs.declared.sample.Sample.{Sample}
use Rattle.state_parts.specs.declared.settings.Settings.{Settings}
use Rattle.state_parts.specs.declared.state.State.{State}
use Rattle.state_parts.specs.declared.watchdog.Watchdog.{Watchdog}

-- "1 VREG .. starts at vchg x cells (either code 0: 2,400)."
unfoldable pub start_vreg : Profile → ℕ → PackMv
start_vreg p cells = pick (eqb p.vchg 0 || eqb cells 0) (pack_of 2400) (in_pack (vchg_of p) cells)

-- "2 ICHG .. starts at its pin (code 0: 40)."
unfoldable pub start_ichg : Profile → ℕ
start_ichg p = pick (eqb p.ichg 0) 40 (ichg_of p)

-- "6 VSYSMIN .. starts 3,100 x cells (one cell 3,500; code 0: 3,000)."
unfoldable pub start_vsysmin : Profile → ℕ → PackMv
start_vsysmin p cells = pick (eqb cells 0) (pack_of 3000) (pick (eqb cells 1) (pack_of 3500) (in_pack (record { 0 = 3100 }) cells))

-- "3 IPRECHG, 4 ITERM .. start 120, 60. 5 IINDPM .. starts 3,300. .. 7 VBAT_LOWV, 8 VRECHG 0-3, start 3. 9 EN_CHG, 10 EN_TERM, 12 EN_EXTILIM 0-1, start 1. 11 EN_HIZ,
-- 13 DIS_STAT_PIN 0-1, start 0. 14 masks 0-4,095, starts 0."
unfoldable pub start_settings : Profile → ℕ → Settings
start_settings p cells = record {
  vreg = start_vreg p cells;
  ichg = start_ichg p;
  iprechg = 120;
  iterm = 60;
  iindpm = 3300;
  vsysmin = start_vsysmin p cells;
  lowv = 3;
  vrechg = 3;
  enchg = true;
  enterm = true;
  enhiz = false;
  enextilim = true;
  disstat = false;
  masks = 0;
}

-- "Resets: 00 E1 AA 95 D7 40; 0x1B and 0x1C start with pin codes, overrides 0."
abbrev pub start_registers : Profile → Registers
start_registers p = record { words = start_words p; cells = p.cell }

-- "before the first observation after a power-on it is TS 55,000 and zeros", both thermistors'; its stamp is the power-on's
abbrev pub start_sample : Profile → Sample
start_sample p = record { stamp = p.stamp; input = 0; pack = 0; ibat = pos 0; ts = 55000; secondts = 55000; bits = 0 }

-- "A cycle starts where they last cleared": no stage has a time, and nothing is done
abbrev pub start_cycle : Cycle
start_cycle = record { trickle = 0; precharge = 0; fast = 0; done = false }

abbrev pub start_watchdog : Watchdog
start_watchdog = record { count = 0 }

-- "Under a pin fault and at power-on: short, low, not over."
abbrev pub start_latches : Latches
start_latches = record { inputok = false; inputover = false; short = true; low = true; packover = false }

-- a band other than normal is entered by a judgement: both thermistors start with normal
abbrev pub start_bands : Bands
start_bands = record { first = Normal; second = Normal }

-- what a power-on begins with, before it settles
unfoldable pub start_state : Profile → State
start_state p = record {
  profile = p;
  settings = start_settings p p.cell;
  registers = start_registers p;
  latches = start_latches;
  cycle = start_cycle;
  watchdog = start_watchdog;
  sample = start_sample p;
  phase = Idle;
  bands = start_bands;
  flags = no_flags;
}
