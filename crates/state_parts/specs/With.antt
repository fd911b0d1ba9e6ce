-- A state, profile, settings or registers with one part changed, and every other as it was.
use Rattle.std.specs.Prelude.{ℕ, Bool}
use Rattle.base.specs.declared.units.PackMv.{PackMv}
use Rattle.state_parts.specs.declared.band.Bands.{Bands}
use Rattle.state_parts.specs.declared.cycle.Cycle.{Cycle}
use Rattle.state_parts.specs.declared.latches.Latches.{Latches}
use Rattle.state_parts.specs.declared.profile.Profile.{Profile}
use Rattle.state_parts.specs.declared.registers.Registers.{Registers}
use Rattle.state_parts.specs.declared.sample.Sample.{Sample}
use Rattle.state_parts.specs.declared.settings.Settings.{Settings}
use Rattle.state_parts.specs.declared.state.State.{State}
use Rattle.state_parts.specs.declared.watchdog.Watchdog.{Watchdog}
use Rattle.state_parts.specs.declared.words.Words.{Words}

abbrev pub with_profile : State → Profile → State
with_profile s p = record {
  profile = p;
  settings = s.settings;
  registers = s.registers;
  latches = s.latches;
  cycle = s.cycle;
  watchdog = s.watchdog;
  sample = s.sample;
  phase = s.phase;
  bands = s.bands;
  flags = s.flags;
}

abbrev pub with_settings : State → Settings → State
with_settings s t = record {
  profile = s.profile;
  settings = t;
  registers = s.registers;
  latches = s.latches;
  cycle = s.cycle;
  watchdog = s.watchdog;
  sample = s.sample;
  phase = s.phase;
  bands = s.bands;
  flags = s.flags;
}

abbrev pub with_registers : State → Registers → State
with_registers s g = record {
  profile = s.profile;
  settings = s.settings;
  registers = g;
  latches = s.latches;
  cycle = s.cycle;
  watchdog = s.watchdog;
  sample = s.sample;
  phase = s.phase;
  bands = s.bands;
  flags = s.flags;
}

abbrev pub with_latches : State → Latches → State
with_latches s k = record {
  profile = s.profile;
  settings = s.settings;
  registers = s.registers;
  latches = k;
  cycle = s.cycle;
  watchdog = s.watchdog;
  sample = s.sample;
  phase = s.phase;
  bands = s.bands;
  flags = s.flags;
}

abbrev pub with_cycle : State → Cycle → State
with_cycle s c = record {
  profile = s.profile;
  settings = s.settings;
  registers = s.registers;
  latches = s.latches;
  cycle = c;
  watchdog = s.watchdog;
  sample = s.sample;
  phase = s.phase;
  bands = s.bands;
  flags = s.flags;
}

abbrev pub with_watchdog : State → Watchdog → State
with_watchdog s w = record {
  profile = s.profile;
  settings = s.settings;
  registers = s.registers;
  latches = s.latches;
  cycle = s.cycle;
  watchdog = w;
  sample = s.sample;
  phase = s.phase;
  bands = s.bands;
  flags = s.flags;
}

abbrev pub with_sample : State → Sample → State
with_sample s x = record {
  profile = s.profile;
  settings = s.settings;
  registers = s.registers;
  latches = s.latches;
  cycle = s.cycle;
  watchdog = s.watchdog;
  sample = x;
  phase = s.phase;
  bands = s.bands;
  flags = s.flags;
}

abbrev pub with_bands : State → Bands → State
with_bands s b = record {
  profile = s.profile;
  settings = s.settings;
  registers = s.registers;
  latches = s.latches;
  cycle = s.cycle;
  watchdog = s.watchdog;
  sample = s.sample;
  phase = s.phase;
  bands = b;
  flags = s.flags;
}

abbrev pub with_flags : State → ℕ → State
with_flags s f = record {
  profile = s.profile;
  settings = s.settings;
  registers = s.registers;
  latches = s.latches;
  cycle = s.cycle;
  watchdog = s.watchdog;
  sample = s.sample;
  phase = s.phase;
  bands = s.bands;
  flags = f;
}

abbrev pub with_enchg : Settings → Bool → Settings
with_enchg t enchg = record {
  vreg = t.vreg;
  ichg = t.ichg;
  iprechg = t.iprechg;
  iterm = t.iterm;
  iindpm = t.iindpm;
  vsysmin = t.vsysmin;
  lowv = t.lowv;
  vrechg = t.vrechg;
  enchg = enchg;
  enterm = t.enterm;
  enhiz = t.enhiz;
  enextilim = t.enextilim;
  disstat = t.disstat;
  masks = t.masks;
}

-- VREG and VSYSMIN, which a cell count moves together
abbrev pub with_volts : Settings → PackMv → PackMv → Settings
with_volts t vreg vsysmin = record {
  vreg = vreg;
  ichg = t.ichg;
  iprechg = t.iprechg;
  iterm = t.iterm;
  iindpm = t.iindpm;
  vsysmin = vsysmin;
  lowv = t.lowv;
  vrechg = t.vrechg;
  enchg = t.enchg;
  enterm = t.enterm;
  enhiz = t.enhiz;
  enextilim = t.enextilim;
  disstat = t.disstat;
  masks = t.masks;
}

abbrev pub with_edition : Profile → ℕ → Profile
with_edition p edition = record {
  cell = p.cell;
  vchg = p.vchg;
  ichg = p.ichg;
  ohms = p.ohms;
  stamp = p.stamp;
  ceiling = p.ceiling;
  trickle = p.trickle;
  precharge = p.precharge;
  fast = p.fast;
  watchdog = p.watchdog;
  edition = edition;
}

abbrev pub with_cells : Registers → ℕ → Registers
with_cells g cells = record { words = g.words; cells = cells }

abbrev pub with_words : Registers → Words → Registers
with_words g words = record { words = words; cells = g.cells }
