-- 01, "Settling, in order": one settling of the whole state.
use Rattle.std.specs.Prelude.{Bool, not, ◌&&◌}
use Rattle.settle_bands.specs.Joined.{pack_band}
use Rattle.settle_bands.specs.Holding.{bands_of}
use Rattle.settle_levels.specs.Clamps.{fault_of}
use Rattle.settle_levels.specs.Comparators.{latches_of}
use Rattle.state_parts.specs.With.{with_settings, with_enchg}
use Rattle.state_parts.specs.declared.band.Band.{Band}
use Rattle.state_parts.specs.declared.band.Bands.{Bands}
use Rattle.state_parts.specs.declared.latches.Latches.{Latches}
use Rattle.state_parts.specs.declared.profile.Profile.{Profile}
use Rattle.state_parts.specs.declared.registers.Registers.{Registers}
use Rattle.state_parts.specs.declared.sample.Sample.{Sample}
use Rattle.state_parts.specs.declared.settings.Settings.{Settings}
use Rattle.state_parts.specs.declared.state.State.{State}
use Rattle.settle_all.specs.Gather.{tests_of}
use Rattle.settle_phases.specs.Cycles.{cycle_of}
use Rattle.settle_phases.specs.Order.{phase_of}
use Rattle.settle_phases.specs.declared.tests.Tests.{Tests}

-- "It forces EN_CHG 0."
abbrev pub stored_of : Bool → Settings → Settings
stored_of fault s = with_enchg s (s.enchg && not fault)

unfoldable pub forced_of : State → State
forced_of s = with_settings s (stored_of (fault_of s.profile s.registers) s.settings)

unfoldable pub settled_of : State → Latches → Bands → Tests → State
settled_of s k b t = record {
  profile = s.profile;
  settings = s.settings;
  registers = s.registers;
  latches = k;
  cycle = cycle_of t s.cycle;
  watchdog = s.watchdog;
  sample = s.sample;
  phase = phase_of t;
  bands = b;
  flags = s.flags;
}

-- pins, then EN_CHG, comparators, bands, tests, and the state by them; whatever the thermistors' bands are judged by, beside what is held, and the tests
abbrev pub Bander : Type 0
Bander = Profile → Registers → Sample → Bands → Bands

abbrev pub Tester : Type 0
Tester = State → Latches → Band → Bool → Tests

abbrev pub settle_with : Bander → Tester → State → Bool → State
settle_with band tests s observed =
    let f = forced_of s in
    let k = latches_of f.profile f.settings f.registers f.sample f.latches in
    let b = band f.profile f.registers f.sample f.bands in
    settled_of f k b (tests f k (pack_band b) observed)

-- by the tests of 01
abbrev pub settle_in : Bander → State → Bool → State
settle_in band s observed = settle_with band tests_of s observed

-- by the bands of the pack's edition
abbrev pub settle_by : Tester → State → Bool → State
settle_by tests s observed = settle_with bands_of tests s observed

unfoldable pub settle_of : State → Bool → State
settle_of s observed = settle_in bands_of s observed
