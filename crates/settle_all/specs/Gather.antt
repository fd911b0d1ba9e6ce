-- 01, "Settling, in order": the tests of a state.
use Rattle.std.specs.Prelude.{Bool, ◌||◌}
use Rattle.settle_bands.specs.Effect.{suspends_of}
use Rattle.settle_levels.specs.Voltage.{charge_voltage_of, taper_of, below_recharge}
use Rattle.state_parts.specs.declared.band.Band.{Band}
use Rattle.state_parts.specs.declared.cycle.Cycle.{Cycle}
use Rattle.state_parts.specs.declared.latches.Latches.{Latches}
use Rattle.state_parts.specs.declared.profile.Profile.{Profile}
use Rattle.state_parts.specs.declared.sample.Sample.{Sample}
use Rattle.state_parts.specs.declared.state.State.{State}
use Rattle.settle_permission.specs.Bits.{shutdown_of}
use Rattle.settle_permission.specs.Ending.{ending_of}
use Rattle.settle_permission.specs.Limits.{reached_of}
use Rattle.settle_permission.specs.Permission.{permitted_of}
use Rattle.settle_phases.specs.Order.{is_taper}
use Rattle.settle_phases.specs.declared.tests.Tests.{Tests}

-- "7 fault, thermal shutdown, battery over or a stage limit reached"
abbrev pub bad_of : Profile → Sample → Latches → Cycle → Bool
bad_of p x k c = shutdown_of x || k.packover || reached_of p c

-- taper and the recharge point go by one charge voltage, that of the band as this settling judges it
unfoldable pub tests_of : State → Latches → Band → Bool → Tests
tests_of s k b observed =
    let charge = charge_voltage_of s.profile s.settings s.registers b in
    record {
      permitted = permitted_of s.profile s.settings s.registers s.sample k;
      fault = bad_of s.profile s.sample k s.cycle;
      suspended = suspends_of s.profile s.registers b;
      done = s.cycle.done;
      recharge = below_recharge s.profile s.settings charge s.sample;
      short = k.short;
      low = k.low;
      taper = taper_of charge s.sample;
      observed = observed;
      tapered = is_taper s.phase;
      ending = ending_of s.settings s.sample;
    }
