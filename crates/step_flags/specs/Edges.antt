-- 01: "Flags, on an edge between the state before the event and the state after settling, masked or not".
use Rattle.std.specs.Prelude.{not, eqb}
use Rattle.state_parts.specs.Numbers.{phase_number, band_number}
use Rattle.state_parts.specs.declared.flags.Edges.{Edges}
use Rattle.state_parts.specs.declared.state.State.{State}
use Rattle.settle_bands.specs.Joined.{pack_band}
use Rattle.settle_levels.specs.Comparators.{good_of}
use Rattle.settle_permission.specs.Bits.{iindpm_of, vindpm_of, thermal_of, shutdown_of}
use Rattle.settle_permission.specs.Limits.{reached_of}
use Rattle.step_flags.specs.Expiry.{expired_of, begins}
use Rattle.step_flags.specs.declared.between.Seen.{Seen}

-- what the flags are edges of, as it stands in a state
unfoldable pub seen_of : State → Seen
seen_of s = record {
  good = good_of s.latches;
  iindpm = iindpm_of s.sample;
  vindpm = vindpm_of s.sample;
  thermal = thermal_of s.sample;
  expired = expired_of s.profile s.watchdog;
  phase = phase_number s.phase;
  band = band_number (pack_band s.bands);
  inputover = s.latches.inputover;
  shutdown = shutdown_of s.sample;
  packover = s.latches.packover;
  limit = reached_of s.profile s.cycle;
}

-- "bit 0 input good, 1 input lost, 2-4 IINDPM, VINDPM, thermal regulation begin, 5 watchdog expired, 6 phase changed, 7 band changed, 8 VIN over, 9 thermal shutdown,
-- 10 battery over, 11 a first limit reached."
unfoldable pub edges_of : Seen → Seen → Edges
edges_of was is = record {
  good = begins was.good is.good;
  lost = begins is.good was.good;
  iindpm = begins was.iindpm is.iindpm;
  vindpm = begins was.vindpm is.vindpm;
  thermal = begins was.thermal is.thermal;
  expired = begins was.expired is.expired;
  phase = not (eqb was.phase is.phase);
  band = not (eqb was.band is.band);
  inputover = begins was.inputover is.inputover;
  shutdown = begins was.shutdown is.shutdown;
  packover = begins was.packover is.packover;
  limit = begins was.limit is.limit;
}
