-- 01, "Settling, in order": what settling makes of the charge cycle.
use Rattle.std.specs.Prelude.{not, ◌&&◌, ◌||◌}
use Rattle.base.specs.Pick.{pick}
use Rattle.state_parts.specs.declared.cycle.Cycle.{Cycle}
use Rattle.settle_phases.specs.Order.{clears_of, ends_of}
use Rattle.settle_phases.specs.declared.tests.Tests.{Tests}

-- "the cycle's times and done are cleared", "done and times clear", "Done begins"
unfoldable pub cycle_of : Tests → Cycle → Cycle
cycle_of t c = record {
  trickle = pick (clears_of t) 0 c.trickle;
  precharge = pick (clears_of t) 0 c.precharge;
  fast = pick (clears_of t) 0 c.fast;
  done = ends_of t || (not (clears_of t) && c.done);
}
