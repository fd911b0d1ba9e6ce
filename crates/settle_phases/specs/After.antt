-- 01: "Settling with neither a new event nor time changes nothing." What the tests are after a settling, if nothing else moves.
use Rattle.std.specs.Prelude.{Bool, false, not, ◌&&◌, ◌||◌}
use Rattle.settle_phases.specs.Order.{is_taper, clears_of, ends_of, phase_of}
use Rattle.settle_phases.specs.declared.tests.Tests.{Tests}

-- `fault` is what then stands for a fault: a limit is no longer reached once the times are cleared
unfoldable pub after_of : Tests → Bool → Tests
after_of t fault = record {
  permitted = t.permitted;
  fault = fault;
  suspended = t.suspended;
  done = ends_of t || (not (clears_of t) && t.done);
  recharge = t.recharge;
  short = t.short;
  low = t.low;
  taper = t.taper;
  observed = false;
  tapered = is_taper (phase_of t);
  ending = t.ending;
}
