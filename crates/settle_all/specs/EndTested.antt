-- The rule for done before 02, R-2, kept to be held against the rule without its last test: ".., no regulation, VBAT not below the recharge point."
use Rattle.std.specs.Prelude.{Bool, not, ◌&&◌}
use Rattle.settle_phases.specs.declared.tests.Tests.{Tests}
use Rattle.settle_all.specs.Gather.{tests_of}
use Rattle.settle_all.specs.Settle.{Tester}

-- the tests by which a charge restarts, and doesn't end, below a point
abbrev pub end_tested : Tests → Bool → Tests
end_tested t below = record {
  permitted = t.permitted;
  fault = t.fault;
  suspended = t.suspended;
  done = t.done;
  recharge = below;
  short = t.short;
  low = t.low;
  taper = t.taper;
  observed = t.observed;
  tapered = t.tapered;
  ending = t.ending && not below;
}

-- the recharge point
abbrev pub tests_end_tested : Tester
tests_end_tested s k b observed = let t = tests_of s k b observed in end_tested t t.recharge
