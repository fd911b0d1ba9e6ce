-- What is proved of tests.
use Rattle.std.specs.Prelude.{◌≡◌, true, false}
use Rattle.settle_phases.specs.Order.{clears_of}
use Rattle.settle_phases.specs.declared.tests.Tests.{Tests}

-- 02, R-2 leaves the restart its test: where phase 5 would hold "done and times clear" exactly if VBAT is below the recharge point
abbrev pub RestartTested : Type 0
RestartTested = (t : Tests) → t.permitted ≡ true → t.fault ≡ false → t.suspended ≡ false → t.done ≡ true → clears_of t ≡ t.recharge
