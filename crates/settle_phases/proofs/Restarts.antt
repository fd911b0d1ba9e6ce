-- A done charge starts again exactly below the recharge point.
use Rattle.settle_phases.specs.Order.{restarts_of, clears_of}
use Rattle.settle_phases.specs.Theorems.{RestartTested}

pub restart-tested : RestartTested
unfolding clears_of restarts_of
restart-tested t permitted sound mild done = rw (permitted, sound, mild, done)
