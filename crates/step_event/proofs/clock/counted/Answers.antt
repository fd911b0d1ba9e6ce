-- `counted`: the count with the ms, or the period.
use Rattle.step_event.specs.Clock.{counted_of}
use Rattle.step_event.proofs.Clocks.{same_count}
use Rattle.state_valid.proofs.Bounds.{profile-bounds}
use Rattle.std.proofs.Common.{arith}
use Rattle.step_event.proofs.clock.counted.Goals as goal

pub overflow_cast-result : goal.overflow_cast-result
overflow_cast-result c = let b = profile-bounds c.args.p c.requires in omega (arith, b.watchdog)

pub overflow_cast-result-else-sum-period : goal.overflow_cast-result-else-sum-period
overflow_cast-result-else-sum-period c = let b = profile-bounds c.args.p c.requires in omega (arith, b.watchdog)

pub returns-then-sum-period : goal.returns-then-sum-period
unfolding counted_of
returns-then-sum-period c = same_count (omega arith)

pub returns-else-sum-period : goal.returns-else-sum-period
unfolding counted_of
returns-else-sum-period c = same_count (omega arith)
