-- What the clock's functions ask.
use Rattle.std.proofs.Common.{◌≡◌, ℕ, ◌*◌, ◌≤◌, Bool, true, false, ap, arith}
use Rattle.base.specs.Pick.{pick}
use Rattle.state_parts.specs.declared.sample.Sample.{Sample}
use Rattle.state_parts.specs.declared.watchdog.Watchdog.{Watchdog}
use Rattle.settle_permission.specs.Bits.{regulated_of}
use Rattle.step_event.specs.Clock.{units_of}

abbrev dog : ℕ → Watchdog
dog n = record { count = n }

pub same_count : {a b : ℕ} → a ≡ b → dog a ≡ dog b
same_count e = ap dog e

-- two units a ms at the most
pub units-most : (x : Sample) (ms : ℕ) → units_of x ms ≤ ms * 2
unfolding units_of
units-most x ms = go (regulated_of x)
  where
    go : (t : Bool) → pick t ms (ms * 2) ≤ ms * 2
    go true = omega arith
    go false = omega arith

pub few-units : (x : Sample) (gap : ℕ) {ms units : ℕ} → gap ≤ 3600000 → units ≡ units_of x ms → ms ≡ gap → units ≤ 7200000
few-units x gap {ms} h e g = omega (arith, units-most x ms)
