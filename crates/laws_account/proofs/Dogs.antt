-- The watchdog's count is the lower of its period and the time since it was served, and is at its period just where that time is.
use Prim.Native.Nat.{ℕ, ◌+◌, ◌*◌, min}
use native.Mathlib.Omega.{arith}
use native.Mathlib.Nat.{add-zero}
use mathlib.Core.Path.{◌≡◌, refl, ap}
use mathlib.Core.Bool.{Bool, true, false, not, ◌&&◌}
use lib.Dec.{leb, eqb}
use borrow.Author.Tests.{leb-true, leb-false, le-leb, lt-leb}
use Rattle.base.specs.Stamps.{elapsed_of}
use Rattle.state_parts.specs.declared.sample.Sample.{Sample}
use Rattle.step_flags.specs.Expiry.{expired_of}
use Rattle.step_event.specs.Clock.{counted_of}
use Rattle.state_start.specs.Values.{start_watchdog}
use Rattle.laws_account.specs.History.{Run, ◌▸◌, sum_after}
use Rattle.step_turns.specs.declared.later.Later.{Later}
use Rattle.step_turns.specs.declared.later.Later.TheVariants.{Observe}
use Rattle.laws_account.specs.Held.{profile_of, sample_of, elapsed, was_served, unserved, expired}
use Rattle.laws_account.proofs.Choices.{zero-low}
use Rattle.laws_account.specs.States.{watchdog_at}

capped : (time ms top : ℕ) → min (min time top + ms) top ≡ min (time + ms) top
capped time ms top = omega arith

at_top : (time top : ℕ) → leb top (min time top) ≡ leb top time
at_top time top = go (leb top time) refl
  where
    go : (b : Bool) → leb top time ≡ b → leb top (min time top) ≡ b
    go true h = le-leb top (min time top) (omega (arith, leb-true top time h))
    go false h = lt-leb top (min time top) (omega (arith, leb-false top time h))

pub expired-is : (r : Run) → expired_of (profile_of r) (watchdog_at r) ≡ expired r
unfolding expired_of watchdog_at expired
expired-is r = ap (λ b. not (eqb (profile_of r).watchdog 0) && b) (at_top (unserved r) ((profile_of r).watchdog * 1000))

-- what each kind of event makes of it
pub counted_is : (r : Run) (x : Sample) → counted_of (profile_of r) (watchdog_at r) (elapsed_of (sample_of r).stamp x.stamp) ≡ watchdog_at (r ▸ Observe x)
unfolding counted_of watchdog_at unserved sum_after was_served elapsed profile_of
counted_is r x = λ i. record { count = capped (unserved r) (elapsed_of (sample_of r).stamp x.stamp) ((profile_of r).watchdog * 1000) i }

pub served-is : (r : Run) (e : Later) → was_served (r ▸ e) ≡ true → start_watchdog ≡ watchdog_at (r ▸ e)
unfolding watchdog_at unserved sum_after
served-is r e h = rw h (λ i. record { count = zero-low ((profile_of (r ▸ e)).watchdog * 1000) i })

pub waits : (r : Run) (e : Later) → was_served (r ▸ e) ≡ false → elapsed (r ▸ e) ≡ 0 → watchdog_at r ≡ watchdog_at (r ▸ e)
unfolding watchdog_at unserved sum_after profile_of
waits r e h z = rw (h, z, add-zero) refl
