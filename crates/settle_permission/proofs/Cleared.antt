-- If no time has run, no limit is reached.
use Prim.Native.Nat.{ℕ, zero, suc}
use mathlib.Core.Path.{◌≡◌, refl}
use mathlib.Core.Bool.{Bool, true, false}
use native.Mathlib.Omega.{arith}
use borrow.Author.Tests.{lt-leb, ne_eqb}
use Rattle.base.specs.Pick.{pick}
use Rattle.state_parts.specs.Stages.{limit_units}
use Rattle.state_parts.specs.declared.cycle.Cycle.{Cycle}
use Rattle.state_parts.specs.declared.profile.Profile.{Profile}
use Rattle.settle_permission.specs.Limits.{limit_reached, reached_of}

none-reached : (limit : ℕ) → limit_reached limit 0 ≡ false
none-reached zero = refl
none-reached (suc n) = simp (ne_eqb (suc n) 0 (λ e. omega arith), lt-leb (limit_units (suc n)) 0 (omega arith))

-- times that a test clears
pub reached-cleared : (p : Profile) (c : Cycle) (done test : Bool)
    → reached_of p (record { trickle = pick test 0 c.trickle; precharge = pick test 0 c.precharge; fast = pick test 0 c.fast; done = done }) ≡ pick test false (reached_of p c)
unfolding reached_of
reached-cleared p c done false = refl
reached-cleared p c done true = simp (none-reached p.trickle, none-reached p.precharge, none-reached p.fast)
