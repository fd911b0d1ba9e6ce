-- Judged again with nothing moved, the phase and the cycle stay, where no sample tapers below the recharge point: by cases on what was tested.
use Prim.Native.Nat.{ℕ}
use mathlib.Core.Path.{◌≡◌, refl}
use mathlib.Core.Bool.{Bool, true, false, not, ◌||◌, ◌&&◌, true≢false}
use Rattle.base.specs.Pick.{pick}
use Rattle.state_parts.specs.declared.cycle.Cycle.{Cycle}
use Rattle.settle_phases.specs.After.{after_of}
use Rattle.settle_phases.specs.Cycles.{cycle_of}
use Rattle.settle_phases.specs.Order.{judged_of, restarts_of, clears_of, ends_of, phase_of}
use Rattle.settle_phases.specs.declared.tests.Tests.{Tests}

-- short has ended, taper and below the recharge point: not all three
abbrev pub NoneBelow : Tests → Type 0
NoneBelow t = (not t.short && (t.taper && t.recharge)) ≡ false

module _ (observed tapered ending : Bool) (trickle precharge fast : ℕ) where
  abbrev tests : Bool → Bool → Bool → Bool → Bool → Bool → Bool → Bool → Tests
  tests permitted fault suspended done recharge short low taper = record {
    permitted = permitted;
    fault = fault;
    suspended = suspended;
    done = done;
    recharge = recharge;
    short = short;
    low = low;
    taper = taper;
    observed = observed;
    tapered = tapered;
    ending = ending;
  }

  abbrev cycle : Bool → Cycle
  cycle done = record { trickle = trickle; precharge = precharge; fast = fast; done = done }

  -- a fault is one that stays or a limit that was reached
  abbrev Same : Tests → Bool → Bool → Type 0
  Same t stays limit =
      let u = after_of t (stays || pick (clears_of t) false limit) in
      (phase_of u ≡ phase_of t) × (cycle_of u (cycle_of t (cycle t.done)) ≡ cycle_of t (cycle t.done))

  pub same : (ready : Bool) → (observed && tapered && ending) ≡ ready → (p a r s d w sh lo ta : Bool) → NoneBelow (tests p (a || r) s d w sh lo ta) → Same (tests p (a || r) s d w sh lo ta) a r
  unfolding after_of cycle_of judged_of restarts_of clears_of ends_of phase_of
  same ready e false a r s d w sh lo ta h = (refl, refl)
  same ready e true true r s d w sh lo ta h = (refl, refl)
  same ready e true false true s d w sh lo ta h = (refl, refl)
  same ready e true false false true d w sh lo ta h = (refl, refl)
  same ready e true false false false true false sh lo ta h = (refl, refl)
  same ready e true false false false true true true lo ta h = (refl, refl)
  same ready e true false false false true true false true ta h = (refl, refl)
  same ready e true false false false true true false false false h = (refl, refl)
  same ready e true false false false true true false false true h = absurd (true≢false h)
  same ready e true false false false false w true lo ta h = (refl, refl)
  same ready e true false false false false w false true ta h = (refl, refl)
  same ready e true false false false false w false false false h = (refl, refl)
  same ready e true false false false false true false false true h = absurd (true≢false h)
  same true e true false false false false false false false true h = (simp e, simp e)
  same false e true false false false false false false false true h = (simp e, simp e)
