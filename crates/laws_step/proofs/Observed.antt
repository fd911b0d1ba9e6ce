-- An observation of two thermistors with equal values acts as kind 5, and what is held of an observation is what it says.
use mathlib.Core.Path.{◌≡◌, refl, ap}
use mathlib.Core.Bool.{Bool, true, false}
use mathlib.Core.Logic.{◌⊎◌, inl, inr}
use native.Mathlib.Omega.{arith}
use lib.Dec.{ltb}
use Rattle.base.specs.Pick.{pick}
use Rattle.base.specs.Told.{Told, refused}
use Rattle.base.specs.Stamps.{elapsed_of}
use Rattle.state_parts.specs.declared.sample.Sample.{Sample}
use Rattle.state_parts.specs.declared.state.State.{State}
use Rattle.state_parts.specs.declared.state.Model.{Model}
use Rattle.state_parts.specs.declared.state.Model.TheVariants.{Off, On}
use Rattle.state_valid.specs.Holds.{state_ok}
use Rattle.settle_all.specs.Settle.{forced_of, settled_of, settle_of}
use Rattle.step_turns.specs.Turns.{turn_of}
use Rattle.step_turns.specs.declared.later.Later.TheVariants.{Observe}
use Rattle.step_turns.specs.declared.turn.Turn.TheVariants.{Follows, FollowsOutside}
use Rattle.step_turns.proofs.Fitting.{equal-say-five}
use Rattle.step_turns.proofs.Sampling.{observes-as-said}
use Rattle.step_kinds.specs.Changes.{Changed, changed}
use Rattle.step_kinds.specs.Finish.{finish_of}
use Rattle.step_kinds.specs.declared.change.Way.TheVariants.{Observes}
use Rattle.step_event.specs.Clock.{observed_of}
use Rattle.step_event.specs.Steps.{observe_of, followed_of, moved_of, first_of, change_of, closed_by, turned_by, step_of}
use Rattle.laws_step.specs.Observed.{EqualActAsFive, HoldsSample, HoldsWhatIsObserved}

pub equal-act-as-five : EqualActAsFive step_of
unfolding step_of
equal-act-as-five m x = ap (turned_by m) (equal-say-five x)

-- ---- what is held
-- a change that is accepted and holds the sample, or none
abbrev Sampled : State → Told Changed → Sample → Type 0
Sampled s c x = (closed_by (On s) c).number ≡ 0 → HoldsSample (closed_by (On s) c).model x

refusal : (s : State) (x : Sample) → Sampled s (refused 5) x
refusal s x z = absurd (omega (arith, z))

in-time : (s : State) (x : Sample) (late : Bool) → Sampled s (pick late (refused 7) (changed (observed_of s x) Observes)) x
unfolding finish_of settle_of settled_of forced_of observed_of
in-time s x true z = absurd (omega (arith, z))
in-time s x false z = refl

sampled : (s : State) (x : Sample) (t : Bool) → Sampled s (pick t (moved_of s (Follows (Observe x))) (refused 5)) x
unfolding moved_of followed_of observe_of
sampled s x true z = in-time s x (ltb 3600000 (elapsed_of s.sample.stamp x.stamp)) z
sampled s x false z = refusal s x z

observed-holds : (m : Model) (x : Sample) → (turned_by m (Follows (Observe x))).number ≡ 0 → HoldsSample (turned_by m (Follows (Observe x))).model x
unfolding turned_by change_of first_of
observed-holds Off x z = absurd (omega (arith, z))
observed-holds (On s) x z = sampled s x (state_ok s) z

pub outside-refused : (m : Model) → (turned_by m FollowsOutside).number ≡ 0 → ⊥
unfolding turned_by change_of first_of moved_of
outside-refused Off z = omega (arith, z)
outside-refused (On s) z = by (state_ok s) z
  where
    by : (t : Bool) → (closed_by (On s) (pick t (refused 5) (refused 5))).number ≡ 0 → ⊥
    by true z = omega (arith, z)
    by false z = omega (arith, z)

pub holds-what-is-observed : HoldsWhatIsObserved step_of
unfolding step_of
holds-what-is-observed m e x b z = by (observes-as-said.follows e x b)
  where
    by : (turn_of e ≡ Follows (Observe x)) ⊎ (turn_of e ≡ FollowsOutside) → HoldsSample (turned_by m (turn_of e)).model x
    by (inl o) = rw o (observed-holds m x (rw o at z))
    by (inr o) = absurd (outside-refused m (rw o at z))
