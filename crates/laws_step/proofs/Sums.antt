-- No sum of an accepted observation wraps.
use Prim.Native.Nat.{ℕ, zero, suc, ◌≤◌}
use mathlib.Core.Path.{◌≡◌, refl, sym, ◌∙◌}
use mathlib.Core.Bool.{Bool, true, false, or-false}
use native.Mathlib.Omega.{arith}
use lib.Dec.{ltb, eqb}
use borrow.Author.Tests.{eqb-true, ltb-false}
use Rattle.base.specs.Pick.{pick}
use Rattle.base.specs.Stamps.{elapsed_of}
use Rattle.base.specs.Told.{Told, refused, answer_number}
use Rattle.state_parts.specs.declared.phase.Phase.TheVariants.{Idle}
use Rattle.state_parts.specs.declared.sample.Sample.{Sample}
use Rattle.state_parts.specs.declared.state.State.{State}
use Rattle.state_parts.specs.declared.state.Model.TheVariants.{On}
use Rattle.state_valid.specs.Holds.{stage_ok, state_ok}
use Rattle.step_turns.specs.declared.later.Later.TheVariants.{Observe}
use Rattle.step_turns.specs.declared.turn.Turn.TheVariants.{Follows}
use Rattle.state_valid.proofs.Bounds.{profile-bounds, dog-most, stage-below, stages-apart}
use Rattle.state_valid.proofs.Wholes.{apart}
use Rattle.step_event.specs.Clock.{observed_of}
use Rattle.step_kinds.specs.Changes.{Changed}
use Rattle.step_event.specs.Steps.{observe_of, followed_of, moved_of, change_of, turned_by}
use Rattle.laws_step.proofs.Given.{closed-number}
use Rattle.step_event.proofs.Observes.{observed-ready}
use Rattle.laws_step.specs.Theorems.{StageFits, NoSumWraps}

-- where a change is made, no test refused it
not-refused : (t : Bool) (n : ℕ) (c : Told Changed) → 1 ≤ n → answer_number (pick t (refused n) c) ≡ 0 → t ≡ false
not-refused true n c some e = absurd (omega arith)
not-refused false n c some e = refl

-- what an accepted observation passed
record Passed (s : State) (x : Sample) : Type 0 where
  state : state_ok s ≡ true
  near : elapsed_of s.sample.stamp x.stamp ≤ 3600000

passed : (s : State) (x : Sample) → (turned_by (On s) (Follows (Observe x))).number ≡ 0 → Passed s x
unfolding turned_by change_of moved_of followed_of observe_of
passed s x e = by (state_ok s) refl (sym (closed-number (On s) (change_of (On s) (Follows (Observe x)))) ∙ e)
  where
    ms : ℕ
    ms = elapsed_of s.sample.stamp x.stamp

    by : (ok : Bool) → state_ok s ≡ ok → answer_number (pick ok (observe_of s x) (refused 5)) ≡ 0 → Passed s x
    by false ok e = absurd (omega arith)
    by true ok e = record { state = ok; near = ltb-false 3600000 ms (not-refused (ltb 3600000 ms) 7 _ (omega arith) e) }

unused : (limit time : ℕ) → stage_ok limit false time ≡ true → limit ≡ 0 → time ≡ 0
unused zero time e none = eqb-true time 0 (sym (or-false (eqb time 0)) ∙ e)
unused (suc n) time e none = absurd (omega arith)

stage-fits : (limit time : ℕ) → limit ≤ 172800 → stage_ok limit false time ≡ true → StageFits limit time
stage-fits limit time most e = let below = stage-below limit false time e in record { unused = unused limit time e; below = below; fits = omega arith }

pub no-sum-wraps : NoSumWraps
unfolding observed_of
no-sum-wraps s x fits accepted =
    let k = passed s x accepted in
    let l = apart s k.state in
    let p = profile-bounds s.profile l.profile in
    let r = stages-apart _ _ Idle (observed-ready s x k.state fits k.near).cycle in
    record {
      trickle = stage-fits _ _ p.trickle r.trickle;
      precharge = stage-fits _ _ p.precharge r.precharge;
      fast = stage-fits _ _ p.fast r.fast;
      watchdog = omega (arith, dog-most s.watchdog s.profile l.watchdog, k.near, p.watchdog);
    }
