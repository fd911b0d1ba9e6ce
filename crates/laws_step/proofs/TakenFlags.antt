-- A state that an accepted event makes is settled, and taking its flags moves nothing else.
use Prim.Native.Nat.{ℕ}
use mathlib.Core.Path.{◌≡◌, refl, ap, subst, ◌∙◌}
use mathlib.Core.Bool.{Bool, true, false, not, not-and_self}
use native.Mathlib.Omega.{arith}
use lib.Bits.{or_zero_r}
use lib.Dec.{eqb}
use borrow.Author.Tests.{eq-eqb}
use Rattle.state_parts.specs.Edges.{flags_number, merged, pulse_of}
use Rattle.state_parts.specs.declared.flags.Edges.{Edges}
use Rattle.state_parts.specs.declared.state.State.{State}
use Rattle.state_parts.specs.declared.state.Model.{Model}
use Rattle.state_parts.specs.declared.state.Model.TheVariants.{On}
use Rattle.state_parts.specs.With.{with_flags}
use Rattle.step_flags.specs.Edges.{seen_of, edges_of}
use Rattle.step_flags.specs.declared.between.Seen.{Seen}
use Rattle.settle_all.specs.Settle.{forced_of, settled_of, settle_of}
use Rattle.settle_all.specs.Gather.{tests_of}
use Rattle.settle_all.proofs.Rules.{each-settles-once}
use Rattle.step_kinds.specs.Answers.{Outcome}
use Rattle.step_kinds.specs.Finish.{observing, finish_of}
use Rattle.step_turns.specs.Turns.{turn_of}
use Rattle.step_event.specs.Steps.{followed_of, moved_of, change_of, model_ok, seen_on, turned_by, step_of}
use Rattle.step_event.proofs.Keeps.{Comes, refuses, settles, comes, accepted-passes}
use Rattle.step_event.proofs.Numbered.{some_number}
use Rattle.laws_step.specs.Theorems.{StepSettles, TakesFlags, TakeFlagsAgain}

-- settling reads no flags
pub flagged-settles : (s : State) (f : ℕ) (observed : Bool) → settle_of (with_flags s f) observed ≡ with_flags (settle_of s observed) f
unfolding settle_of forced_of settled_of tests_of
flagged-settles s f observed = refl

pub step-settles : StepSettles
unfolding finish_of
step-settles m e s none on = by (comes m e) none on
  where
    again : (written : State) (observed : Bool) (flags : ℕ) → On (with_flags (settle_of written observed) flags) ≡ On s → settle_of s false ≡ s
    again written observed flags on =
        let same : with_flags (settle_of written observed) flags ≡ s = cc in
        subst (λ (t : State). settle_of t false ≡ t) same
        (flagged-settles (settle_of written observed) flags false ∙ ap (λ (t : State). with_flags t flags) (each-settles-once.ours written observed))

    by : {o : Outcome} → Comes m o → o.number ≡ 0 → o.model ≡ On s → settle_of s false ≡ s
    by (refuses r) none on = absurd (omega (arith, some_number r))
    by (settles written way k) none on = again written (observing way) _ on

-- between a state and itself there is no edge
no_change : (n : ℕ) → not (eqb n n) ≡ false
no_change n = simp (eq-eqb n n refl)

abbrev pub no_edges : Edges
no_edges = record {
  good = false;
  lost = false;
  iindpm = false;
  vindpm = false;
  thermal = false;
  expired = false;
  phase = false;
  band = false;
  inputover = false;
  shutdown = false;
  packover = false;
  limit = false;
}

pub no-edges : (s : Seen) → edges_of s s ≡ no_edges
unfolding edges_of
no-edges s = simp (not-and_self, no_change)

pub merged-none : (f : ℕ) → merged f no_edges ≡ f
unfolding merged flags_number
merged-none f = or_zero_r f

pub no-pulse : (masks : ℕ) → pulse_of no_edges masks ≡ false
unfolding pulse_of
no-pulse masks = refl

pub takes-flags : TakesFlags
unfolding step_of turned_by turn_of change_of moved_of followed_of seen_on finish_of
takes-flags s ok settled = simp (ok, settled, no-edges (seen_of s), merged-none s.flags, no-pulse s.settings.masks)

pub take-flags-again : TakeFlagsAgain
unfolding model_ok
take-flags-again m e s none on = takes-flags s (subst (λ (n : Model). model_ok n ≡ true) on (accepted-passes m e none)) (step-settles m e s none on)
