-- After every run of accepted events the model is the account's, and whatever comes next comes to what the account says.
use Prim.Native.Nat.{ℕ}
use mathlib.Core.Path.{◌≡◌, refl, sym, ap, ◌∙◌}
use mathlib.Core.Bool.{Bool, true, false, true≢false}
use lib.Dec.{eqb}
use borrow.Author.Tests.{eqb-true}
use Rattle.base.specs.Pick.{pick}
use Rattle.state_parts.specs.declared.profile.Profile.{Profile}
use Rattle.state_parts.specs.declared.state.Model.{Model}
use Rattle.state_parts.specs.declared.state.Model.TheVariants.{Off, On}
use Rattle.state_valid.specs.Holds.{profile_ok, state_ok}
use Rattle.log_event.specs.declared.Event.{Event}
use Rattle.step_turns.specs.Turns.{turn_of}
use Rattle.step_turns.specs.Promises.{TurnFits}
use Rattle.step_turns.specs.declared.turn.Turn.{Turn}
use Rattle.step_turns.specs.declared.turn.Turn.TheVariants.{Opens, Follows, OpensOutside, FollowsOutside}
use Rattle.step_turns.proofs.Fitting.{every-turn-fits}
use Rattle.step_kinds.specs.Answers.{Outcome}
use Rattle.step_event.specs.Steps.{first_of, moved_of, change_of, model_ok, turned_by, step_of}
use Rattle.step_event.proofs.Keeps.{turned-passes}
use Rattle.laws_account.specs.History.{Run, powered, ◌▸◌}
use Rattle.step_turns.specs.declared.later.Later.{Later}
use Rattle.laws_account.specs.Refused.{refusal_in, Accepted, Past, none, some, refusal_by, refusal_of, next_by, next_of}
use Rattle.laws_account.specs.States.{state_of, model_of, comes_to, outcome_of}
use Rattle.laws_account.specs.Runs.{run_of, AccountIsModel, Lawful, RefusalIsStep, OutcomeIsStep}
use Rattle.laws_account.proofs.Stepping.{accepted_at, turn_is, opened-is}

-- a power-on, whatever has come before
power-first : (p : Profile) → profile_ok p ≡ true → turned_by Off (Opens p) ≡ accepted_at (powered p)
unfolding turned_by change_of first_of
power-first p ok = opened-is p ok Off

power-again : (r : Run) → state_ok (state_of r) ≡ true → (p : Profile) → profile_ok p ≡ true → turned_by (On (state_of r)) (Opens p) ≡ accepted_at (powered p)
unfolding turned_by change_of moved_of
power-again r fits p ok = rw fits (opened-is p ok (On (state_of r)))

next-step : (r : Run) (e : Later) → state_ok (state_of r) ≡ true → refusal_in r e ≡ 0 → turned_by (On (state_of r)) (Follows e) ≡ accepted_at (r ▸ e)
next-step r e ok h = turn_is r e ok ∙ ap (λ n. comes_to n (some r) (some (pick (eqb n 0) (r ▸ e) r))) h

-- an accepted event makes a state that holds what it may
passes : (m : Model) (t : Turn) → TurnFits t → (r : Run) → turned_by m t ≡ accepted_at r → state_ok (state_of r) ≡ true
unfolding model_ok
passes m t fits r h = sym (ap (λ (o : Outcome). model_ok o.model) h) ∙ turned-passes m t fits (ap (λ (o : Outcome). o.number) h)

pub fine : (r : Run) → Accepted r → state_ok (state_of r) ≡ true
fine (powered p) a = passes Off (Opens p) a (powered p) (power-first p a)
fine (r ▸ e) a = passes (On (state_of r)) (Follows e) a.1.0 (r ▸ e) (next-step r e (fine r a.0) a.1.1)

start-run : (p : Profile) → profile_ok p ≡ true → run_of (powered p) ≡ On (state_of (powered p))
unfolding run_of
start-run p ok = ap (λ (o : Outcome). o.model) (power-first p ok)

next-run : (r : Run) (e : Later) → state_ok (state_of r) ≡ true → refusal_in r e ≡ 0 → run_of r ≡ On (state_of r) → run_of (r ▸ e) ≡ On (state_of (r ▸ e))
unfolding run_of
next-run r e ok h g = ap (λ m. (turned_by m (Follows e)).model) g ∙ ap (λ (o : Outcome). o.model) (next-step r e ok h)

pub account-is-model : AccountIsModel
account-is-model (powered p) a = start-run p a
account-is-model (r ▸ e) a = next-run r e (fine r a.0) a.1.1 (account-is-model r a.0)

-- what comes next, by whether it opens a run
by_turn : (h : Past) → Lawful h → (t : Turn) → TurnFits t → turned_by (model_of h) t ≡ comes_to (refusal_by h t) h (next_by h t)
unfolding turned_by change_of first_of moved_of
by_turn none l (Opens p) fits = power-first p fits
by_turn none l (Follows e) fits = refl
by_turn none l OpensOutside fits = refl
by_turn none l FollowsOutside fits = refl
by_turn (some r) l (Opens p) fits = power-again r (fine r l) p fits
by_turn (some r) l (Follows e) fits = turn_is r e (fine r l)
by_turn (some r) l OpensOutside fits = rw (fine r l)
by_turn (some r) l FollowsOutside fits = rw (fine r l)

pub outcome-is-step : OutcomeIsStep
unfolding step_of outcome_of refusal_of next_of
outcome-is-step h l e = by_turn h l (turn_of e) (every-turn-fits e)

told : (n : ℕ) (before after : Past) (b : Bool) → eqb n 0 ≡ b → (comes_to n before after).number ≡ n
told n before after true h = ap (λ k. (comes_to k before after).number) (eqb-true n 0 h) ∙ sym (eqb-true n 0 h)
told n before after false h = rw h

pub refusal-is-step : RefusalIsStep
unfolding outcome_of
refusal-is-step h l e = ap (λ (o : Outcome). o.number) (outcome-is-step h l e) ∙ told (refusal_of h e) h (next_of h e) (eqb (refusal_of h e) 0) refl

-- what has come before stays lawful
keeps-turn : (h : Past) → Lawful h → (t : Turn) → TurnFits t → Lawful (next_by h t)
keeps-turn h l (Opens p) fits = fits
keeps-turn none l (Follows e) fits = tt
keeps-turn (some r) l (Follows e) fits = go (eqb (refusal_in r e) 0) refl
  where
    go : (b : Bool) → eqb (refusal_in r e) 0 ≡ b → Accepted (pick b (r ▸ e) r)
    go true h = (l, (fits, eqb-true (refusal_in r e) 0 h))
    go false h = l
keeps-turn h l OpensOutside fits = l
keeps-turn h l FollowsOutside fits = l

pub keeps-lawful : (h : Past) → Lawful h → (e : Event) → Lawful (next_of h e)
unfolding next_of
keeps-lawful h l e = keeps-turn h l (turn_of e) (every-turn-fits e)

model-turn : (n : ℕ) (before after : Past) (b : Bool) → eqb n 0 ≡ b → (b ≡ false → after ≡ before) → (comes_to n before after).model ≡ model_of after
model-turn n before after true h s = rw h
model-turn n before after false h s = rw h (ap model_of (sym (s refl)))

refused-stays : (h : Past) (t : Turn) → eqb (refusal_by h t) 0 ≡ false → next_by h t ≡ h
refused-stays h (Opens p) x = absurd (true≢false x)
refused-stays none (Follows e) x = refl
refused-stays (some r) (Follows e) x = rw x
refused-stays h OpensOutside x = refl
refused-stays h FollowsOutside x = refl

pub next-model : (h : Past) → Lawful h → (e : Event) → (step_of (model_of h) e).model ≡ model_of (next_of h e)
unfolding outcome_of refusal_of next_of
next-model h l e =
    ap (λ (o : Outcome). o.model) (outcome-is-step h l e)
    ∙ model-turn (refusal_by h (turn_of e)) h (next_by h (turn_of e)) (eqb (refusal_by h (turn_of e)) 0) refl (refused-stays h (turn_of e))
