-- What is proved beside demand 3: the cycle's start is one and its sums the account's, and done holds by positions.
use mathlib.Core.Path.{◌≡◌, refl, sym, ap, ◌∙◌}
use mathlib.Core.Bool.{Bool, true, false, not, ◌&&◌, ◌||◌, or-false, false≢true}
use Rattle.state_parts.specs.declared.phase.Phase.{Phase}
use Rattle.state_parts.specs.declared.phase.Phase.TheVariants.{Idle, Trickle, Precharge, Fast, Taper, Done, Suspended, Fault}
use Rattle.state_parts.specs.declared.profile.Profile.{Profile}
use Rattle.state_parts.specs.Stages.{charging}
use Rattle.laws_account.specs.History.{Run, powered, ◌▸◌, since}
use Rattle.step_turns.specs.declared.later.Later.{Later}
use Rattle.laws_account.specs.Held.{was_reset}
use Rattle.laws_account.specs.Judged.{permitted}
use Rattle.laws_account.specs.Cycles.{Stage, trickle, precharge, fast, held_in, number_at, is_done, was_done, restarts, starts, phase_at}
use Rattle.laws_third.specs.Laws.{TimeIsSum, HeldBelowLimit, DoneBelowLimit, DoneSince, DoneByPhases}
use Rattle.laws_third.proofs.Means.{leb-means, eqb-means, false-means, and-means, not-means}
use Rattle.laws_third.proofs.Positions.{since-means, since-in}
use Rattle.laws_third.proofs.Ended.{ends_now, done-is, done-unlimited}
use Rattle.laws_third.proofs.Cycling.{start_of, started, only-start, time-is, starts-means, ends-means, within-means, done-means}
use Rattle.laws_third.proofs.Charging.{charging-means}

pub time-is-sum : TimeIsSum
time-is-sum r a = record { start = start_of r; started = started r a; only = λ i h. only-start r i (start_of r) h (started r a); sum = λ s. time-is s r }

-- a stage is held in a phase that charges
held-charges : (s : Stage) (q : Phase) → held_in s q ≡ true → charging q ≡ true
held-charges s Trickle h = refl
held-charges s Precharge h = refl
held-charges s Fast h = refl
held-charges s Taper h = refl
held-charges trickle Idle h = absurd (false≢true h)
held-charges trickle Done h = absurd (false≢true h)
held-charges trickle Suspended h = absurd (false≢true h)
held-charges trickle Fault h = absurd (false≢true h)
held-charges precharge Idle h = absurd (false≢true h)
held-charges precharge Done h = absurd (false≢true h)
held-charges precharge Suspended h = absurd (false≢true h)
held-charges precharge Fault h = absurd (false≢true h)
held-charges fast Idle h = absurd (false≢true h)
held-charges fast Done h = absurd (false≢true h)
held-charges fast Suspended h = absurd (false≢true h)
held-charges fast Fault h = absurd (false≢true h)

pub held-below-limit : HeldBelowLimit
held-below-limit s r a h = ((charging-means r a).fact (held-charges s (phase_at r) h)).within s

pub done-below-limit : DoneBelowLimit
done-below-limit s r a d = (within-means r a).fact (ap not (done-unlimited r ((done-means r a).test d))) s

-- done lasts while no cycle starts
abbrev lasting : Run → Bool
lasting = since (λ m. not (starts phase_at m)) ends_now

lasts : (reset x was : Bool) → ((not reset && was) && not (reset || x)) ≡ (not (reset || x) && was)
lasts true x was = refl
lasts false true true = refl
lasts false true false = refl
lasts false false true = refl
lasts false false false = refl

lasting-first : (p : Profile) → is_done phase_at (powered p) ≡ lasting (powered p)
unfolding since was_done
lasting-first p = done-is (powered p) ∙ or-false (ends_now (powered p))

lasting-next : (r : Run) (e : Later) → is_done phase_at r ≡ lasting r → is_done phase_at (r ▸ e) ≡ lasting (r ▸ e)
unfolding since was_done starts
lasting-next r e h =
    done-is (r ▸ e)
    ∙ ap (λ b. ends_now (r ▸ e) || b)
    (lasts (was_reset (r ▸ e)) (not (permitted (r ▸ e)) || restarts phase_at (r ▸ e)) (is_done phase_at r) ∙ ap (λ b. not (starts phase_at (r ▸ e)) && b) h)

lasting-is : (r : Run) → is_done phase_at r ≡ lasting r
lasting-is (powered p) = lasting-first p
lasting-is (r ▸ e) = lasting-next r e (lasting-is r)

pub done-since : DoneSince
done-since r a =
    let by = since-in (λ m k. not-means (starts-means m k)) (λ m k. ends-means m k) r a in
    (λ d. by.fact (sym (lasting-is r) ∙ (done-means r a).test d), λ h. (done-means r a).fact (lasting-is r ∙ by.test h))

pub done-by-phases : DoneByPhases
unfolding is_done
done-by-phases r a =
    let by = since-means (λ m. and-means (false-means (was_reset m)) (leb-means 5 (number_at phase_at m))) (λ m. eqb-means (number_at phase_at m) 5) r in
    (λ d. by.fact ((done-means r a).test d), λ h. (done-means r a).fact (by.test h))
