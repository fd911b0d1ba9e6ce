-- The phases of the account: the rule at a moment reads the phases before it alone, so `phase_at` keeps the rule, and whatever keeps it is `phase_at`.
use Prim.Native.Nat.{ℕ, suc, ◌+◌, ◌≤◌}
use native.Mathlib.Omega.{arith}
use mathlib.Core.Path.{◌≡◌, refl, sym, ap, ◌∙◌}
use mathlib.Core.Bool.{Bool, not, ◌&&◌, ◌||◌}
use mathlib.Core.List.{[]}
use lib.ListN.{get_or, length, length-append, get_or-append}
use lib.Seq.{get_or_at}
use lib.Dec.{leb, eqb}
use Rattle.base.specs.Pick.{pick}
use Rattle.state_parts.specs.Numbers.{phase_number}
use Rattle.state_parts.specs.declared.profile.Profile.{Profile}
use Rattle.state_parts.specs.declared.phase.Phase.{Phase}
use Rattle.state_parts.specs.declared.phase.Phase.TheVariants.{Idle}
use Rattle.laws_account.specs.History.{Run, powered, ◌▸◌, since, sum_after, count}
use Rattle.step_turns.specs.declared.later.Later.{Later}
use Rattle.laws_account.specs.Held.{was_reset}
use Rattle.laws_account.specs.Cycles.{Stage, trickle, precharge, fast, gave, is_done, was_done, restarts, starts, time_in, time_found, limit_found, fault, charge_ends, phase_by, Keeps, phases_of, phase_at}
use Rattle.laws_account.specs.Runs.{PhaseKeepsRule, PhaseOnlyOne}

infix 10 ◌≼◌
-- m is r or a moment before it
data ◌≼◌ : Run → Run → Type 0 where
  now : {r : Run} → r ≼ r
  back : {m r : Run} {e : Later} → m ≼ r → m ≼ (r ▸ e)

-- f and g are the same at r and before
abbrev Alike : {A : Type 0} → (Run → A) → (Run → A) → Run → Type 0
Alike f g r = (m : Run) → m ≼ r → f m ≡ g m

alike-back : {A : Type 0} {f g : Run → A} {r : Run} {e : Later} → Alike f g (r ▸ e) → Alike f g r
alike-back h m b = h m (back b)

since-alike : {p q p' q' : Run → Bool} (r : Run) → Alike p p' r → Alike q q' r → since p q r ≡ since p' q' r
unfolding since
since-alike (powered x) hp hq = hq (powered x) now
since-alike (r ▸ e) hp hq = λ i. hq (r ▸ e) now i || hp (r ▸ e) now i && since-alike r (alike-back hp) (alike-back hq) i

sum_alike : {b b' : Run → Bool} {f f' : Run → ℕ} (r : Run) → Alike b b' r → Alike f f' r → sum_after b f r ≡ sum_after b' f' r
unfolding sum_after
sum_alike (powered x) hb hf = refl
sum_alike (r ▸ e) hb hf = λ i. pick (hb (r ▸ e) now i) 0 (sum_alike r (alike-back hb) (alike-back hf) i + hf (r ▸ e) now i)

≼_trans : {a b c : Run} → a ≼ b → b ≼ c → a ≼ c
≼_trans x now = x
≼_trans x (back y) = back (≼_trans x y)

module _ (P Q : Run → Phase) where
  done-alike : (r : Run) → Alike P Q r → is_done P r ≡ is_done Q r
  unfolding is_done
  done-alike r h =
      since-alike r (λ m b. ap (λ n. not (was_reset m) && leb 5 (phase_number n)) (h m b)) (λ m b. ap (λ n. eqb (phase_number n) 5) (h m b))

  was-alike : (r : Run) → Alike P Q r → was_done P r ≡ was_done Q r
  unfolding was_done
  was-alike (powered p) h = refl
  was-alike (r ▸ e) h = ap (λ d. not (was_reset (r ▸ e)) && d) (done-alike r (alike-back h))

  starts-alike : (r : Run) → Alike P Q r → starts P r ≡ starts Q r
  unfolding starts restarts
  starts-alike r h = rw (was-alike r h, h r now)

  -- an event's time reads the phase before it
  gave-alike : (s : Stage) (r : Run) (e : Later) → P r ≡ Q r → gave P s (r ▸ e) ≡ gave Q s (r ▸ e)
  unfolding gave
  gave-alike s r e h = rw h

  gave_at : (s : Stage) (r : Run) → Alike P Q r → gave P s r ≡ gave Q s r
  unfolding gave
  gave_at s (powered p) h = refl
  gave_at s (r ▸ e) h = gave-alike s r e (h r (back now))

  time-alike : (s : Stage) (r : Run) → Alike P Q r → time_in P s r ≡ time_in Q s r
  unfolding time_in
  time-alike s r h = sum_alike r (λ m b. starts-alike m (λ k c. h k (≼_trans c b))) (λ m b. gave_at s m (λ k c. h k (≼_trans c b)))

  found_alike : (s : Stage) (r : Run) (e : Later) → Alike P Q r → time_found P s (r ▸ e) ≡ time_found Q s (r ▸ e)
  unfolding time_found
  found_alike s r e h = rw (time-alike s r h, gave-alike s r e (h r now))

  -- the rule reads the past alone
  rule-alike : (r : Run) (e : Later) → Alike P Q r → phase_by P (r ▸ e) ≡ phase_by Q (r ▸ e)
  unfolding phase_by fault limit_found charge_ends was_done
  rule-alike r e h = rw (found_alike trickle r e h, found_alike precharge r e h, found_alike fast r e h, done-alike r h, h r now)

  -- at the power-on it reads none
  rule-start : (p : Profile) → phase_by P (powered p) ≡ phase_by Q (powered p)
  unfolding phase_by fault limit_found time_found charge_ends was_done
  rule-start p = refl

count-le : {m r : Run} → m ≼ r → count m ≤ count r
unfolding count
count-le now = omega arith
count-le (back b) = omega (arith, count-le b)

length-phases : (r : Run) → length (phases_of r) ≡ suc (count r)
unfolding phases_of count
length-phases (powered p) = refl
length-phases (r ▸ e) = simp length-append (omega (arith, length-phases r))

-- the list of a run's phases goes on from that of each earlier moment
phases-past : {m r : Run} → m ≼ r → get_or (phases_of r) (count m) Idle ≡ phase_at m
unfolding phases_of phase_at
phases-past now = refl
phases-past {m = m} (back {r = r} b) =
    get_or-append (phases_of r) _ Idle (count m) (omega (arith, length-phases r, count-le b)) ∙ phases-past b

phases-last : (r : Run) (e : Later) → phase_at (r ▸ e) ≡ phase_by (λ m. get_or (phases_of r) (count m) Idle) (r ▸ e)
unfolding phase_at phases_of count
phases-last r e = get_or_at (phases_of r) _ [] Idle (suc (count r)) (length-phases r)

start-phase : (p : Profile) → phase_at (powered p) ≡ phase_by phase_at (powered p)
unfolding phase_at phases_of count
start-phase p = rule-start (λ m. Idle) phase_at p

next-phase : (r : Run) (e : Later) → phase_at (r ▸ e) ≡ phase_by phase_at (r ▸ e)
next-phase r e = phases-last r e ∙ rule-alike (λ m. get_or (phases_of r) (count m) Idle) phase_at r e (λ m b. phases-past b)

ruled : (r : Run) → phase_at r ≡ phase_by phase_at r
ruled (powered p) = start-phase p
ruled (r ▸ e) = next-phase r e

pub phase-keeps-rule : PhaseKeepsRule
phase-keeps-rule = record { rule = ruled }

-- two functions that keep the rule are alike up to every moment
module _ (P Q : Run → Phase) (k : Keeps P) (l : Keeps Q) where
  at-start : (p : Profile) → P (powered p) ≡ Q (powered p)
  at-start p = k.rule (powered p) ∙ rule-start P Q p ∙ sym (l.rule (powered p))

  at_next : (r : Run) (e : Later) → Alike P Q r → P (r ▸ e) ≡ Q (r ▸ e)
  at_next r e h = k.rule (r ▸ e) ∙ rule-alike P Q r e h ∙ sym (l.rule (r ▸ e))

  only-start : (p : Profile) (m : Run) → m ≼ powered p → P m ≡ Q m
  only-start p m now = at-start p

  or-before : (r : Run) (e : Later) → P (r ▸ e) ≡ Q (r ▸ e) → Alike P Q r → (m : Run) → m ≼ (r ▸ e) → P m ≡ Q m
  or-before r e x h m now = x
  or-before r e x h m (back b) = h m b

  next-alike : (r : Run) (e : Later) → Alike P Q r → Alike P Q (r ▸ e)
  next-alike r e h = or-before r e (at_next r e h) h

  alike : (r : Run) → Alike P Q r
  alike (powered p) = only-start p
  alike (r ▸ e) = next-alike r e (alike r)

pub phase-only-one : PhaseOnlyOne
phase-only-one P k r = alike P phase_at k phase-keeps-rule r r now
