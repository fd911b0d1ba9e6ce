-- When the cycle is done and when one starts, by tests that don't read the phase of the moment: by the rule of the phases, over tests alone.
use Prim.Native.Nat.{ℕ, ◌+◌}
use native.Mathlib.Omega.{arith}
use mathlib.Core.Path.{◌≡◌, refl, sym, ap, ◌∙◌, subst}
use mathlib.Core.Bool.{Bool, true, false, not, ◌&&◌, ◌||◌, and-false, false≢true}
use lib.Dec.{leb, ltb, eqb}
use Rattle.base.specs.Pick.{pick}
use Rattle.base.proofs.Tests.{and-iff, leb-iff, eqb-iff, neither}
use Rattle.state_parts.specs.Numbers.{phase_number}
use Rattle.state_parts.specs.declared.phase.Phase.{Phase}
use Rattle.state_parts.specs.declared.phase.Phase.TheVariants.{Idle, Trickle, Precharge, Fast, Taper, Done, Suspended, Fault}
use Rattle.state_parts.specs.declared.profile.Profile.{Profile}
use Rattle.settle_phases.specs.Order.{first_phase}
use Rattle.laws_account.specs.History.{Run, powered, ◌▸◌, since, sum_after}
use Rattle.step_turns.specs.declared.later.Later.{Later}
use Rattle.laws_account.specs.Held.{profile_of, sample_of, was_reset, was_observed}
use Rattle.laws_account.specs.Judged.{input_ok, input_good, short, low, permitted, suspended, tapering, ending, recharge_due}
use Rattle.laws_account.specs.Cycles.{Stage, trickle, precharge, fast, limit_of, held_in, reaches, number_at, gave, is_done, was_done, restarts, starts, time_in, time_found, limit_found, limit_reached, fault, charge_ends, phase_by, phase_at}
use Rattle.laws_account.proofs.Past.{phase-keeps-rule}
use Rattle.laws_third.proofs.Means.{or_cases}
use Rattle.laws_third.proofs.Charges.{faulty, any_found, clears, cleared, limit-next, reach-zero}

-- "the input is good, charge is permitted, no fault or suspending temperature holds"
abbrev pub may_charge : Run → Bool
may_charge r = permitted r && (not (faulty r) && not (suspended r))

-- a restart, and a charge that ends, by the moment's own tests and what was before
abbrev pub restarts_now : Run → Bool
restarts_now r = was_done phase_at r && (may_charge r && recharge_due r)

abbrev pub starts_now : Run → Bool
starts_now r = was_reset r || (not (permitted r) || restarts_now r)

abbrev pub ends_now : Run → Bool
ends_now r = may_charge r && (not (limit_reached phase_at r) && charge_ends phase_at r)

-- phase 5 is held, by the rule's tests
five : (p g s d sh lo ta : Bool) → eqb (phase_number (first_phase p g s d sh lo ta)) 5 ≡ true → g ≡ false
five p false s d sh lo ta h = refl
five true true s d sh lo ta h = absurd (false≢true h)
five false true s d sh lo ta h = absurd (false≢true h)

-- no stage is held in 5, 6 and 7
unheld : (s : Stage) (q : Phase) → leb 5 (phase_number q) ≡ true → held_in s q ≡ false
unheld trickle Done h = refl
unheld trickle Suspended h = refl
unheld trickle Fault h = refl
unheld precharge Done h = refl
unheld precharge Suspended h = refl
unheld precharge Fault h = refl
unheld fast Done h = refl
unheld fast Suspended h = refl
unheld fast Fault h = refl
unheld s Idle h = absurd (false≢true h)
unheld s Trickle h = absurd (false≢true h)
unheld s Precharge h = absurd (false≢true h)
unheld s Fast h = absurd (false≢true h)
unheld s Taper h = absurd (false≢true h)

from-five : (n : ℕ) (b c : Bool) → (eqb n 5 || (c && leb 5 n) && b) ≡ true → leb 5 n ≡ true
from-five n b c t =
    or_cases (eqb n 5) ((c && leb 5 n) && b) t (λ e. ap (λ m. leb 5 m) ((eqb-iff n 5).0 e))
    (λ h. ((and-iff c (leb 5 n)).0 ((and-iff (c && leb 5 n) b).0 h).0).1)

-- done is kept in 5, 6 and 7
done-number : (r : Run) → is_done phase_at r ≡ true → leb 5 (number_at phase_at r) ≡ true
unfolding is_done since
done-number (powered p) t = ap (λ n. leb 5 n) ((eqb-iff (number_at phase_at (powered p)) 5).0 t)
done-number (r ▸ e) t = from-five (number_at phase_at (r ▸ e)) (is_done phase_at r) (not (was_reset (r ▸ e))) t

none_of : (a b c : Bool) → (a || b || c) ≡ false → (a ≡ false) × (b ≡ false) × (c ≡ false)
none_of false false false h = (refl, refl, refl)
none_of true b c h = absurd (false≢true (sym h))
none_of false true c h = absurd (false≢true (sym h))
none_of false false true h = absurd (false≢true (sym h))

abbrev reached_by : Stage → Run → Bool
reached_by s r = reaches (limit_of s (profile_of r)) (time_in phase_at s r)

none-reached : (s : Stage) (r : Run) → limit_reached phase_at r ≡ false → reached_by s r ≡ false
unfolding limit_reached
none-reached trickle r h = (none_of (reached_by trickle r) (reached_by precharge r) (reached_by fast r) h).0
none-reached precharge r h = (none_of (reached_by trickle r) (reached_by precharge r) (reached_by fast r) h).1
none-reached fast r h = (none_of (reached_by trickle r) (reached_by precharge r) (reached_by fast r) h).2

module _ (r : Run) (e : Later) where
  abbrev here : Run
  here = r ▸ e

  -- the time before it went to no stage, so no limit is found
  gave-none : (s : Stage) → is_done phase_at r ≡ true → gave phase_at s here ≡ 0
  unfolding gave
  gave-none s d = rw (unheld s (phase_at r) (done-number r d))

  found_none : (s : Stage) → is_done phase_at r ≡ true → limit_reached phase_at r ≡ false → limit_found phase_at s here ≡ false
  unfolding limit_found time_found profile_of
  found_none s d l = rw (gave-none s d) (go (was_reset here))
    where
      go : (t : Bool) → reaches (limit_of s (profile_of r)) (pick t 0 (time_in phase_at s r + 0)) ≡ false
      go true = reach-zero (limit_of s (profile_of r))
      go false =
          let same : time_in phase_at s r + 0 ≡ time_in phase_at s r = omega arith in
          ap (λ (n : ℕ). reaches (limit_of s (profile_of r)) n) same ∙ none-reached s r l

  any_none : is_done phase_at r ≡ true → limit_reached phase_at r ≡ false → any_found phase_at phase-keeps-rule here ≡ false
  any_none d l = rw (found_none trickle d l, found_none precharge d l, found_none fast d l)

  -- and no charge ends
  ends-none : is_done phase_at r ≡ true → charge_ends phase_at here ≡ false
  unfolding charge_ends
  ends-none d =
      let past : eqb (number_at phase_at r) 4 ≡ false = not-four (number_at phase_at r) (done-number r d) in
      rw past (left (was_observed here))
    where
      not-four : (n : ℕ) → leb 5 n ≡ true → eqb n 4 ≡ false
      not-four n h = go (eqb n 4) refl
        where
          go : (t : Bool) → eqb n 4 ≡ t → t ≡ false
          go false e = refl
          go true e = absurd (omega (arith, (eqb-iff n 4).0 e, (leb-iff 5 n).0 h))

      left : (o : Bool) → (o && false && (not (short here) && not (low here) && tapering here && ending here)) ≡ false
      left true = refl
      left false = refl

  fault-none : eqb (number_at phase_at here) 5 ≡ true → any_found phase_at phase-keeps-rule here ≡ false
  unfolding phase_by fault
  fault-none h =
      (neither (faulty here) (any_found phase_at phase-keeps-rule here)
      (five (permitted here) (fault phase_at here) (suspended here) (was_done phase_at here && not (recharge_due here) || charge_ends phase_at here) (short here) (low here) (tapering here)
      (ap (λ q. eqb (phase_number q) 5) (sym (phase-keeps-rule.rule here)) ∙ h))).1

  limit-none : any_found phase_at phase-keeps-rule here ≡ false → limit_reached phase_at here ≡ false
  limit-none h = sym (limit-next phase_at phase-keeps-rule r e) ∙ ap (λ b. not (cleared phase_at phase-keeps-rule r e) && b) h ∙ and-false (not (cleared phase_at phase-keeps-rule r e))

  done_next : (is_done phase_at r ≡ true → limit_reached phase_at r ≡ false) → is_done phase_at here ≡ true → limit_reached phase_at here ≡ false
  unfolding is_done since
  done_next f t =
      or_cases (eqb (number_at phase_at here) 5) ((not (was_reset here) && leb 5 (number_at phase_at here)) && is_done phase_at r) t
      (λ h. limit-none (fault-none h))
      (λ h. let d = ((and-iff (not (was_reset here) && leb 5 (number_at phase_at here)) (is_done phase_at r)).0 h).1 in limit-none (any_none d (f d)))

-- a cycle that is done has reached no limit
pub done-unlimited : (r : Run) → is_done phase_at r ≡ true → limit_reached phase_at r ≡ false
unfolding limit_reached time_in sum_after profile_of
done-unlimited (powered p) t = rw (reach-zero p.trickle, reach-zero p.precharge, reach-zero p.fast)
done-unlimited (r ▸ e) t = done_next r e (done-unlimited r) t

-- by the phase judged: done, and a cycle that starts, after and by the tests
abbrev judged : Bool → Bool → Bool → Bool → Bool → Bool → Bool → Bool → Bool → Bool → Phase
judged p f l s was due ends sh lo ta = first_phase p (f || l) s (was && not due || ends) sh lo ta

abbrev starts_by : Phase → Bool → Bool → Bool → Bool
starts_by q reset p was = reset || (not p || (not reset && was) && ltb (phase_number q) 5)

abbrev starts_from : Bool → Bool → Bool → Bool → Bool → Bool → Bool
starts_from reset p f s was due = reset || (not p || (not reset && was) && ((p && (not f && not s)) && due))

start-done : (p f s reset due sh lo ta : Bool)
    → starts_by (judged p f false s (not reset && true) due false sh lo ta) reset p true ≡ starts_from reset p f s true due
start-done p f s true due sh lo ta = refl
start-done false f s false due sh lo ta = refl
start-done true true s false due sh lo ta = refl
start-done true false true false due sh lo ta = refl
start-done true false false false false sh lo ta = refl
start-done true false false false true true lo ta = refl
start-done true false false false true false true ta = refl
start-done true false false false true false false true = refl
start-done true false false false true false false false = refl

start-undone : (q : Phase) (reset p f s due : Bool) → starts_by q reset p false ≡ starts_from reset p f s false due
start-undone q true p f s due = refl
start-undone q false p f s due = refl

abbrev kept_by : Phase → Bool → Bool → Bool
kept_by q reset was = eqb (phase_number q) 5 || (not reset && leb 5 (phase_number q)) && was

abbrev lasts_by : Phase → Bool → Bool → Bool → Bool → Bool → Bool → Bool → Bool
lasts_by q reset p f l s was ends =
    (p && (not f && not s)) && (not (not (clears q p (not reset && was)) && l) && ends) || (not reset && was) && not (starts_by q reset p was)

keep-done : (p f s reset due sh lo ta : Bool)
    → kept_by (judged p f false s (not reset && true) due false sh lo ta) reset true
    ≡ lasts_by (judged p f false s (not reset && true) due false sh lo ta) reset p f false s true false
keep-done false f s true due sh lo ta = refl
keep-done true true s true due sh lo ta = refl
keep-done true false true true due sh lo ta = refl
keep-done true false false true due true lo ta = refl
keep-done true false false true due false true ta = refl
keep-done true false false true due false false true = refl
keep-done true false false true due false false false = refl
keep-done false f s false due sh lo ta = refl
keep-done true true s false due sh lo ta = refl
keep-done true false true false due sh lo ta = refl
keep-done true false false false false sh lo ta = refl
keep-done true false false false true true lo ta = refl
keep-done true false false false true false true ta = refl
keep-done true false false false true false false true = refl
keep-done true false false false true false false false = refl

keep-undone : (p f l s reset due ends sh lo ta : Bool)
    → kept_by (judged p f l s (not reset && false) due ends sh lo ta) reset false
    ≡ lasts_by (judged p f l s (not reset && false) due ends sh lo ta) reset p f l s false ends
keep-undone false f l s true due ends sh lo ta = refl
keep-undone true true l s true due ends sh lo ta = refl
keep-undone true false true true true due ends sh lo ta = refl
keep-undone true false true false true due ends sh lo ta = refl
keep-undone true false false true true due ends sh lo ta = refl
keep-undone true false false false true due true sh lo ta = refl
keep-undone true false false false true due false true lo ta = refl
keep-undone true false false false true due false false true ta = refl
keep-undone true false false false true due false false false true = refl
keep-undone true false false false true due false false false false = refl
keep-undone false f l s false due ends sh lo ta = refl
keep-undone true true l s false due ends sh lo ta = refl
keep-undone true false true true false due ends sh lo ta = refl
keep-undone true false true false false due ends sh lo ta = refl
keep-undone true false false true false due ends sh lo ta = refl
keep-undone true false false false false due true sh lo ta = refl
keep-undone true false false false false due false true lo ta = refl
keep-undone true false false false false due false false true ta = refl
keep-undone true false false false false due false false false true = refl
keep-undone true false false false false due false false false false = refl

-- by what was done before
module _ (r : Run) (e : Later) where
  abbrev found : Bool
  found = any_found phase_at phase-keeps-rule (r ▸ e)

  abbrev Same : Bool → Bool → Bool → Type 0
  Same was l ends =
      let now = r ▸ e in
      let q = judged (permitted now) (faulty now) l (suspended now) (not (was_reset now) && was) (recharge_due now) ends (short now) (low now) (tapering now) in
      (starts_by q (was_reset now) (permitted now) was ≡ starts_from (was_reset now) (permitted now) (faulty now) (suspended now) was (recharge_due now))
      × (kept_by q (was_reset now) was ≡ lasts_by q (was_reset now) (permitted now) (faulty now) l (suspended now) was ends)

  same : (was : Bool) → is_done phase_at r ≡ was → Same was found (charge_ends phase_at (r ▸ e))
  same true d =
      let now = r ▸ e in
      subst (λ (l : Bool). Same true l (charge_ends phase_at now)) (sym (any_none r e d (done-unlimited r d)))
      (subst (λ (ends : Bool). Same true false ends) (sym (ends-none r e d)) (
        start-done (permitted now) (faulty now) (suspended now) (was_reset now) (recharge_due now) (short now) (low now) (tapering now),
        keep-done (permitted now) (faulty now) (suspended now) (was_reset now) (recharge_due now) (short now) (low now) (tapering now),
      ))
  same false d =
      let now = r ▸ e in
      let ends = charge_ends phase_at now in
      let q = judged (permitted now) (faulty now) found (suspended now) (not (was_reset now) && false) (recharge_due now) ends (short now) (low now) (tapering now) in (
        start-undone q (was_reset now) (permitted now) (faulty now) (suspended now) (recharge_due now),
        keep-undone (permitted now) (faulty now) found (suspended now) (was_reset now) (recharge_due now) ends (short now) (low now) (tapering now),
      )

  rule : phase_at (r ▸ e) ≡ judged (permitted (r ▸ e)) (faulty (r ▸ e)) found (suspended (r ▸ e)) (not (was_reset (r ▸ e)) && is_done phase_at r) (recharge_due (r ▸ e)) (charge_ends phase_at (r ▸ e)) (short (r ▸ e)) (low (r ▸ e)) (tapering (r ▸ e))
  unfolding phase_by fault was_done
  rule = phase-keeps-rule.rule (r ▸ e)

  starts-next : starts phase_at (r ▸ e) ≡ starts_now (r ▸ e)
  unfolding starts restarts was_done
  starts-next =
      ap (λ q. starts_by q (was_reset (r ▸ e)) (permitted (r ▸ e)) (is_done phase_at r)) rule ∙ (same (is_done phase_at r) refl).0

  done-by : is_done phase_at (r ▸ e) ≡ (ends_now (r ▸ e) || was_done phase_at (r ▸ e) && not (starts phase_at (r ▸ e)))
  unfolding is_done since was_done starts restarts
  done-by =
      let now = r ▸ e in
      subst (λ q. kept_by q (was_reset now) (is_done phase_at r) ≡ lasts_by q (was_reset now) (permitted now) (faulty now) found (suspended now) (is_done phase_at r) (charge_ends phase_at now))
      (sym rule) (same (is_done phase_at r) refl).1
      ∙ ap (λ (l : Bool). may_charge now && (not l && charge_ends phase_at now) || (not (was_reset now) && is_done phase_at r) && not (starts_by (phase_at now) (was_reset now) (permitted now) (is_done phase_at r)))
      (limit-next phase_at phase-keeps-rule r e)

-- a cycle starts exactly where these tests say, and the cycle is done exactly where those do
pub starts_is : (r : Run) → starts phase_at r ≡ starts_now r
unfolding starts restarts was_done
starts_is (powered p) = refl
starts_is (r ▸ e) = starts-next r e

abbrev pub done_now : Run → Bool
done_now r = ends_now r || was_done phase_at r && not (starts phase_at r)

done_first : (p : Profile) → is_done phase_at (powered p) ≡ done_now (powered p)
unfolding is_done since phase_by permitted input_good input_ok sample_of was_done
done_first p = ap (λ q. eqb (phase_number q) 5) (phase-keeps-rule.rule (powered p))

pub done-is : (r : Run) → is_done phase_at r ≡ done_now r
done-is (powered p) = done_first p
done-is (r ▸ e) = done-by r e

-- done, with nothing that comes before phase 5
judged-five : (due sh lo ta : Bool) → leb 5 (phase_number (judged true false false false true due false sh lo ta)) ≡ true
    → eqb (phase_number (judged true false false false true due false sh lo ta)) 5 ≡ true
judged-five false sh lo ta h = refl
judged-five true true lo ta h = absurd (false≢true h)
judged-five true false true ta h = absurd (false≢true h)
judged-five true false false true h = absurd (false≢true h)
judged-five true false false false h = absurd (false≢true h)

module _ (r : Run) (e : Later) where
  abbrev now : Run
  now = r ▸ e

  five-again : may_charge now ≡ true → not (was_reset now) ≡ true → is_done phase_at r ≡ true → leb 5 (number_at phase_at now) ≡ true → eqb (number_at phase_at now) 5 ≡ true
  five-again may kept was from = subst (λ q. eqb (phase_number q) 5 ≡ true) (sym held) (judged-five (recharge_due now) (short now) (low now) (tapering now) (subst (λ q. leb 5 (phase_number q) ≡ true) held from))
    where
      clear : (b : Bool) → not b ≡ true → b ≡ false
      clear false h = refl
      clear true h = absurd (false≢true h)

      parts : (permitted now ≡ true) × (not (faulty now) && not (suspended now) ≡ true)
      parts = (and-iff (permitted now) (not (faulty now) && not (suspended now))).0 may

      calm : (not (faulty now) ≡ true) × (not (suspended now) ≡ true)
      calm = (and-iff (not (faulty now)) (not (suspended now))).0 parts.1

      held : phase_at now ≡ judged true false false false true (recharge_due now) false (short now) (low now) (tapering now)
      held = rw (rule r e, parts.0, clear (faulty now) calm.0, clear (suspended now) calm.1, any_none r e was (done-unlimited r was), kept, was, ends-none r e was)

pub done-five : (r : Run) → is_done phase_at r ≡ true → may_charge r ≡ true → eqb (number_at phase_at r) 5 ≡ true
unfolding is_done since
done-five (powered p) t may = t
done-five (r ▸ e) t may =
    or_cases (eqb (number_at phase_at (r ▸ e)) 5) ((not (was_reset (r ▸ e)) && leb 5 (number_at phase_at (r ▸ e))) && is_done phase_at r) t (λ h. h)
    (λ h.
    let k = (and-iff (not (was_reset (r ▸ e)) && leb 5 (number_at phase_at (r ▸ e))) (is_done phase_at r)).0 h in
    let j = (and-iff (not (was_reset (r ▸ e))) (leb 5 (number_at phase_at (r ▸ e)))).0 k.0 in
    five-again r e may j.0 k.1 j.1)
