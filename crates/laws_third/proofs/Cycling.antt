-- The cycle of the account means the moments and the sums that the demand names.
use Prim.Native.Nat.{ℕ, ◌*◌, ◌-◌, ◌<◌, ◌≤◌}
use native.Mathlib.Omega.{arith}
use mathlib.Core.Path.{◌≡◌, refl, sym, ap, subst, ◌∙◌}
use mathlib.Core.Logic.{inl, inr, ⊎_elim}
use mathlib.Core.Bool.{Bool, true, false, not, ◌&&◌, ◌||◌, false≢true}
use lib.Dec.{ltb, eqb}
use lib.IntN.{pos}
use lib.Signed.{lt_z}
use borrow.Author.Tests.{ne_eqb, eqb-false, ltb-true, ltb-false}
use Rattle.base.specs.Pick.{pick}
use Rattle.laws_account.specs.History.{Run, powered, ◌▸◌, count, up_to, last_of}
use Rattle.step_turns.specs.declared.later.Later.{Later}
use Rattle.step_turns.specs.declared.later.Later.TheVariants.{Set, Write, TakeFlags, Observe, Service, Reset, WriteRun, ReadFlags}
use Rattle.laws_account.specs.Held.{profile_of, sample_of, regulated, elapsed, was_observed, was_reset}
use Rattle.laws_account.specs.Valued.{setting_of}
use Rattle.laws_account.specs.Judged.{ending}
use Rattle.laws_account.specs.Refused.{Accepted}
use Rattle.laws_account.specs.Cycles.{Stage, trickle, precharge, fast, limit_of, held_in, number_at, units_after, reaches, gave, starts, is_done, was_done, time_in, limit_reached, charge_ends, phase_at}
use Rattle.laws_third.specs.Stages.{WasDone, Restarts, CycleStarts, StartedAt, passed, units_given, time_since, Reached, Ends, Done}
use Rattle.laws_third.proofs.Means.{Means, leb-means, eqb-means, true-means, false-means, and-means, or-means, not-means, re-means, by-test, or_cases, or_left, or_right}
use Rattle.laws_third.proofs.Positions.{since-means, sum_is, last-is, last-le, total-alike, accepted-up}
use Rattle.laws_third.proofs.Bands.{tapering-means, recharge-means}
use Rattle.laws_third.proofs.Crossings.{short-means, low-means}
use Rattle.laws_third.proofs.Ended.{may_charge, restarts_now, ends_now, starts_is, done-is}
use Rattle.laws_third.proofs.Allowing.{permitted-means, may-means}

-- done before
pub was-means : (r : Run) → Means (was_done phase_at r) (WasDone r)
unfolding was_done is_done
was-means (powered p) = record { fact = λ t. false≢true t; test = λ h. absurd h }
was-means (r ▸ e) =
    and-means (false-means (was_reset (r ▸ e)))
    (since-means (λ m. and-means (false-means (was_reset m)) (leb-means 5 (number_at phase_at m))) (λ m. eqb-means (number_at phase_at m) 5) r)

pub restarts-means : (r : Run) → Accepted r → Means (restarts_now r) (Restarts r)
restarts-means r a =
    re-means (λ h. (h.0, h.1.0, h.1.1)) (λ h. (h.0, (h.1, h.2)))
    (and-means (was-means r) (and-means (may-means r a) (recharge-means r a)))

-- a cycle starts
pub starts-means : (r : Run) → Accepted r → Means (starts phase_at r) (CycleStarts r)
starts-means r a =
    by-test (starts_is r) (or-means (true-means (was_reset r)) (or-means (not-means (permitted-means r)) (restarts-means r a)))

-- the last start
abbrev pub start_of : Run → ℕ
start_of r = last_of (starts phase_at) r

pub started : (r : Run) → Accepted r → StartedAt r (start_of r)
started r a =
    let k = last-is (starts phase_at) r in
    record {
      inside = last-le (starts phase_at) (λ m. 0) r;
      starting = ⊎_elim (λ z. inl z) (λ t. inr ((starts-means (up_to (start_of r) r) (accepted-up r a (start_of r))).fact t)) k.0;
      last = λ j h l s. false≢true (sym (k.1 j h l) ∙ (starts-means (up_to j r) (accepted-up r a j)).test s);
    }

-- of two starts with none after them the later one is none
none_after : (r : Run) (i k : ℕ) → StartedAt r i → StartedAt r k → i < k → ⊥
none_after r i k h l lt =
    ⊎_elim (λ z. omega (arith, z, lt)) (λ s. h.last k lt l.inside s) l.starting

pub only-start : (r : Run) (i k : ℕ) → StartedAt r i → StartedAt r k → i ≡ k
only-start r i k h l = go (ltb i k) (ltb k i) refl refl
  where
    go : (a b : Bool) → ltb i k ≡ a → ltb k i ≡ b → i ≡ k
    go true b x y = absurd (none_after r i k h l (ltb-true i k x))
    go false true x y = absurd (none_after r k i l h (ltb-true k i y))
    go false false x y = omega (arith, ltb-false i k x, ltb-false k i y)

-- what an event gave a stage
passed_is : (r : Run) (e : Later) → passed (r ▸ e) ≡ elapsed (r ▸ e)
unfolding elapsed
passed_is r (Set number value) = refl
passed_is r (Write address byte) = refl
passed_is r TakeFlags = refl
passed_is r (Observe x) = refl
passed_is r Service = refl
passed_is r Reset = refl
passed_is r (WriteRun first raw) = refl
passed_is r (ReadFlags address) = refl

some_is : (n : ℕ) → ltb 0 n ≡ not (eqb n 0)
some_is n = go (eqb n 0) (ltb 0 n) refl refl
  where
    go : (a b : Bool) → eqb n 0 ≡ a → ltb 0 n ≡ b → b ≡ not a
    go true false x y = refl
    go false true x y = refl
    go true true x y = absurd (omega (arith, (eqb-means n 0).fact x, ltb-true 0 n y))
    go false false x y = absurd (omega (arith, eqb-false n 0 x, ltb-false 0 n y))

rated : (t : Bool) (ms : ℕ) → ms * pick t 1 2 ≡ pick t ms (ms * 2)
rated true ms = omega arith
rated false ms = refl

given_is : (s : Stage) (r : Run) → units_given s r ≡ gave phase_at s r
unfolding gave units_after
given_is s (powered p) = refl
given_is s (r ▸ e) =
    λ i. pick (held_in s (phase_at r) && some_is (limit_of s (profile_of r)) i) ((ap (λ (ms : ℕ). ms * pick (regulated r) 1 2) (passed_is r e) ∙ rated (regulated r) (elapsed (r ▸ e))) i) 0

pub time-is : (s : Stage) (r : Run) → time_in phase_at s r ≡ time_since (start_of r) s r
unfolding time_in
time-is s r =
    sum_is (starts phase_at) (gave phase_at s) r
    ∙ total-alike (λ i. gave phase_at s (up_to i r)) (λ i. units_given s (up_to i r)) (start_of r) (count r - start_of r) (λ i h. sym (given_is s (up_to i r)))

-- a limit reached
some-means : (n : ℕ) → Means (not (eqb n 0)) (0 < n)
some-means n =
    re-means (λ e. omega (arith, eqb-false n 0 e)) (λ h. ne_eqb n 0 (λ e. omega (arith, e))) (false-means (eqb n 0))

pub reached-means : (s : Stage) (r : Run) → Accepted r → Means (reaches (limit_of s (profile_of r)) (time_in phase_at s r)) (Reached s r)
reached-means s r a =
    let limit = limit_of s (profile_of r) in
    re-means {A = (0 < limit) × (limit * 2000 ≤ time_since (start_of r) s r)} (λ h. (start_of r, started r a, h.0, h.1))
    (λ h. (h.2, subst (λ (i : ℕ). limit_of s (profile_of r) * 2000 ≤ time_since i s r) (only-start r h.0 (start_of r) h.1 (started r a)) h.3))
    (rw (time-is s r) (and-means (some-means (limit_of s (profile_of r))) (leb-means (limit_of s (profile_of r) * 2000) (time_since (start_of r) s r))))

abbrev pub AnyReached : Run → Type 0
AnyReached r = (s : Stage) × Reached s r

pub any-means : (r : Run) → Accepted r → Means (limit_reached phase_at r) (AnyReached r)
unfolding limit_reached
any-means r k = record { fact = found; test = λ h. told h.0 h.1 }
  where
    a : Bool
    a = reaches (limit_of trickle (profile_of r)) (time_in phase_at trickle r)

    b : Bool
    b = reaches (limit_of precharge (profile_of r)) (time_in phase_at precharge r)

    c : Bool
    c = reaches (limit_of fast (profile_of r)) (time_in phase_at fast r)

    found : ((a || b) || c) ≡ true → AnyReached r
    found t =
        or_cases (a || b) c t
        (λ u. or_cases a b u (λ x. (trickle, (reached-means trickle r k).fact x)) (λ y. (precharge, (reached-means precharge r k).fact y)))
        (λ z. (fast, (reached-means fast r k).fact z))

    told : (s : Stage) → Reached s r → ((a || b) || c) ≡ true
    told trickle h = or_left (a || b) c (or_left a b ((reached-means trickle r k).test h))
    told precharge h = or_left (a || b) c (or_right a b ((reached-means precharge r k).test h))
    told fast h = or_right (a || b) c ((reached-means fast r k).test h)

pub within-means : (r : Run) → Accepted r → Means (not (limit_reached phase_at r)) ((s : Stage) → Reached s r → ⊥)
within-means r a = re-means (λ h s t. h (s, t)) (λ h t. h t.0 t.1) (not-means (any-means r a))

-- the end of a charge
ending-means : (r : Run) → Means (ending r) ((setting_of 10 r ≡ 1) × (lt_z (sample_of r).ibat (pos (setting_of 4 r)) ≡ true) × (regulated r ≡ false))
unfolding ending
ending-means r =
    re-means (λ h. (h.0.0, h.0.1, h.1)) (λ h. ((h.0, h.1), h.2))
    (and-means (and-means (eqb-means (setting_of 10 r) 1) (true-means (lt_z (sample_of r).ibat (pos (setting_of 4 r))))) (false-means (regulated r)))

never : (x y : Bool) → (x && (y && false)) ≡ true → ⊥
never false y t = false≢true t
never true false t = false≢true t
never true true t = false≢true t

pub ends-means : (r : Run) → Accepted r → Means (ends_now r) (Ends r)
unfolding charge_ends
ends-means (powered p) a =
    record {
      fact = λ t. absurd (never (may_charge (powered p)) (not (limit_reached phase_at (powered p))) t);
      test = λ h. absurd h.before;
    }
ends-means (r ▸ e) a =
    re-means
    (λ h. record {
      observed = h.1.1.0.0;
      before = h.1.1.0.1;
      allowed = h.0;
      within = h.1.0;
      charged = (h.1.1.1.0.0.0, h.1.1.1.0.0.1, h.1.1.1.0.1);
      enabled = h.1.1.1.1.0;
      weak = h.1.1.1.1.1;
      unregulated = h.1.1.1.1.2;
    })
    (λ k.
    (k.allowed, (k.within, ((k.observed, k.before), (((k.charged.0, k.charged.1), k.charged.2), (k.enabled, k.weak, k.unregulated))))))
    (and-means (may-means (r ▸ e) a)
    (and-means (within-means (r ▸ e) a)
    (and-means (and-means (true-means (was_observed (r ▸ e))) (eqb-means (number_at phase_at r) 4))
    (and-means (and-means (and-means (not-means (short-means (r ▸ e) a)) (not-means (low-means (r ▸ e) a))) (tapering-means (r ▸ e) a)) (ending-means (r ▸ e))))))

-- done
pub done-means : (r : Run) → Accepted r → Means (is_done phase_at r) (Done r)
done-means r a = by-test (done-is r) (or-means (ends-means r a) (and-means (was-means r) (not-means (starts-means r a))))
