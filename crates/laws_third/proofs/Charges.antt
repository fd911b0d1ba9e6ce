-- When a phase that charges is held, and which: by the rule of the phases, over tests alone.
use Prim.Native.Nat.{ℕ, ◌+◌, ◌*◌}
use native.Mathlib.Omega.{arith}
use mathlib.Core.Path.{◌≡◌, refl, sym, ap, ◌∙◌, subst}
use mathlib.Core.Bool.{Bool, true, false, not, ◌&&◌, ◌||◌, false≢true}
use lib.Dec.{leb, ltb, eqb}
use borrow.Author.Tests.{eqb-false, lt-leb}
use Rattle.base.specs.Pick.{pick}
use Rattle.state_parts.specs.Numbers.{phase_number}
use Rattle.state_parts.specs.declared.phase.Phase.{Phase}
use Rattle.state_parts.specs.declared.phase.Phase.TheVariants.{Trickle, Precharge, Fast, Taper}
use Rattle.state_parts.specs.declared.profile.Profile.{Profile}
use Rattle.state_parts.specs.Stages.{charging}
use Rattle.settle_phases.specs.Order.{first_phase}
use Rattle.settle_permission.specs.Bits.{shutdown_of}
use Rattle.laws_account.proofs.Choices.{middle}
use Rattle.laws_account.specs.History.{Run, powered, ◌▸◌, since, sum_after}
use Rattle.step_turns.specs.declared.later.Later.{Later}
use Rattle.laws_account.specs.Held.{profile_of, sample_of, was_reset}
use Rattle.laws_account.specs.Judged.{input_ok, input_good, short, low, pack_over, permitted, suspended, tapering, recharge_due}
use Rattle.laws_account.specs.Cycles.{Stage, trickle, precharge, fast, limit_of, reaches, gave, is_done, was_done, restarts, starts, time_in, time_found, limit_found, fault, charge_ends, phase_by, limit_reached, Keeps}

-- by the phase judged, permission and done before: done after, and the times cleared
abbrev done_after : Phase → Bool → Bool
done_after q was = eqb (phase_number q) 5 || leb 5 (phase_number q) && was

abbrev pub clears : Phase → Bool → Bool → Bool
clears q permit was = not permit || was && ltb (phase_number q) 5

-- permitted, shut down or over, a limit found, suspended, done before
abbrev allows : Phase → Bool → Bool → Bool → Bool → Bool → Bool
allows q p f l s was = p && (not f && (not s && (not (done_after q was) && not (not (clears q p was) && l))))

-- and done, short, low, taper
allowed : (p f l s d was sh lo ta : Bool) → charging (first_phase p (f || l) s d sh lo ta) ≡ allows (first_phase p (f || l) s d sh lo ta) p f l s was
allowed false f l s d was sh lo ta = refl
allowed true true l s d was sh lo ta = refl
allowed true false true true d was sh lo ta = refl
allowed true false true false d true sh lo ta = refl
allowed true false true false d false sh lo ta = refl
allowed true false false true d was sh lo ta = refl
allowed true false false false true was sh lo ta = refl
allowed true false false false false true true lo ta = refl
allowed true false false false false false true lo ta = refl
allowed true false false false false true false true ta = refl
allowed true false false false false false false true ta = refl
allowed true false false false false true false false true = refl
allowed true false false false false false false false true = refl
allowed true false false false false true false false false = refl
allowed true false false false false false false false false = refl

-- the stage that charges
abbrev pub stage : Bool → Bool → Bool → Phase
stage sh lo ta = pick sh Trickle (pick lo Precharge (pick ta Taper Fast))

staged : (p f s d sh lo ta : Bool) → charging (first_phase p f s d sh lo ta) ≡ true → first_phase p f s d sh lo ta ≡ stage sh lo ta
staged false f s d sh lo ta h = absurd (false≢true h)
staged true true s d sh lo ta h = absurd (false≢true h)
staged true false true d sh lo ta h = absurd (false≢true h)
staged true false false true sh lo ta h = absurd (false≢true h)
staged true false false false sh lo ta h = refl

-- a time that is cleared reaches no limit
pub reach-zero : (limit : ℕ) → reaches limit 0 ≡ false
reach-zero limit = go (eqb limit 0) refl
  where
    go : (b : Bool) → eqb limit 0 ≡ b → (not b && leb (limit * 2000) 0) ≡ false
    go true h = refl
    go false h = lt-leb (limit * 2000) 0 (omega (arith, eqb-false limit 0 h))

none_left : (a b : Bool) → b ≡ false → b ≡ (not a && b)
none_left true b e = e
none_left false b e = refl

reach-cleared : (limit : ℕ) (w c : Bool) (x : ℕ) → reaches limit (pick (w || c) 0 x) ≡ (not c && reaches limit (pick w 0 x))
reach-cleared limit true c x = none_left c (reaches limit 0) (reach-zero limit)
reach-cleared limit false true x = reach-zero limit
reach-cleared limit false false x = refl

spread : (c a b d : Bool) → ((not c && a) || (not c && b) || (not c && d)) ≡ (not c && (a || b || d))
spread true a b d = refl
spread false a b d = refl

-- shut down or over
abbrev pub faulty : Run → Bool
faulty r = shutdown_of (sample_of r) || pack_over r

-- the tests at a run's end
abbrev pub charges_at : (Run → Phase) → Run → Bool
charges_at P r = permitted r && (not (faulty r) && (not (suspended r) && (not (is_done P r) && not (limit_reached P r))))

module _ (P : Run → Phase) (k : Keeps P) where
  abbrev pub any_found : Run → Bool
  any_found r = limit_found P trickle r || limit_found P precharge r || limit_found P fast r

  -- done as settling judges it: held and not to be charged again, or beginning
  abbrev pub done_now : Run → Bool
  done_now r = was_done P r && not (recharge_due r) || charge_ends P r

  module _ (r : Run) (e : Later) where
    abbrev pub now : Run
    now = r ▸ e

    abbrev pub cleared : Bool
    cleared = clears (P now) (permitted now) (was_done P now)

    done_next : done_after (P now) (was_done P now) ≡ is_done P now
    unfolding is_done since was_done
    done_next =
        ap (λ b. eqb (phase_number (P now)) 5 || b) (sym (middle (not (was_reset now)) (leb 5 (phase_number (P now))) (is_done P r)))

    reach-next : (s : Stage) → (not cleared && limit_found P s now) ≡ reaches (limit_of s (profile_of now)) (time_in P s now)
    unfolding time_in sum_after starts restarts limit_found time_found
    reach-next s = sym (reach-cleared (limit_of s (profile_of now)) (was_reset now) cleared (time_in P s r + gave P s now))

    pub limit-next : (not cleared && any_found now) ≡ limit_reached P now
    unfolding limit_reached
    limit-next =
        sym (spread cleared (limit_found P trickle now) (limit_found P precharge now) (limit_found P fast now))
        ∙ (λ i. reach-next trickle i || reach-next precharge i || reach-next fast i)

    by-rule : charging (P now) ≡ allows (P now) (permitted now) (faulty now) (any_found now) (suspended now) (was_done P now)
    unfolding phase_by fault
    by-rule =
        subst (λ q. charging q ≡ allows q (permitted now) (faulty now) (any_found now) (suspended now) (was_done P now)) (sym (k.rule now))
        (allowed (permitted now) (faulty now) (any_found now) (suspended now) (done_now now) (was_done P now) (short now) (low now) (tapering now))

    charges-next : charging (P now) ≡ charges_at P now
    charges-next =
        by-rule ∙ (λ i. permitted now && (not (faulty now) && (not (suspended now) && (not (done_next i) && not (limit-next i)))))

  charges-first : (p : Profile) → charging (P (powered p)) ≡ charges_at P (powered p)
  unfolding phase_by permitted input_good input_ok since sample_of
  charges-first p = ap charging (k.rule (powered p))

  -- a phase that charges is held exactly where these tests say
  pub charges-is : (r : Run) → charging (P r) ≡ charges_at P r
  charges-is (powered p) = charges-first p
  charges-is (r ▸ e) = charges-next r e

  -- and it is the first stage that holds
  pub stage_is : (r : Run) → charging (P r) ≡ true → P r ≡ stage (short r) (low r) (tapering r)
  unfolding phase_by
  stage_is r h =
      k.rule r
      ∙ staged (permitted r) (fault P r) (suspended r) (done_now r) (short r) (low r) (tapering r) (sym (ap charging (k.rule r)) ∙ h)
