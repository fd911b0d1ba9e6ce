-- Demand 3, proved of the step and the report: of the account's state after every run of accepted events, and so of the model's.
use Prim.Native.Nat.{ℕ, ◌*◌, ◌≤◌, ◌<◌}
use native.Mathlib.Omega.{arith}
use mathlib.Core.Path.{◌≡◌, refl, sym, ap, ◌∙◌, subst}
use mathlib.Core.Logic.{inr}
use mathlib.Core.Bool.{Bool, true, false}
use mathlib.Core.List.{List, [], ◌∷◌}
use Rattle.base.specs.Pick.{pick}
use Rattle.state_parts.specs.Pins.{ichg_of}
use Rattle.state_parts.specs.Stages.{charging}
use Rattle.report_state.specs.Report.{trickle_current, current_in, report_of}
use Rattle.step_event.specs.Steps.{step_of}
use Rattle.laws_account.specs.History.{Run}
use Rattle.log_event.specs.declared.Event.{Event}
use Rattle.laws_account.specs.Held.{profile_of, ichg, overridden}
use Rattle.laws_account.specs.Valued.{setting_of}
use Rattle.laws_account.specs.Judged.{charge_clamp, share_in, short, low, tapering}
use Rattle.laws_account.specs.Bands.{band_at}
use Rattle.laws_account.specs.Cycles.{phase_at}
use Rattle.laws_account.specs.Refused.{Accepted, Past, none, next_of, past_of}
use Rattle.laws_account.specs.States.{state_of, model_of}
use Rattle.laws_account.specs.Runs.{Lawful}
use Rattle.laws_account.proofs.Past.{phase-keeps-rule}
use Rattle.laws_account.proofs.Agreeing.{keeps-lawful, next-model}
use Rattle.laws_account.proofs.Logging.{past-lawful}
use Rattle.laws_third.specs.Crossed.{Short, Low}
use Rattle.laws_third.specs.Demand.{Charging, Bounded, ThirdIn, Third, ran_by, ThirdOfLists}
use Rattle.laws_third.proofs.Crossings.{short-means, low-means}
use Rattle.laws_third.proofs.Charges.{stage_is}
use Rattle.laws_third.proofs.Bands.{band-holds}
use Rattle.laws_third.proofs.Charging.{charging-means}
use Rattle.laws_third.proofs.Amounts.{ichg-least, iprechg-least, clamp-least, share-least, share-most, some_share, share-below, share-of-each}
use Rattle.laws_account.specs.Reported.{fast_at}
use Rattle.laws_third.proofs.Shows.{charge_at, volts, current-is, volts-are, volts-most, only-charging, some-current, staged-current}

not-true : (b : Bool) → (b ≡ true → ⊥) → b ≡ false
not-true true h = absurd (h refl)
not-true false h = refl

module _ (r : Run) (a : Accepted r) where
  abbrev current : ℕ
  current = (report_of (state_of r)).current

  held : Charging r → charging (phase_at r) ≡ true
  held c = (charging-means r a).test c

  amounts : Charging r → current ≡ pick (short r) (trickle_current (profile_of r)) (pick (low r) (setting_of 3 r) (fast_at r))
  amounts c =
      current-is r
      ∙ ap (λ q. current_in q (trickle_current (profile_of r)) (setting_of 3 r) (fast_at r)) (stage_is phase_at phase-keeps-rule r (held c))
      ∙ staged-current (short r) (low r) (tapering r) (trickle_current (profile_of r)) (setting_of 3 r) (fast_at r)

  in-trickle : Charging r → Short r → current ≡ 100
  in-trickle c s = amounts c ∙ ap (λ b. pick b (trickle_current (profile_of r)) (pick (low r) (setting_of 3 r) (fast_at r))) ((short-means r a).test s)

  unshort : Charging r → (Short r → ⊥) → current ≡ pick (low r) (setting_of 3 r) (fast_at r)
  unshort c n =
      amounts c ∙ ap (λ b. pick b (trickle_current (profile_of r)) (pick (low r) (setting_of 3 r) (fast_at r))) (not-true (short r) (λ t. n ((short-means r a).fact t)))

  in-precharge : Charging r → (Short r → ⊥) → Low r → current ≡ setting_of 3 r
  in-precharge c n l = unshort c n ∙ ap (λ b. pick b (setting_of 3 r) (fast_at r)) ((low-means r a).test l)

  else : Charging r → (Short r → ⊥) → (Low r → ⊥) → current ≡ fast_at r
  else c n m = unshort c n ∙ ap (λ b. pick b (setting_of 3 r) (fast_at r)) (not-true (low r) (λ t. m ((low-means r a).fact t)))

  clamp-is : overridden ichg r ≡ false → charge_clamp r ≡ ichg_of (profile_of r)
  unfolding charge_clamp
  clamp-is e = rw e

  bounded : current ≡ fast_at r → Bounded (band_at r) r current
  unfolding fast_at
  bounded e =
      let most = share-below (setting_of 2 r) (charge_clamp r) (share_in (band_at r) r) (share-most (band_at r) r) in
      let each = share-of-each (setting_of 2 r) (charge_clamp r) (share_in (band_at r) r) in
      rw e
      record {
        setting = most.0;
        clamp = λ o. subst (λ n. fast_at r ≤ n) (clamp-is o) most.1;
        setting_share = each.0;
        clamp_share = λ o. subst (λ n. fast_at r * 100 ≤ n * share_in (band_at r) r) (clamp-is o) each.1;
      }

  above_zero : Charging r → 0 < current
  unfolding fast_at
  above_zero c =
      let fast : 0 < fast_at r =
      some_share (setting_of 2 r) (charge_clamp r) (share_in (band_at r) r) (ichg-least r a)
      (clamp-least r a (λ z. c.allowed.permitted.pinned (inr z))) (share-least (band_at r) r (λ s. c.allowed.mild (band_at r, band-holds r, s))) in
      let pre : 0 < setting_of 3 r = omega (arith, iprechg-least r a) in
      subst (λ n. 0 < n) (sym (current-is r)) (some-current (phase_at r) (trickle_current (profile_of r)) (setting_of 3 r) (fast_at r) (omega arith) pre fast (held c))

  charges-from : 0 < current → Charging r
  charges-from h = (charging-means r a).fact (only-charging (phase_at r) (trickle_current (profile_of r)) (setting_of 3 r) (fast_at r) (subst (λ n. 0 < n) (current-is r) h))

  -- of the account's state
  pub third-in : ThirdIn (band_at r) r (report_of (state_of r))
  unfolding fast_at
  third-in =
      let most : volts r ≤ charge_at r = volts-most r a (charging (phase_at r)) refl in
      record {
        charges = (charges-from, above_zero);
        trickle = in-trickle;
        precharge = in-precharge;
        otherwise = λ c n m. bounded (else c n m);
        amount = else;
        setting = omega (arith, most);
        clamped = omega (arith, most);
        setting_cut = omega (arith, most);
        clamped_cut = omega (arith, most);
        voltage = λ c. volts-are r a true (held c);
        zero = λ n. volts-are r a false (not-true (charging (phase_at r)) (λ t. n ((charging-means r a).fact t)));
      }

  pub third_of : Third r (report_of (state_of r))
  third_of = (band_at r, band-holds r, third-in)

-- the model after a list of events is the account's of what it leaves
ran-none : (h : Past) → ran_by step_of (model_of h) [] ≡ model_of (past_of h [])
unfolding ran_by past_of
ran-none h = refl

ran-more : (h : Past) → Lawful h → (e : Event) (es : List Event) → ran_by step_of (model_of (next_of h e)) es ≡ model_of (past_of (next_of h e) es)
    → ran_by step_of (model_of h) (e ∷ es) ≡ model_of (past_of h (e ∷ es))
unfolding ran_by past_of
ran-more h l e es more = ap (λ m. ran_by step_of m es) (next-model h l e) ∙ more

pub ran-is : (es : List Event) (h : Past) → Lawful h → ran_by step_of (model_of h) es ≡ model_of (past_of h es)
ran-is [] h l = ran-none h
ran-is (e ∷ es) h l = ran-more h l e es (ran-is es (next_of h e) (keeps-lawful h l e))

-- of the step and the report
pub third-of-lists : ThirdOfLists step_of report_of
third-of-lists = record {
  since = λ es r h. (state_of r, ran-is es none tt ∙ ap model_of h, third_of r (subst Lawful h (past-lawful es none tt)));
  before = λ es h. ran-is es none tt ∙ ap model_of h;
}
