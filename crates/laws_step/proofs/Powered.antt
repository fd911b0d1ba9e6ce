-- A power-on by its resistors acts as the one by codes, one of edition 1 as the one without, and what is held of a power-on is what it says.
use Prim.Native.Nat.{ℕ, ◌≤◌, ◌<◌}
use mathlib.Core.Path.{◌≡◌, refl, sym, ap, ◌∙◌}
use mathlib.Core.Bool.{Bool, true, false}
use mathlib.Core.Logic.{◌≢◌, ◌↔◌, ◌⊎◌, inl, inr}
use native.Mathlib.Omega.{arith}
use native.Mathlib.Decide.{dec_lt}
use Rattle.base.specs.Pick.{pick}
use Rattle.base.specs.Told.{refused}
use Rattle.base.proofs.Tests.{and-iff, leb-iff}
use Rattle.log_event.specs.declared.Event.TheVariants.{PowerOn, PowerOnResistors}
use Rattle.log_event.specs.declared.spelled.SpelledResistors.{SpelledResistors}
use Rattle.state_parts.specs.declared.profile.Profile.{Profile}
use Rattle.state_parts.specs.declared.state.Model.{Model}
use Rattle.state_parts.specs.declared.state.Model.TheVariants.{Off, On}
use Rattle.state_valid.specs.Holds.{state_ok}
use Rattle.step_turns.specs.Ranges.{resistors_in_range}
use Rattle.step_turns.specs.Coded.{coded_of}
use Rattle.step_turns.specs.Turns.{opens_with, first_edition, turn_of}
use Rattle.step_turns.specs.declared.turn.Turn.{Turn}
use Rattle.step_turns.specs.declared.turn.Turn.TheVariants.{Opens, OpensOutside}
use Rattle.step_turns.proofs.Beginning.{begins-as-said}
use Rattle.step_turns.proofs.Fitting.{first-says-one}
use Rattle.step_kinds.specs.Answers.{Outcome, refused_with}
use Rattle.step_kinds.specs.Finish.{finish_of}
use Rattle.step_kinds.specs.Plain.{opened_as}
use Rattle.settle_all.specs.Settle.{settle_of, settled_of, forced_of}
use Rattle.state_start.specs.Values.{start_state}
use Rattle.step_event.specs.Steps.{moved_of, first_of, change_of, closed_by, turned_by, step_of}
use Rattle.laws_step.specs.Powered.{TooLarge, at-cell, at-vchg, at-ichg, ActsAsCodes, FirstActsAsOne, HoldsProfile, HoldsWhatIsSaid}
use Rattle.laws_step.proofs.InRanges.{failed}

-- ---- the three resistors
three-in : (r : SpelledResistors) → (resistors_in_range r ≡ true) ↔ (((r.cell ≤ 100000) × (r.vchg ≤ 100000)) × (r.ichg ≤ 100000))
unfolding resistors_in_range
three-in r = (λ e. simp (and-iff, leb-iff) at e, λ k. simp (and-iff, leb-iff) k)

small : (r : SpelledResistors) → ¬ TooLarge r → resistors_in_range r ≡ true
small r out = (three-in r).1 ((most r.cell (λ l. out (at-cell l)), most r.vchg (λ l. out (at-vchg l))), most r.ichg (λ l. out (at-ichg l)))
  where
    most : (n : ℕ) → ¬ (100000 < n) → n ≤ 100000
    most n out = omega (arith, out)

large : (r : SpelledResistors) → TooLarge r → resistors_in_range r ≡ false
large r l = failed (resistors_in_range r) (three-in r) (over l)
  where
    over : TooLarge r → ¬ (((r.cell ≤ 100000) × (r.vchg ≤ 100000)) × (r.ichg ≤ 100000))
    over (at-cell l) k = omega (arith, k.0.0)
    over (at-vchg l) k = omega (arith, k.0.1)
    over (at-ichg l) k = omega (arith, k.1)

either-large : (r : SpelledResistors) → TooLarge r ⊎ (¬ TooLarge r)
either-large r = by (dec_lt 100000 r.cell) (dec_lt 100000 r.vchg) (dec_lt 100000 r.ichg)
  where
    none : ¬ (100000 < r.cell) → ¬ (100000 < r.vchg) → ¬ (100000 < r.ichg) → ¬ TooLarge r
    none a b c (at-cell l) = a l
    none a b c (at-vchg l) = b l
    none a b c (at-ichg l) = c l

    by : Dec (100000 < r.cell) → Dec (100000 < r.vchg) → Dec (100000 < r.ichg) → TooLarge r ⊎ (¬ TooLarge r)
    by (yes a) b c = inl (at-cell a)
    by (no a) (yes b) c = inl (at-vchg b)
    by (no a) (no b) (yes c) = inl (at-ichg c)
    by (no a) (no b) (no c) = inr (none a b c)

-- ---- as kind 1 with the codes
outside-step : (m : Model) → turned_by m OpensOutside ≡ refused_with 5 m
unfolding turned_by change_of first_of moved_of
outside-step Off = refl
outside-step (On s) = by (state_ok s)
  where
    by : (t : Bool) → closed_by (On s) (pick t (refused 5) (refused 5)) ≡ refused_with 5 (On s)
    by true = refl
    by false = refl

same_step : (m : Model) (r : SpelledResistors) → ¬ TooLarge r → step_of m (PowerOnResistors r) ≡ step_of m (PowerOn (coded_of r))
unfolding step_of turn_of
same_step m r out = ap (λ (t : Bool). turned_by m (pick t (opens_with (coded_of r) first_edition) OpensOutside)) (small r out)

large-step : (m : Model) (r : SpelledResistors) → TooLarge r → step_of m (PowerOnResistors r) ≡ refused_with 5 m
unfolding step_of turn_of
large-step m r l = ap (λ (t : Bool). turned_by m (pick t (opens_with (coded_of r) first_edition) OpensOutside)) (large r l) ∙ outside-step m

refused_as : (m : Model) (r : SpelledResistors)
    → ((step_of m (PowerOnResistors r)).number ≢ 0) ↔ (((step_of m (PowerOn (coded_of r))).number ≢ 0) ⊎ TooLarge r)
refused_as m r = by (either-large r)
  where
    by : TooLarge r ⊎ (¬ TooLarge r) → ((step_of m (PowerOnResistors r)).number ≢ 0) ↔ (((step_of m (PowerOn (coded_of r))).number ≢ 0) ⊎ TooLarge r)
    by (inl l) = (λ n. inr l, λ k z. let five = ap (λ (o : Outcome). o.number) (large-step m r l) in omega (arith, five, z))
    by (inr out) = (λ n. inl (λ z. n (numbers ∙ z)), back)
      where
        numbers : (step_of m (PowerOnResistors r)).number ≡ (step_of m (PowerOn (coded_of r))).number
        numbers = ap (λ (o : Outcome). o.number) (same_step m r out)

        back : ((step_of m (PowerOn (coded_of r))).number ≢ 0) ⊎ TooLarge r → (step_of m (PowerOnResistors r)).number ≢ 0
        back (inl n) z = n (sym numbers ∙ z)
        back (inr l) z = out l

pub acts-as-codes : ActsAsCodes step_of
acts-as-codes = record { same = same_step; large = large-step; refused = refused_as }

pub first-acts-as-one : FirstActsAsOne step_of
unfolding step_of
first-acts-as-one m p = ap (turned_by m) (first-says-one p)

-- ---- what is held
profile-kept : (m : Model) (p : Profile) → HoldsProfile (closed_by m (opened_as p)).model p
unfolding finish_of settle_of settled_of forced_of start_state
profile-kept m p = refl

opened-holds : (m : Model) (p : Profile) → (turned_by m (Opens p)).number ≡ 0 → HoldsProfile (turned_by m (Opens p)).model p
unfolding turned_by change_of first_of moved_of
opened-holds Off p z = profile-kept Off p
opened-holds (On s) p z = by (state_ok s) z
  where
    by : (t : Bool) → (closed_by (On s) (pick t (opened_as p) (refused 5))).number ≡ 0 → HoldsProfile (closed_by (On s) (pick t (opened_as p) (refused 5))).model p
    by true z = profile-kept (On s) p
    by false z = absurd (omega (arith, z))

pub holds-what-is-said : HoldsWhatIsSaid step_of
unfolding step_of
holds-what-is-said m e p b z = by (begins-as-said.opens e p b)
  where
    by : (turn_of e ≡ Opens p) ⊎ (turn_of e ≡ OpensOutside) → HoldsProfile (turned_by m (turn_of e)).model p
    by (inl o) = rw o (opened-holds m p (rw o at z))
    by (inr o) = absurd (let five = ap (λ (t : Turn). (turned_by m t).number) o ∙ ap (λ (x : Outcome). x.number) (outside-step m) in omega (arith, five, z))
