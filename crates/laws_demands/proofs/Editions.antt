-- Two logs that differ in the edition alone print the same lines until the hold keeps what the first edition would leave.
use Prim.Native.Nat.{ℕ, suc, ◌<◌}
use mathlib.Core.Path.{◌≡◌, refl, sym, ap, subst, ◌∙◌}
use mathlib.Core.Logic.{◌⊎◌, inl, inr}
use mathlib.Core.List.{List, [], ◌∷◌, ◌++◌}
use native.Mathlib.Omega.{arith}
use native.Mathlib.Decide.{dec_lt}
use lib.ListN.{length, take}
use Rattle.base.specs.Pick.{bit_of}
use Rattle.base.specs.Volts.{millivolts_of}
use Rattle.log_event.specs.declared.Event.{Event}
use Rattle.state_parts.specs.Numbers.{phase_number}
use Rattle.state_parts.specs.declared.state.State.{State}
use Rattle.state_parts.specs.declared.state.Model.{Model}
use Rattle.state_parts.specs.declared.state.Model.TheVariants.{Off, On}
use Rattle.state_valid.proofs.Bounds.{profile-bounds}
use Rattle.settle_bands.specs.Effect.{share_of, cut_of}
use Rattle.settle_bands.specs.Holding.{fresh_bands}
use Rattle.settle_levels.specs.Clamps.{pack_clamp_of, base_of}
use Rattle.settle_levels.specs.Voltage.{charge_voltage_of}
use Rattle.report_state.specs.Report.{charge_clamp_of, fast_current, input_limit_of, report_of}
use Rattle.step_kinds.specs.Answers.{Outcome}
use Rattle.step_event.specs.Steps.{step_of}
use Rattle.laws_step.specs.Editions.{in_edition, model_in, JudgedAfresh, AlikeButEdition}
use Rattle.laws_step.proofs.Editions.{editions-act-alike, editions-open-alike}
use Rattle.laws_step.specs.Powered.{FirstActsAsOne}
use Rattle.laws_step.proofs.Powered.{first-acts-as-one}
use Rattle.laws_account.specs.History.{Run, powered, ◌▸◌}
use Rattle.laws_account.specs.Held.{profile_of}
use Rattle.laws_account.specs.Bands.{first_ts, second_ts, bands_at}
use Rattle.laws_account.specs.Refused.{Accepted, Past, none, some, next_of}
use Rattle.laws_account.specs.States.{state_by, state_of, model_of}
use Rattle.laws_account.specs.Runs.{Lawful}
use Rattle.laws_account.proofs.Banding.{fresh-is}
use Rattle.laws_account.proofs.Agreeing.{keeps-lawful, next-model}
use Rattle.laws_third.proofs.Editions.{afresh}
use Rattle.laws_demands.specs.Printed.{report_in, flags_in, kind_number, line_by, lines_by}
use Rattle.laws_demands.specs.Editions.{EveryProductActsAsOne, opening, NothingKept, KeepsNothing, EditionsPrintAlike}
use Rattle.laws_demands.proofs.Thermistors.{of-ours}

pub every-product-acts-as-one : EveryProductActsAsOne
every-product-acts-as-one = of-ours FirstActsAsOne first-acts-as-one

-- ---- a moment at which nothing is kept
fresh-at : (h : Past) → NothingKept h → JudgedAfresh (model_of h)
unfolding state_by bands_at fresh_bands
fresh-at none kept = tt
fresh-at (some r) kept =
    λ i. record { first = (afresh first_ts r (kept first_ts) ∙ sym (fresh-is first_ts r)) i; second = (afresh second_ts r (kept second_ts) ∙ sym (fresh-is second_ts r)) i }

-- ---- what is shown doesn't go by the edition
report-alike : (n : ℕ) (s : State) → report_of (in_edition n s) ≡ report_of s
unfolding report_of fast_current charge_clamp_of input_limit_of charge_voltage_of cut_of share_of base_of pack_clamp_of
report-alike n s = refl

shown-alike : (m : Model) → report_in report_of (model_in 1 m) ≡ report_in report_of m
shown-alike Off = refl
shown-alike (On s) = report-alike 1 s

flags-alike : (m : Model) → flags_in (model_in 1 m) ≡ flags_in m
flags-alike Off = refl
flags-alike (On s) = refl

-- a model of the same in the first edition, or the same
abbrev Alike : Model → Model → Type 0
Alike first second = (first ≡ model_in 1 second) ⊎ (first ≡ second)

report-of : (a b : Model) → Alike a b → report_in report_of a ≡ report_in report_of b
report-of a b (inl e) = ap (report_in report_of) e ∙ shown-alike b
report-of a b (inr e) = ap (report_in report_of) e

flags_of : (a b : Model) → Alike a b → flags_in a ≡ flags_in b
flags_of a b (inl e) = ap flags_in e ∙ flags-alike b
flags_of a b (inr e) = ap flags_in e

line-alike : (number : ℕ) (e f : Event) (a b : Outcome) → kind_number e ≡ kind_number f → AlikeButEdition a b → line_by report_of number e a ≡ line_by report_of number f b
unfolding line_by
line-alike number e f a b kinds k =
    let shown = report-of a.model b.model k.model in
    λ i. record {
      number = number;
      kind = kinds i;
      answer = k.number i;
      phase = phase_number (shown i).phase;
      current = (shown i).current;
      voltage = millivolts_of (shown i).voltage;
      limit = (shown i).limit;
      pulse = bit_of (k.pulse i);
      flags = flags_of a.model b.model k.model i;
    }

-- ---- one event more
one-or-two : (r : Run) → Accepted r → ((profile_of r).edition ≡ 1) ⊎ ((profile_of r).edition ≡ 2)
unfolding profile_of
one-or-two (powered p) a = by (dec_lt 1 p.edition)
  where
    by : Dec (1 < p.edition) → (p.edition ≡ 1) ⊎ (p.edition ≡ 2)
    by (yes l) = inr (omega (arith, (profile-bounds p a).edition))
    by (no l) = inl (omega (arith, (profile-bounds p a).edition_least))
one-or-two (r ▸ e) a = one-or-two r a.0

-- in the first edition it is the model of the first
already-first : (s : State) → s.profile.edition ≡ 1 → On (in_edition 1 s) ≡ On s
already-first s one = ap (λ n. On (in_edition n s)) (sym one)

same_outcome : (a b : Model) (e : Event) → a ≡ b → AlikeButEdition (step_of a e) (step_of b e)
same_outcome a b e same = subst (λ (m : Model). AlikeButEdition (step_of m e) (step_of b e)) (sym same) (record { number = refl; place = refl; pulse = refl; handed = refl; model = inr refl })

event-alike : (h : Past) → Lawful h → (a : Model) → Alike a (model_of h) → (e : Event) → NothingKept (next_of h e) → AlikeButEdition (step_of a e) (step_of (model_of h) e)
unfolding state_by
event-alike h l a (inr same) e kept = same_outcome a (model_of h) e same
event-alike none l a (inl same) e kept = same_outcome a Off e same
event-alike (some r) l a (inl same) e kept = by (one-or-two r l)
  where
    by : ((profile_of r).edition ≡ 1) ⊎ ((profile_of r).edition ≡ 2) → AlikeButEdition (step_of a e) (step_of (On (state_of r)) e)
    by (inl one) = same_outcome a (On (state_of r)) e (same ∙ already-first (state_of r) one)
    by (inr two) =
        subst (λ (m : Model). AlikeButEdition (step_of m e) (step_of (On (state_of r)) e)) (sym same)
        (editions-act-alike (state_of r) e two (subst JudgedAfresh (sym (next-model (some r) l e)) (fresh-at (next_of (some r) e) kept)))

-- and so on
lines-alike : (es more : List Event) (number : ℕ) (h : Past) → Lawful h → (a : Model) → Alike a (model_of h) → KeepsNothing h es
    → take (length es) (lines_by step_of report_of a number (es ++ more)) ≡ take (length es) (lines_by step_of report_of (model_of h) number (es ++ more))
unfolding lines_by
lines-alike [] more number h l a k kept = refl
lines-alike (e ∷ es) more number h l a k kept =
    let now = event-alike h l a k e kept.0 in
    let next = next-model h l e in
    let after : Alike (step_of a e).model (model_of (next_of h e)) = subst (Alike (step_of a e).model) next now.model in
    let later = lines-alike es more (suc number) (next_of h e) (keeps-lawful h l e) (step_of a e).model after kept.1 in
    let same = later ∙ ap (λ (m : Model). take (length es) (lines_by step_of report_of m (suc number) (es ++ more))) (sym next) in
    λ i. line-alike (suc number) e e (step_of a e) (step_of (model_of h) e) refl now i ∷ same i

pub editions-print-alike : EditionsPrintAlike
unfolding lines_by
editions-print-alike p es more kept =
    let two = opening p 2 in
    let next = next-model none tt two in
    let now = editions-open-alike Off p (subst JudgedAfresh (sym next) (fresh-at (next_of none two) kept.0)) in
    let after : Alike (step_of Off (opening p 1)).model (model_of (next_of none two)) = subst (Alike (step_of Off (opening p 1)).model) next now.model in
    let later = lines-alike es more 1 (next_of none two) (keeps-lawful none tt two) (step_of Off (opening p 1)).model after kept.1 in
    let same = later ∙ ap (λ (m : Model). take (length es) (lines_by step_of report_of m 1 (es ++ more))) (sym next) in
    λ i. line-alike 1 (opening p 1) two (step_of Off (opening p 1)) (step_of Off two) refl now i ∷ same i
