-- The tests of ranges, and the statements that they stand for, each way.
use Prim.Native.Nat.{ℕ, ◌%◌, ◌≤◌, ◌<◌}
use mathlib.Core.Path.{◌≡◌, refl, sym, subst, ◌∙◌}
use mathlib.Core.Bool.{Bool, true, false, not, ◌&&◌, true≢false}
use mathlib.Core.Logic.{◌↔◌, ◌⊎◌, inl, inr}
use native.Mathlib.Omega.{arith}
use native.Mathlib.Decide.{dec_lt}
use lib.Dec.{T, leb, eqb}
use lib.IntN.{ℤ}
use lib.Signed.{le_z, ◌≤ℤ◌}
use borrow.Author.Tests.{le-leb, eqb-true, eq-eqb, lt-leb, leb-false, not-true}
use Rattle.base.proofs.Tests.{and-iff, leb-iff}
use Rattle.state_table.specs.Rows.{digit_of, fsw, frequency_ok}
use Rattle.log_event.specs.declared.spelled.SpelledEdition.{SpelledEdition}
use Rattle.log_event.specs.declared.spelled.SpelledProfile.{SpelledProfile}
use Rattle.log_event.specs.declared.spelled.SpelledResistors.{SpelledResistors}
use Rattle.log_event.specs.declared.spelled.SpelledSample.{SpelledSample}
use Rattle.log_event.specs.declared.spelled.SpelledTwo.{SpelledTwo}
use Rattle.state_parts.specs.declared.profile.Profile.{Profile}
use Rattle.state_settings.specs.Ranges.{last_setting, range_of, known_setting, may_hold}
use Rattle.step_pins.proofs.Pins.{pin-table}
use Rattle.step_turns.specs.Ranges.{profile_in_range, edition_in_range, sample_in_range, two_in_range, resistors_in_range}
use Rattle.step_turns.specs.Coded.{coded_of}
use Rattle.step_turns.specs.Turns.{first_edition}
use Rattle.laws_step.specs.Ranged.{Among, ValueIn}
use Rattle.laws_step.specs.Rows.{ProfileIn, ResistorsIn, EditionIn, SampleIn, TwoIn}

-- a test that fails, and the statement that it stands for
pub outside : {P : Type 0} (t : Bool) → (t ≡ true) ↔ P → t ≡ false → ¬ P
outside t h e holds = true≢false (sym (h.1 holds) ∙ e)

pub refuted : {P : Type 0} (t : Bool) → (t ≡ true) ↔ P → not t ≡ true → ¬ P
refuted t h e = outside t h (not-true t e)

pub failed : {P : Type 0} (t : Bool) → (t ≡ true) ↔ P → ¬ P → t ≡ false
failed true h n = absurd (n (h.0 refl))
failed false h n = refl

pub among : (n low high : ℕ) → ((leb low n && leb n high) ≡ true) ↔ Among n low high
among n low high =
    (λ e. let k = simp (and-iff, leb-iff) at e in (omega arith, omega arith), λ k. simp (le-leb low n k.0, le-leb n high k.1))

le_z-iff : (a b : ℤ) → ((le_z a b ≡ true) → a ≤ℤ b) × (a ≤ℤ b → le_z a b ≡ true)
le_z-iff a b = (λ e. record { le = subst T (sym e) tt }, λ k. yes_of (le_z a b) k.le)
  where
    yes_of : (t : Bool) → T t → t ≡ true
    yes_of true h = refl
    yes_of false h = absurd h

pub profile-in : (p : SpelledProfile) → (profile_in_range p ≡ true) ↔ ProfileIn p
unfolding profile_in_range
profile-in p = (
  λ e.
      let k = simp (and-iff, leb-iff) at e in
      record {
        cell = omega arith;
        vchg = omega arith;
        ichg = omega arith;
        ohms = omega arith;
        ceiling = (omega arith, omega arith);
        trickle = omega arith;
        precharge = omega arith;
        fast = omega arith;
        watchdog = omega arith;
      },
  λ k.
      simp (and-iff, leb-iff) (((((((((k.cell, k.vchg), k.ichg), k.ohms), k.ceiling.0), k.ceiling.1), k.trickle), k.precharge), k.fast), k.watchdog),
)

-- an edition is the first or the second
one-or-two : (n : ℕ) → ((leb 1 n && leb n 2) ≡ true) ↔ ((n ≡ 1) ⊎ (n ≡ 2))
one-or-two n = (λ e. let k = simp (and-iff, leb-iff) at e in by (dec_lt 1 n) (omega arith) (omega arith), back)
  where
    by : Dec (1 < n) → 1 ≤ n → n ≤ 2 → (n ≡ 1) ⊎ (n ≡ 2)
    by (yes l) low high = inr (omega arith)
    by (no l) low high = inl (omega arith)

    back : (n ≡ 1) ⊎ (n ≡ 2) → (leb 1 n && leb n 2) ≡ true
    back (inl e) = rw e
    back (inr e) = rw e

regrouped : (a b c : Bool) → ((a && b) && c) ≡ (a && (b && c))
regrouped true b c = refl
regrouped false b c = refl

pub edition-in : (v : SpelledEdition) → (edition_in_range v.profile v.edition ≡ true) ↔ EditionIn v
unfolding edition_in_range
edition-in v =
    let p = profile_in_range v.profile in
    let t = leb 1 v.edition && leb v.edition 2 in
    let apart = regrouped p (leb 1 v.edition) (leb v.edition 2) in (
      λ e.
          let k = (and-iff p t).0 (sym apart ∙ e) in
          record { profile = (profile-in v.profile).0 k.0; edition = (one-or-two v.edition).0 k.1 },
      λ k. apart ∙ (and-iff p t).1 ((profile-in v.profile).1 k.profile, (one-or-two v.edition).1 k.edition),
    )

-- 02, R-8: "Kinds 1 and 9 mean the first": its ranges are those of the profile
pub first-in : (p : SpelledProfile) → (edition_in_range p first_edition ≡ true) ↔ ProfileIn p
first-in p =
    let v : SpelledEdition = record { profile = p; edition = first_edition } in
    (λ e. ((edition-in v).0 e).profile, λ k. (edition-in v).1 (record { profile = k; edition = inl refl }))

-- a resistor's code is one of 0 to 7, so kind 1's ranges leave the numbers from the ILIM ohms on
pub resistors-in : (r : SpelledResistors) → ((resistors_in_range r && edition_in_range (coded_of r) first_edition) ≡ true) ↔ ResistorsIn r
unfolding resistors_in_range
resistors-in r = (
  λ e.
      let k = simp (and-iff, leb-iff) at ((and-iff (resistors_in_range r) (edition_in_range (coded_of r) first_edition)).0 e).0 in
      let p = (first-in (coded_of r)).0 ((and-iff (resistors_in_range r) (edition_in_range (coded_of r) first_edition)).0 e).1 in
      record {
        cell = omega arith;
        vchg = omega arith;
        ichg = omega arith;
        ohms = p.ohms;
        ceiling = p.ceiling;
        trickle = p.trickle;
        precharge = p.precharge;
        fast = p.fast;
        watchdog = p.watchdog;
      },
  λ k.
      let p : ProfileIn (coded_of r) =
      record {
        cell = pin-table.most r.cell;
        vchg = pin-table.most r.vchg;
        ichg = pin-table.most r.ichg;
        ohms = k.ohms;
        ceiling = k.ceiling;
        trickle = k.trickle;
        precharge = k.precharge;
        fast = k.fast;
        watchdog = k.watchdog;
      } in
      (and-iff (resistors_in_range r) (edition_in_range (coded_of r) first_edition)).1 (simp (and-iff, leb-iff) ((k.cell, k.vchg), k.ichg), (first-in (coded_of r)).1 p),
)

pub sample_in : (x : SpelledSample) → (sample_in_range x ≡ true) ↔ SampleIn x
unfolding sample_in_range
sample_in x = (
  λ e.
      let k = simp (and-iff, leb-iff, le_z-iff) at e in
      record { input = k.0.0.0.0.0; pack = k.0.0.0.0.1; ibat = (k.0.0.0.1, k.0.0.1); ts = k.0.1; bits = k.1 },
  λ k.
      simp (and-iff, leb-iff, le_z-iff) (((((k.input, k.pack), k.ibat.0), k.ibat.1), k.ts), k.bits),
)

pub two_in : (t : SpelledTwo) → (two_in_range t.sample t.second ≡ true) ↔ TwoIn t
unfolding two_in_range
two_in t = (
  λ e.
      let k = (and-iff (sample_in_range t.sample) (leb t.second 100000)).0 e in
      record { sample = (sample_in t.sample).0 k.0; second = (leb-iff t.second 100000).0 k.1 },
  λ k. (and-iff (sample_in_range t.sample) (leb t.second 100000)).1 ((sample_in t.sample).1 k.sample, (leb-iff t.second 100000).1 k.second),
)

-- of two equal values the second asks nothing more
pub twice_in : (x : SpelledSample) → (two_in_range x x.ts ≡ true) ↔ SampleIn x
twice_in x =
    let twice : SpelledTwo = record { sample = x; second = x.ts } in
    (λ e. ((two_in twice).0 e).sample, λ k. (two_in twice).1 (record { sample = k; second = k.ts }))

pub value-in : (p : Profile) (number value : ℕ) → Among number 1 last_setting → (may_hold p number value ≡ true) ↔ ValueIn p number value
unfolding may_hold
value-in p number value known =
    let r = range_of p number in (
      λ e.
          let k = ((and-iff (known_setting p number) ((leb r.low value && leb value r.high) && eqb (value % r.step) 0)).0 e).1 in
          let l = (and-iff (leb r.low value && leb value r.high) (eqb (value % r.step) 0)).0 k in
          record { range = (among value r.low r.high).0 l.0; step = eqb-true (value % r.step) 0 l.1 },
      λ k.
          simp ((among number 1 last_setting).1 known, (among value r.low r.high).1 k.range, eq-eqb (value % r.step) 0 k.step),
    )

-- "written 0 or 7"
pub bad-frequency-is : (p : Profile) (byte : ℕ) → (not (frequency_ok p (digit_of fsw byte)) ≡ true) ↔ ((digit_of fsw byte ≡ 0) ⊎ (digit_of fsw byte ≡ 7))
bad-frequency-is p byte = (λ e. by (leb 1 (digit_of fsw byte)) refl (not-true (frequency_ok p (digit_of fsw byte)) e), λ k. back k)
  where
    by : (t : Bool) → leb 1 (digit_of fsw byte) ≡ t → (t && leb (digit_of fsw byte) 6) ≡ false → (digit_of fsw byte ≡ 0) ⊎ (digit_of fsw byte ≡ 7)
    by true e f = inr (omega (arith, leb-false (digit_of fsw byte) 6 f))
    by false e f = inl (omega (arith, leb-false 1 (digit_of fsw byte) e))

    back : (digit_of fsw byte ≡ 0) ⊎ (digit_of fsw byte ≡ 7) → not (frequency_ok p (digit_of fsw byte)) ≡ true
    back (inl z) = simp (lt-leb 1 (digit_of fsw byte) (omega (arith, z)))
    back (inr z) = simp (le-leb 1 (digit_of fsw byte) (omega (arith, z)), lt-leb (digit_of fsw byte) 6 (omega (arith, z)))
