-- A band is held as the request says, and whatever does so is this rule.
use Prim.Native.Nat.{ℕ}
use mathlib.Core.Path.{◌≡◌, refl, sym, ap, ◌∙◌}
use mathlib.Core.Bool.{Bool, true, false, not, ◌&&◌, ◌||◌, true≢false, false≢true}
use mathlib.Core.Logic.{◌⊎◌, ◌≢◌, inl, inr, ⊎_elim}
use lib.Dec.{eqb}
use borrow.Author.Tests.{le-leb, leb-true, eqb-true, ne_eqb}
use Rattle.base.specs.Pick.{pick}
use Rattle.state_parts.specs.declared.band.Bands.{Bands}
use Rattle.state_parts.specs.declared.band.TsBand.{TsBand}
use Rattle.state_parts.specs.declared.band.TsBand.TheVariants.{Normal, Cold, Cool, Warm, Hot}
use Rattle.state_parts.specs.declared.profile.Profile.{Profile}
use Rattle.state_parts.specs.declared.registers.Registers.{Registers}
use Rattle.state_parts.specs.declared.sample.Sample.{Sample}
use Rattle.settle_bands.specs.Thresholds.{ts_off, jeita_on, band_by, marks_of, band_of}
use Rattle.settle_bands.specs.Holding.{holds_bands, back_by, ended_by, at_once, stays_by, next_by, next_of, bands_of, fresh_bands, held_bands}
use Rattle.settle_bands.specs.Held.{Back, Ended, Next, Holds, HoldsAsSaid, ByEdition, HeldOnce}
use Rattle.settle_bands.specs.declared.thresholds.Marks.{Marks}

-- ---- what each test means
module _ (p : Profile) (g : Registers) where
  back-tests : (held : TsBand) (ts : ℕ) → Back p g held ts → back_by (marks_of p g) held ts ≡ true
  unfolding marks_of
  back-tests Normal ts h = refl
  back-tests Cold ts h = le-leb _ _ h
  back-tests Hot ts h = le-leb _ _ h
  back-tests Cool ts h = le-leb _ _ h
  back-tests Warm ts h = le-leb _ _ h

  back-means : (held : TsBand) (ts : ℕ) → back_by (marks_of p g) held ts ≡ true → Back p g held ts
  unfolding marks_of
  back-means Normal ts t = tt
  back-means Cold ts t = leb-true _ _ t
  back-means Hot ts t = leb-true _ _ t
  back-means Cool ts t = leb-true _ _ t
  back-means Warm ts t = leb-true _ _ t

  either-ends : (off jeita : Bool) → (off ≡ true) ⊎ (jeita ≡ false) → (off || not jeita) ≡ true
  either-ends off jeita (inl t) = rw t
  either-ends true jeita (inr f) = refl
  either-ends false jeita (inr f) = rw f

  always : (off : Bool) → (off || true) ≡ true
  always true = refl
  always false = refl

  ended-tests : (held : TsBand) → Ended g held → ended_by (marks_of p g) held ≡ true
  unfolding marks_of
  ended-tests Cold h = rw h
  ended-tests Hot h = rw h
  ended-tests Cool h = either-ends (ts_off g) (jeita_on g) h
  ended-tests Warm h = either-ends (ts_off g) (jeita_on g) h
  ended-tests Normal h = simp always

  by-cool : (off jeita : Bool) → (off || not jeita) ≡ true → (off ≡ true) ⊎ (jeita ≡ false)
  by-cool true jeita t = inl refl
  by-cool false false t = inr refl
  by-cool false true t = absurd (false≢true t)

  by-cold : (off : Bool) → (off || false) ≡ true → off ≡ true
  by-cold true t = refl
  by-cold false t = absurd (false≢true t)

  ended-means : (held : TsBand) → ended_by (marks_of p g) held ≡ true → Ended g held
  unfolding marks_of
  ended-means Normal t = tt
  ended-means Cold t = by-cold (ts_off g) t
  ended-means Hot t = by-cold (ts_off g) t
  ended-means Cool t = by-cool (ts_off g) (jeita_on g) t
  ended-means Warm t = by-cool (ts_off g) (jeita_on g) t

once-means : (fresh : TsBand) → at_once fresh ≡ true → (fresh ≡ Cold) ⊎ (fresh ≡ Hot)
once-means Normal t = absurd (false≢true t)
once-means Cold t = inl refl
once-means Cool t = absurd (false≢true t)
once-means Warm t = absurd (false≢true t)
once-means Hot t = inr refl

once-tests : (fresh : TsBand) → (fresh ≡ Cold) ⊎ (fresh ≡ Hot) → at_once fresh ≡ true
once-tests fresh (inl e) = ap at_once e
once-tests fresh (inr e) = ap at_once e

fails : {A : Type 0} (t : Bool) → (t ≡ true → A) → (A → ⊥) → t ≡ false
fails true fact deny = absurd (deny (fact refl))
fails false fact deny = refl

denied : {A : Type 0} (t : Bool) → t ≡ false → (A → t ≡ true) → A → ⊥
denied t f test a = true≢false (sym (test a) ∙ f)

-- ---- the rule by its tests
module _ (p : Profile) (g : Registers) (held : TsBand) (ts : ℕ) where
  abbrev chosen : Bool → Bool → Bool → Bool → TsBand
  chosen holds once ended back = pick (holds && (not once && not ended && not back)) held (band_of p g ts)

  next-by : next_of p g held ts ≡ chosen (holds_bands p) (at_once (band_of p g ts)) (ended_by (marks_of p g) held) (back_by (marks_of p g) held ts)
  unfolding next_of next_by stays_by band_of
  next-by = refl

  unheld : (once ended back : Bool) → chosen false once ended back ≡ band_of p g ts
  unheld once ended back = refl

  at-once : (holds ended back : Bool) → chosen holds true ended back ≡ band_of p g ts
  at-once true ended back = refl
  at-once false ended back = refl

  by-ended : (holds once back : Bool) → chosen holds once true back ≡ band_of p g ts
  by-ended true true back = refl
  by-ended true false back = refl
  by-ended false once back = refl

  by-back : (holds once ended : Bool) → chosen holds once ended true ≡ band_of p g ts
  by-back true true ended = refl
  by-back true false true = refl
  by-back true false false = refl
  by-back false once ended = refl

  first-is : p.edition ≢ 2 → next_of p g held ts ≡ band_of p g ts
  first-is n = next-by ∙ rw (ne_eqb p.edition 2 n)

  once_is : (band_of p g ts ≡ Cold) ⊎ (band_of p g ts ≡ Hot) → next_of p g held ts ≡ band_of p g ts
  once_is h = next-by ∙ rw (once-tests (band_of p g ts) h) (at-once (holds_bands p) (ended_by (marks_of p g) held) (back_by (marks_of p g) held ts))

  stays-is : p.edition ≡ 2 → band_of p g ts ≢ Cold → band_of p g ts ≢ Hot → (Ended g held → ⊥) → (Back p g held ts → ⊥) → next_of p g held ts ≡ held
  stays-is two cold hot on near =
      next-by ∙ rw (ap (λ n. eqb n 2) two, fails (at_once (band_of p g ts)) (once-means (band_of p g ts)) (λ h. ⊎_elim cold hot h), fails (ended_by (marks_of p g) held) (ended-means p g held) on, fails (back_by (marks_of p g) held ts) (back-means p g held ts) near)

  left_is : Back p g held ts → next_of p g held ts ≡ band_of p g ts
  left_is h = next-by ∙ rw (back-tests p g held ts h) (by-back (holds_bands p) (at_once (band_of p g ts)) (ended_by (marks_of p g) held))

  ended_is : Ended g held → next_of p g held ts ≡ band_of p g ts
  ended_is h = next-by ∙ rw (ended-tests p g held h) (by-ended (holds_bands p) (at_once (band_of p g ts)) (back_by (marks_of p g) held ts))

our-holds : Holds next_of
our-holds = record { first = first-is; once = once_is; stays = stays-is; left = left_is; ended = ended_is }

-- two rules that meet the parts are one
module _ (next other : Next) (k : Holds next) (l : Holds other) (p : Profile) (g : Registers) (held : TsBand) (ts : ℕ) where
  split : (h o e b : Bool) → eqb p.edition 2 ≡ h → at_once (band_of p g ts) ≡ o → ended_by (marks_of p g) held ≡ e → back_by (marks_of p g) held ts ≡ b
      → next p g held ts ≡ other p g held ts
  split false o e b eh eo ee eb =
      let n : p.edition ≢ 2 = denied (eqb p.edition 2) eh (λ two. ap (λ m. eqb m 2) two) in
      k.first p g held ts n ∙ sym (l.first p g held ts n)
  split true true e b eh eo ee eb =
      let h = once-means (band_of p g ts) eo in
      k.once p g held ts h ∙ sym (l.once p g held ts h)
  split true false true b eh eo ee eb =
      let h = ended-means p g held ee in
      k.ended p g held ts h ∙ sym (l.ended p g held ts h)
  split true false false true eh eo ee eb =
      let h = back-means p g held ts eb in
      k.left p g held ts h ∙ sym (l.left p g held ts h)
  split true false false false eh eo ee eb =
      let two = eqb-true p.edition 2 eh in
      let mild : (band_of p g ts ≡ Cold) ⊎ (band_of p g ts ≡ Hot) → ⊥ = denied (at_once (band_of p g ts)) eo (once-tests (band_of p g ts)) in
      let cold : band_of p g ts ≢ Cold = λ c. mild (inl c) in
      let hot : band_of p g ts ≢ Hot = λ c. mild (inr c) in
      let on : Ended g held → ⊥ = denied (ended_by (marks_of p g) held) ee (ended-tests p g held) in
      let near : Back p g held ts → ⊥ = denied (back_by (marks_of p g) held ts) eb (back-tests p g held ts) in
      k.stays p g held ts two cold hot on near ∙ sym (l.stays p g held ts two cold hot on near)

  same : next p g held ts ≡ other p g held ts
  same = split (eqb p.edition 2) (at_once (band_of p g ts)) (ended_by (marks_of p g) held) (back_by (marks_of p g) held ts) refl refl refl refl

pub holds-as-said : HoldsAsSaid
holds-as-said = record { ours = our-holds; only = λ next k. same next next_of k our-holds }

pub by-edition : ByEdition
unfolding bands_of next_of next_by held_bands fresh_bands band_of
by-edition = record { first = λ p g x held n. rw (ne_eqb p.edition 2 n); second = λ p g x held two. rw (ap (λ n. eqb n 2) two) }

-- ---- judged again
-- what is chosen once is chosen again, by whatever test of the band
again : (stays : TsBand → Bool) (held fresh : TsBand) (t : Bool) → stays held ≡ t → pick (stays (pick t held fresh)) (pick t held fresh) fresh ≡ pick t held fresh
again stays held fresh true e = rw e
again stays held fresh false e = same (stays fresh)
  where
    same : (t : Bool) → pick t fresh fresh ≡ fresh
    same true = refl
    same false = refl

next-again : (holds : Bool) (m : Marks) (held : TsBand) (ts : ℕ) → next_by holds m (next_by holds m held ts) ts ≡ next_by holds m held ts
unfolding next_by
next-again holds m held ts = again (λ (b : TsBand). holds && stays_by m b ts) held (band_by m ts) (holds && stays_by m held ts) refl

abbrev pair_by : Bool → Marks → Sample → Bands → Bands
pair_by holds m x held = record { first = next_by holds m held.first x.ts; second = next_by holds m held.second x.secondts }

pair-again : (holds : Bool) (m : Marks) (x : Sample) (held : Bands) → pair_by holds m x (pair_by holds m x held) ≡ pair_by holds m x held
pair-again holds m x held = λ i. record { first = next-again holds m held.first x.ts i; second = next-again holds m held.second x.secondts i }

pub held-once : HeldOnce
unfolding bands_of next_of held_bands fresh_bands
held-once = record {
  ours = λ p g x held. pair-again (holds_bands p) (marks_of p g) x held;
  first = λ p g x held. refl;
  second = λ p g x held. pair-again true (marks_of p g) x held;
}
