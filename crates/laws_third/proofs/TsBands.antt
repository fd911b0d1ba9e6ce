-- One band of each thermistor holds at each moment, the account's.
use Prim.Native.Nat.{ℕ, ◌+◌}
use mathlib.Core.Path.{◌≡◌, refl, sym, ap, ◌∙◌}
use mathlib.Core.Logic.{◌↔◌}
use mathlib.Core.List.{[], ◌∷◌}
use mathlib.Core.Bool.{Bool, true, false, false≢true}
use lib.ListN.{get_or}
use borrow.Author.Tests.{eqb-true, eq-eqb}
use Rattle.state_parts.specs.Numbers.{ts_band_number}
use Rattle.state_parts.specs.declared.band.TsBand.{TsBand}
use Rattle.state_parts.specs.declared.band.TsBand.TheVariants.{Normal, Cold, Cool, Warm, Hot}
use Rattle.state_table.specs.Rows.{en_ts, en_jeita}
use Rattle.settle_bands.specs.Joined.{is_band}
use Rattle.laws_account.specs.History.{Run}
use Rattle.laws_account.specs.Held.{field_at}
use Rattle.laws_account.specs.Bands.{Thermistor, judged, th1, th2, th3, th5, margin, ts_at, cold_at, hot_at, mild, cool_at, warm_at, ts_band_at}
use Rattle.laws_account.proofs.Banding.{told}
use Rattle.laws_third.specs.Banded.{Judged, InCold, InHot, Mild, InCool, InWarm, InTsBand, OneTsBand}
use Rattle.laws_third.proofs.Means.{Means, leb-means, ltb-means, eqb-means, and-means, not-means, re-means}
use Rattle.laws_third.proofs.Positions.{since-means}

-- a test that fails, and what it means
pub no : {b : Bool} {A : Type 0} → Means b A → b ≡ false → A → ⊥
no m e a = false≢true (sym e ∙ m.test a)

fails : {A : Type 0} (b : Bool) → Means b A → (A → ⊥) → b ≡ false
fails true m n = absurd (n (m.fact refl))
fails false m n = refl

pub falls : {b : Bool} {A : Type 0} → Means b A → (A → ⊥) → b ≡ false
falls {b} m n = fails b m n

pub judged-means : (m : Run) → Means (judged m) (Judged m)
judged-means m = not-means (eqb-means (field_at en_ts m) 0)

module _ (k : Thermistor) where
  cold-means : (m : Run) → Means (cold_at k m) (InCold k m)
  unfolding cold_at
  cold-means = since-means (λ m. and-means (judged-means m) (ltb-means (th1 m) (ts_at k m + margin m))) (λ m. and-means (judged-means m) (leb-means (th1 m) (ts_at k m)))

  hot-means : (m : Run) → Means (hot_at k m) (InHot k m)
  unfolding hot_at
  hot-means = since-means (λ m. and-means (judged-means m) (ltb-means (ts_at k m) (th5 m + margin m))) (λ m. and-means (judged-means m) (leb-means (ts_at k m) (th5 m)))

  mild-means : (m : Run) → Means (mild k m) (Mild k m)
  mild-means m =
      re-means (λ h. record { cold = h.0.0; hot = h.0.1; judged = h.1.0; jeita = h.1.1 }) (λ h. ((h.cold, h.hot), (h.judged, h.jeita)))
      (and-means (and-means (not-means (cold-means m)) (not-means (hot-means m))) (and-means (judged-means m) (eqb-means (field_at en_jeita m) 1)))

  cool-means : (m : Run) → Means (cool_at k m) (InCool k m)
  unfolding cool_at
  cool-means = since-means (λ m. and-means (mild-means m) (ltb-means (th2 m) (ts_at k m + margin m))) (λ m. and-means (mild-means m) (leb-means (th2 m) (ts_at k m)))

  warm-means : (m : Run) → Means (warm_at k m) (InWarm k m)
  unfolding warm_at
  warm-means = since-means (λ m. and-means (mild-means m) (ltb-means (ts_at k m) (th3 m + margin m))) (λ m. and-means (mild-means m) (leb-means (ts_at k m) (th3 m)))

-- a band by its number
abbrev numbered : ℕ → TsBand
numbered n = get_or (Normal ∷ Cold ∷ Hot ∷ Cool ∷ Warm ∷ []) n Normal

number-back : (b : TsBand) → numbered (ts_band_number b) ≡ b
number-back Normal = refl
number-back Cold = refl
number-back Hot = refl
number-back Cool = refl
number-back Warm = refl

pub named : (a b : TsBand) → is_band b a ≡ true → a ≡ b
named a b t = sym (number-back a) ∙ ap numbered (eqb-true (ts_band_number a) (ts_band_number b) t) ∙ number-back b

pub is-itself : (b : TsBand) → is_band b b ≡ true
is-itself b = eq-eqb (ts_band_number b) (ts_band_number b) refl

module _ (k : Thermistor) (m : Run) where
  abbrev found : TsBand
  found = ts_band_at k m

  -- what one of the four tests means says when the band is that one
  by-test : {A : Type 0} (test : Bool) (b : TsBand) → test ≡ is_band b found → Means test A → A ↔ (found ≡ b)
  by-test test b e f =
      (λ h. named found b (sym e ∙ f.test h), λ same. f.fact (e ∙ ap (is_band b) same ∙ is-itself b))

  -- a band that is none of the four is normal
  left : (b : TsBand) → is_band Cold b ≡ false → is_band Hot b ≡ false → is_band Cool b ≡ false → is_band Warm b ≡ false → b ≡ Normal
  left Normal c h l w = refl
  left Cold c h l w = absurd (false≢true (sym c))
  left Hot c h l w = absurd (false≢true (sym h))
  left Cool c h l w = absurd (false≢true (sym l))
  left Warm c h l w = absurd (false≢true (sym w))

  pub one_of : (b : TsBand) → InTsBand b k m ↔ (found ≡ b)
  one_of Cold = by-test (cold_at k m) Cold (told k m).is-cold (cold-means k m)
  one_of Hot = by-test (hot_at k m) Hot (told k m).is-hot (hot-means k m)
  one_of Cool = by-test (cool_at k m) Cool (told k m).is-cool (cool-means k m)
  one_of Warm = by-test (warm_at k m) Warm (told k m).is-warm (warm-means k m)
  one_of Normal =
      let t = told k m in (
        λ h.
            left found (sym t.is-cold ∙ falls (cold-means k m) h.0) (sym t.is-hot ∙ falls (hot-means k m) h.1) (sym t.is-cool ∙ falls (cool-means k m) h.2)
            (sym t.is-warm ∙ falls (warm-means k m) h.3),
        λ same. (
          no (cold-means k m) (t.is-cold ∙ ap (is_band Cold) same),
          no (hot-means k m) (t.is-hot ∙ ap (is_band Hot) same),
          no (cool-means k m) (t.is-cool ∙ ap (is_band Cool) same),
          no (warm-means k m) (t.is-warm ∙ ap (is_band Warm) same),
        ),
      )

  pub ts-band-holds : InTsBand found k m
  ts-band-holds = (one_of found).1 refl

  pub only-ts-band : (b : TsBand) → InTsBand b k m → found ≡ b
  only-ts-band b h = (one_of b).0 h

pub one-ts-band : OneTsBand
one-ts-band k m b = one_of k m b

pub is-means : (b : TsBand) (k : Thermistor) (m : Run) → Means (is_band b (ts_band_at k m)) (InTsBand b k m)
is-means b k m =
    re-means (λ e. (one-ts-band k m b).1 (sym (number-back (ts_band_at k m)) ∙ ap numbered e ∙ number-back b)) (λ h. ap ts_band_number ((one-ts-band k m b).0 h))
    (eqb-means (ts_band_number (ts_band_at k m)) (ts_band_number b))
