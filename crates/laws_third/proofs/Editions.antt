-- The second edition's bands are the first's exactly where the hold keeps nothing that the first would leave.
use Prim.Native.Nat.{ℕ, ◌+◌, ◌<◌}
use mathlib.Core.Path.{◌≡◌, refl, sym, ap, subst, ◌∙◌}
use mathlib.Core.Bool.{Bool, true, false, not, ◌&&◌, ◌||◌, false≢true, and-false}
use mathlib.Core.Logic.{◌≢◌}
use lib.Dec.{leb, eqb}
use borrow.Author.Tests.{leb-false, lt-leb, eqb-true, not-true}
use Rattle.base.specs.Pick.{pick}
use Rattle.base.proofs.Tests.{and-iff}
use Rattle.state_parts.specs.declared.band.TsBand.{TsBand}
use Rattle.state_parts.specs.declared.band.TsBand.TheVariants.{Normal, Cold, Cool, Warm, Hot}
use Rattle.state_table.specs.Rows.{en_ts, en_jeita}
use Rattle.settle_bands.specs.Joined.{is_band}
use Rattle.settle_bands.specs.Holding.{back_by, ended_by, at_once, stays_by, next_by}
use Rattle.step_turns.specs.declared.later.Later.{Later}
use Rattle.laws_account.specs.History.{Run, powered, ◌▸◌}
use Rattle.laws_account.specs.Held.{profile_of, field_at}
use Rattle.laws_account.specs.Bands.{Thermistor, first_ts, second_ts, jeita, th1, th2, th3, th5, fresh_at, ts_at, ts_band_at, join_table, band_at}
use Rattle.laws_account.proofs.Banding.{marks_at, fresh-by, first-is, held_next, start-now}
use Rattle.laws_third.specs.Banded.{Judged, Jeita}
use Rattle.laws_third.specs.Editions.{Near, Kept, KeptAt, BandsAgree}
use Rattle.laws_third.proofs.Means.{Means, eqb-means, and-means, re-means, false-means}
use Rattle.laws_third.proofs.TsBands.{judged-means, named, is-itself, ts-band-holds, only-ts-band, one-ts-band}

-- ---- what lets a band stay
apart-one : (off back : Bool) → (not (off || false) && not back) ≡ (not off && not back)
apart-one true back = refl
apart-one false back = refl

apart-two : (off j back : Bool) → (not (off || not j) && not back) ≡ (not off && (j && not back))
apart-two true j back = refl
apart-two false true back = refl
apart-two false false back = refl

-- not back is near
near-means : (a b : ℕ) → Means (not (leb a b)) (b < a)
near-means a b = re-means (leb-false a b) (λ l. lt-leb a b l) (false-means (leb a b))

module _ (k : Thermistor) (m : Run) where
  abbrev stays : TsBand → Bool
  stays held = not (ended_by (marks_at m) held) && not (back_by (marks_at m) held (ts_at k m))

  cold-near : (a b : ℕ) → Means (not (eqb (field_at en_ts m) 0 || false) && not (leb a b)) (Judged m × (b < a))
  cold-near a b = subst (λ t. Means t (Judged m × (b < a))) (sym (apart-one (eqb (field_at en_ts m) 0) (leb a b))) (and-means (judged-means m) (near-means a b))

  cool-near : (a b : ℕ) → Means (not (eqb (field_at en_ts m) 0 || not (jeita m)) && not (leb a b)) (Judged m × Jeita m × (b < a))
  cool-near a b =
      subst (λ t. Means t (Judged m × Jeita m × (b < a))) (sym (apart-two (eqb (field_at en_ts m) 0) (jeita m) (leb a b)))
      (re-means (λ h. (h.0, h.1.0, h.1.1)) (λ h. (h.0, (h.1, h.2))) (and-means (judged-means m) (and-means (eqb-means (field_at en_jeita m) 1) (near-means a b))))

  stays-means : (held : TsBand) → Means (stays held) (Near held k m)
  stays-means Normal = record { fact = λ t. false≢true (sym (and-false (not (ended_by (marks_at m) Normal))) ∙ t); test = λ h. absurd h }
  stays-means Cold = cold-near (ts_at k m + 1000) (th1 m)
  stays-means Hot = cold-near (th5 m + 1000) (ts_at k m)
  stays-means Cool = cool-near (ts_at k m + 1000) (th2 m)
  stays-means Warm = cool-near (th3 m + 1000) (ts_at k m)

once_is : (b : TsBand) → (b ≢ Cold) → (b ≢ Hot) → at_once b ≡ false
once_is Normal c h = refl
once_is Cold c h = absurd (c refl)
once_is Cool c h = refl
once_is Warm c h = refl
once_is Hot c h = absurd (h refl)

-- ---- the next band, where it stays and where it doesn't
module _ (k : Thermistor) (r : Run) (e : Later) where
  abbrev m : Run
  m = r ▸ e

  abbrev fresh : TsBand
  fresh = fresh_at k (r ▸ e)

  abbrev held : TsBand
  held = ts_band_at k r

  next-by : eqb (profile_of r).edition 2 ≡ true → ts_band_at k (r ▸ e) ≡ pick (not (at_once fresh) && stays k (r ▸ e) held) held fresh
  unfolding next_by stays_by
  next-by two =
      held_next k r e two
      ∙ ap (λ (b : TsBand). pick (not (at_once b) && not (ended_by (marks_at m) held) && not (back_by (marks_at m) held (ts_at k m))) held b) (fresh-by k m)
      ∙ ap (λ t. pick t held fresh) (grouped (not (at_once fresh)) (not (ended_by (marks_at m) held)) (not (back_by (marks_at m) held (ts_at k m))))
    where
      grouped : (a b c : Bool) → ((a && b) && c) ≡ (a && (b && c))
      grouped true b c = refl
      grouped false b c = refl

  pub kept-is : (two : eqb (profile_of r).edition 2 ≡ true) → (not (at_once fresh) && stays k (r ▸ e) held) ≡ true → fresh ≢ held → Kept k r e
  kept-is two t other =
      let a = (and-iff (not (at_once fresh)) (stays k m held)).0 t in
      let mild = not-true (at_once fresh) a.0 in
      record {
        second = eqb-true (profile_of r).edition 2 two;
        band = held;
        before = ts-band-holds k r;
        near = (stays-means k m held).fact a.1;
        other = other;
        not_cold = λ c. false≢true (sym mild ∙ ap at_once c);
        not_hot = λ c. false≢true (sym mild ∙ ap at_once c);
      }

  agrees : (Kept k r e → ⊥) → ts_band_at k (r ▸ e) ≡ fresh
  unfolding profile_of
  agrees none = by (eqb (profile_of r).edition 2) refl
    where
      same : (t : Bool) → is_band held fresh ≡ t → (two : eqb (profile_of r).edition 2 ≡ true) → (not (at_once fresh) && stays k m held) ≡ true → held ≡ fresh
      same true h two stay = sym (named fresh held h)
      same false h two stay = absurd (none (kept-is two stay (λ alike. false≢true (sym h ∙ ap (is_band held) alike ∙ is-itself held))))

      choose : (t : Bool) → (not (at_once fresh) && stays k m held) ≡ t → (two : eqb (profile_of r).edition 2 ≡ true) → pick t held fresh ≡ fresh
      choose true h two = same (is_band held fresh) refl two h
      choose false h two = refl

      by : (t : Bool) → eqb (profile_of r).edition 2 ≡ t → ts_band_at k m ≡ fresh
      by true two = next-by two ∙ choose (not (at_once fresh) && stays k m held) refl two
      by false first = first-is k m first

  -- where it keeps, it is what was held
  stays_on : (q : Kept k r e) → ts_band_at k (r ▸ e) ≡ q.band
  stays_on q =
      let was : held ≡ q.band = only-ts-band k r q.band q.before in
      let two : eqb (profile_of r).edition 2 ≡ true = ap (λ n. eqb n 2) q.second in
      let stay : (not (at_once fresh) && stays k m held) ≡ true = rw (once_is fresh q.not_cold q.not_hot, was) ((stays-means k m q.band).test q.near) in
      next-by two ∙ ap (λ t. pick t held fresh) stay ∙ was

pub afresh : (k : Thermistor) (m : Run) → (KeptAt k m → ⊥) → ts_band_at k m ≡ fresh_at k m
afresh k (powered p) none = start-now k p
afresh k (r ▸ e) none = agrees k r e none

pub differs : (k : Thermistor) (m : Run) → KeptAt k m → ts_band_at k m ≢ fresh_at k m
differs k (powered p) q alike = absurd q
differs k (r ▸ e) q alike = q.other (sym alike ∙ stays_on k r e q)

none_first : (k : Thermistor) (m : Run) → (profile_of m).edition ≢ 2 → KeptAt k m → ⊥
unfolding profile_of
none_first k (powered p) n q = q
none_first k (r ▸ e) n q = n q.second

pub bands-agree : BandsAgree
unfolding band_at
bands-agree = record {
  agree = λ k m none b is. (one-ts-band k m b).1 (afresh k m none ∙ is);
  differ = λ k m q h. differs k m q (only-ts-band k m (fresh_at k m) h);
  pack = λ m a b i. join_table (afresh first_ts m a i) (afresh second_ts m b i);
  first = none_first;
  moment = λ k m n b.
      let same = afresh k m (none_first k m n) in
      (λ h. sym same ∙ only-ts-band k m b h, λ e. (one-ts-band k m b).1 (same ∙ e));
}
