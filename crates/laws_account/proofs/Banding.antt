-- Each thermistor's band after an event is the one that the model holds: entered or held by its thresholds, whichever edition.
use Prim.Native.Nat.{ℕ, ◌+◌, ◌≤◌, ◌<◌}
use native.Mathlib.Omega.{arith}
use mathlib.Core.Path.{◌≡◌, refl, sym, ap, subst, ◌∙◌}
use mathlib.Core.Bool.{Bool, true, false, not, ◌&&◌, ◌||◌, true≢false, false≢true, and-false}
use mathlib.Core.Logic.{◌⊎◌, inl, inr}
use lib.Dec.{leb, ltb, eqb}
use borrow.Author.Tests.{le-leb, le-ltb, lt-ltb, leb-true, leb-false, ltb-true, not-true}
use Rattle.base.specs.Pick.{pick}
use Rattle.base.proofs.Tests.{and-iff}
use Rattle.state_parts.specs.declared.band.TsBand.{TsBand}
use Rattle.state_parts.specs.declared.band.TsBand.TheVariants.{Normal, Cold, Cool, Warm, Hot}
use Rattle.state_parts.specs.declared.profile.Profile.{Profile}
use Rattle.settle_bands.specs.Thresholds.{th1_at, th2_at, th3_at, th5_at, first_band, band_by, marks_of, band_of}
use Rattle.settle_bands.specs.Joined.{is_band}
use Rattle.settle_bands.specs.Holding.{holds_bands, at_once, stays_by, next_by, next_of}
use Rattle.settle_bands.specs.declared.thresholds.Marks.{Marks}
use Rattle.settle_bands.proofs.Firsts.{cold-least, hot-most, cool-least, warm-most}
use Rattle.settle_bands.proofs.Held.{holds-as-said}
use Rattle.state_table.specs.Rows.{en_ts}
use Rattle.step_turns.specs.declared.later.Later.{Later}
use Rattle.laws_account.specs.History.{Run, powered, ◌▸◌, since}
use Rattle.laws_account.specs.Held.{profile_of, field_at}
use Rattle.laws_account.specs.Bands.{Thermistor, judged, jeita, th1, th2, th3, th5, fresh_at, margin, ts_at, cold_at, hot_at, mild, cool_at, warm_at, ts_band_at}
use Rattle.laws_account.specs.States.{registers_at}
use Rattle.laws_account.proofs.Fields as field

-- ---- what the registers of a run say of bands
abbrev pub marks_at : Run → Marks
marks_at m = record { off = eqb (field_at en_ts m) 0; jeita = jeita m; th1 = th1 m; th2 = th2 m; th3 = th3 m; th5 = th5 m }

marks-are : (m : Run) → marks_of (profile_of m) (registers_at m) ≡ marks_at m
unfolding marks_of
marks-are m =
    let p = profile_of m in
    λ i. record {
      off = eqb (field.en-ts m i) 0;
      jeita = eqb (field.en-jeita m i) 1;
      th1 = th1_at p (field.th1 m i);
      th2 = th2_at p (field.th2 m i);
      th3 = th3_at p (field.th3 m i);
      th5 = th5_at p (field.th5 m i);
    }

pub fresh-by : (k : Thermistor) (m : Run) → band_by (marks_at m) (ts_at k m) ≡ fresh_at k m
unfolding band_by fresh_at
fresh-by k m = refl

-- the first edition's judgement
pub fresh-is : (k : Thermistor) (m : Run) → band_of (profile_of m) (registers_at m) (ts_at k m) ≡ fresh_at k m
unfolding band_of
fresh-is k m = ap (λ (a : Marks). band_by a (ts_at k m)) (marks-are m) ∙ fresh-by k m

-- how near thresholds come to each other
pub th1-least : (m : Run) → 70900 ≤ th1 m
th1-least m = subst (λ c. 70900 ≤ th1_at (profile_of m) c) (field.th1 m) (cold-least (profile_of m) (registers_at m))

pub th5-most : (m : Run) → th5 m ≤ 41200
th5-most m = subst (λ c. th5_at (profile_of m) c ≤ 41200) (field.th5 m) (hot-most (profile_of m) (registers_at m))

pub th2-least : (m : Run) → 62250 ≤ th2 m
th2-least m = subst (λ c. 62250 ≤ th2_at (profile_of m) c) (field.th2 m) (cool-least (profile_of m) (registers_at m))

pub th3-most : (m : Run) → th3 m ≤ 48400
th3-most m = subst (λ c. th3_at (profile_of m) c ≤ 48400) (field.th3 m) (warm-most (profile_of m) (registers_at m))

margin-most : (m : Run) → margin m ≤ 1000
margin-most m = by (eqb (profile_of m).edition 2)
  where
    by : (t : Bool) → pick t 1000 0 ≤ 1000
    by true = omega arith
    by false = omega arith

-- ---- one at most holds
either-of : (a b : Bool) → (a || b) ≡ true → (a ≡ true) ⊎ (b ≡ true)
either-of true b e = inl refl
either-of false b e = inr e

-- what has held since is so at the last moment, as it was entered or as it was held
since-last : (p q : Run → Bool) (r : Run) → since p q r ≡ true → (q r ≡ true) ⊎ (p r ≡ true)
unfolding since
since-last p q (powered x) t = inl t
since-last p q (r ▸ e) t = by (either-of (q (r ▸ e)) (p (r ▸ e) && since p q r) t)
  where
    by : (q (r ▸ e) ≡ true) ⊎ ((p (r ▸ e) && since p q r) ≡ true) → (q (r ▸ e) ≡ true) ⊎ (p (r ▸ e) ≡ true)
    by (inl h) = inl h
    by (inr h) = inr ((and-iff (p (r ▸ e)) (since p q r)).0 h).0

module _ (k : Thermistor) (r : Run) where
  pub near-cold : cold_at k r ≡ true → th1 r < ts_at k r + 1001
  unfolding cold_at
  near-cold t = by (since-last _ _ r t)
    where
      by : ((judged r && leb (th1 r) (ts_at k r)) ≡ true) ⊎ ((judged r && ltb (th1 r) (ts_at k r + margin r)) ≡ true) → th1 r < ts_at k r + 1001
      by (inl h) = let l = leb-true (th1 r) (ts_at k r) ((and-iff (judged r) _).0 h).1 in omega (arith, l)
      by (inr h) = let l = ltb-true (th1 r) (ts_at k r + margin r) ((and-iff (judged r) _).0 h).1 in omega (arith, l, margin-most r)

  pub near-hot : hot_at k r ≡ true → ts_at k r < th5 r + 1001
  unfolding hot_at
  near-hot t = by (since-last _ _ r t)
    where
      by : ((judged r && leb (ts_at k r) (th5 r)) ≡ true) ⊎ ((judged r && ltb (ts_at k r) (th5 r + margin r)) ≡ true) → ts_at k r < th5 r + 1001
      by (inl h) = let l = leb-true (ts_at k r) (th5 r) ((and-iff (judged r) _).0 h).1 in omega (arith, l)
      by (inr h) = let l = ltb-true (ts_at k r) (th5 r + margin r) ((and-iff (judged r) _).0 h).1 in omega (arith, l, margin-most r)

  pub near-cool : cool_at k r ≡ true → (mild k r ≡ true) × (th2 r < ts_at k r + 1001)
  unfolding cool_at
  near-cool t = by (since-last _ _ r t)
    where
      by : ((mild k r && leb (th2 r) (ts_at k r)) ≡ true) ⊎ ((mild k r && ltb (th2 r) (ts_at k r + margin r)) ≡ true) → (mild k r ≡ true) × (th2 r < ts_at k r + 1001)
      by (inl h) = let a = (and-iff (mild k r) _).0 h in let l = leb-true (th2 r) (ts_at k r) a.1 in (a.0, omega (arith, l))
      by (inr h) = let a = (and-iff (mild k r) _).0 h in let l = ltb-true (th2 r) (ts_at k r + margin r) a.1 in (a.0, omega (arith, l, margin-most r))

  pub near-warm : warm_at k r ≡ true → (mild k r ≡ true) × (ts_at k r < th3 r + 1001)
  unfolding warm_at
  near-warm t = by (since-last _ _ r t)
    where
      by : ((mild k r && leb (ts_at k r) (th3 r)) ≡ true) ⊎ ((mild k r && ltb (ts_at k r) (th3 r + margin r)) ≡ true) → (mild k r ≡ true) × (ts_at k r < th3 r + 1001)
      by (inl h) = let a = (and-iff (mild k r) _).0 h in let l = leb-true (ts_at k r) (th3 r) a.1 in (a.0, omega (arith, l))
      by (inr h) = let a = (and-iff (mild k r) _).0 h in let l = ltb-true (ts_at k r) (th3 r + margin r) a.1 in (a.0, omega (arith, l, margin-most r))

  pub not-both : cold_at k r ≡ true → hot_at k r ≡ true → ⊥
  not-both c h = omega (arith, near-cold c, near-hot h, th1-least r, th5-most r)

  pub not-cool-warm : cool_at k r ≡ true → warm_at k r ≡ true → ⊥
  not-cool-warm c w = omega (arith, (near-cool c).1, (near-warm w).1, th2-least r, th3-most r)

  mild-parts : mild k r ≡ true → (cold_at k r ≡ false) × (hot_at k r ≡ false)
  mild-parts t =
      let a = (and-iff (not (cold_at k r) && not (hot_at k r)) (judged r && jeita r)).0 t in
      let b = (and-iff (not (cold_at k r)) (not (hot_at k r))).0 a.0 in
      (not-true (cold_at k r) b.0, not-true (hot_at k r) b.1)

  -- so each of the four is whether the band is that one
  pub record Told (cold hot cool warm : Bool) (b : TsBand) : Type 0 where
    pub is-cold : cold ≡ is_band Cold b
    pub is-hot : hot ≡ is_band Hot b
    pub is-cool : cool ≡ is_band Cool b
    pub is-warm : warm ≡ is_band Warm b

  told-by : (c h l w : Bool) → (c ≡ true → h ≡ true → ⊥) → (l ≡ true → (c ≡ false) × (h ≡ false)) → (w ≡ true → (c ≡ false) × (h ≡ false)) → (l ≡ true → w ≡ true → ⊥)
      → Told c h l w (pick c Cold (pick h Hot (pick l Cool (pick w Warm Normal))))
  told-by true true l w ch lx wx lw = absurd (ch refl refl)
  told-by true false true w ch lx wx lw = absurd (true≢false (lx refl).0)
  told-by true false false true ch lx wx lw = absurd (true≢false (wx refl).0)
  told-by true false false false ch lx wx lw = record { is-cold = refl; is-hot = refl; is-cool = refl; is-warm = refl }
  told-by false true true w ch lx wx lw = absurd (true≢false (lx refl).1)
  told-by false true false true ch lx wx lw = absurd (true≢false (wx refl).1)
  told-by false true false false ch lx wx lw = record { is-cold = refl; is-hot = refl; is-cool = refl; is-warm = refl }
  told-by false false true true ch lx wx lw = absurd (lw refl refl)
  told-by false false true false ch lx wx lw = record { is-cold = refl; is-hot = refl; is-cool = refl; is-warm = refl }
  told-by false false false true ch lx wx lw = record { is-cold = refl; is-hot = refl; is-cool = refl; is-warm = refl }
  told-by false false false false ch lx wx lw = record { is-cold = refl; is-hot = refl; is-cool = refl; is-warm = refl }

  pub told : Told (cold_at k r) (hot_at k r) (cool_at k r) (warm_at k r) (ts_band_at k r)
  unfolding ts_band_at
  told =
      told-by (cold_at k r) (hot_at k r) (cool_at k r) (warm_at k r) not-both (λ t. mild-parts (near-cool t).0) (λ t. mild-parts (near-warm t).0) not-cool-warm

-- ---- by the first edition
-- what lasts only where it would be entered again is what is entered now
since-now : (p q : Run → Bool) (r : Run) → (p r ≡ true → q r ≡ true) → since p q r ≡ q r
unfolding since
since-now p q (powered x) h = refl
since-now p q (r ▸ e) h = by (q (r ▸ e)) (p (r ▸ e)) h
  where
    by : (b a : Bool) → (a ≡ true → b ≡ true) → (b || a && since p q r) ≡ b
    by true a i = refl
    by false false i = refl
    by false true i = absurd (false≢true (i refl))

-- tests in their order, cool and warm apart from cold and hot
order : (off j c h l w : Bool)
    → let cold = not off && c in
    let hot = not off && h in
    let other = not cold && not hot && (not off && j) in
    pick cold Cold (pick hot Hot (pick (other && l) Cool (pick (other && w) Warm Normal))) ≡ first_band off c h (j && l) (j && w)
order true j c h l w = refl
order false j true h l w = refl
order false j false true l w = refl
order false true false false l w = refl
order false false false false l w = refl

entered : (a x y : Bool) → (x ≡ true → y ≡ true) → (a && x) ≡ true → (a && y) ≡ true
entered a x y h t = let b = (and-iff a x).0 t in (and-iff a y).1 (b.0, h b.1)

module _ (k : Thermistor) (r : Run) (none : margin r ≡ 0) where
  above : (a n : ℕ) → ltb a (n + margin r) ≡ true → leb a n ≡ true
  above a n t = let l = ltb-true a (n + margin r) t in le-leb a n (omega (arith, l, none))

  cold-now : cold_at k r ≡ (judged r && leb (th1 r) (ts_at k r))
  unfolding cold_at
  cold-now = since-now _ _ r (entered (judged r) _ _ (above (th1 r) (ts_at k r)))

  hot-now : hot_at k r ≡ (judged r && leb (ts_at k r) (th5 r))
  unfolding hot_at
  hot-now = since-now _ _ r (entered (judged r) _ _ (above (ts_at k r) (th5 r)))

  cool-now : cool_at k r ≡ (mild k r && leb (th2 r) (ts_at k r))
  unfolding cool_at
  cool-now = since-now _ _ r (entered (mild k r) _ _ (above (th2 r) (ts_at k r)))

  warm-now : warm_at k r ≡ (mild k r && leb (ts_at k r) (th3 r))
  unfolding warm_at
  warm-now = since-now _ _ r (entered (mild k r) _ _ (above (ts_at k r) (th3 r)))

  first-now : ts_band_at k r ≡ fresh_at k r
  unfolding ts_band_at fresh_at
  first-now =
      rw (cool-now, warm-now, cold-now, hot-now)
      (order (eqb (field_at en_ts r) 0) (jeita r) (leb (th1 r) (ts_at k r)) (leb (ts_at k r) (th5 r)) (leb (th2 r) (ts_at k r)) (leb (ts_at k r) (th3 r)))

-- ---- by the second edition
-- a band entered or held, in the first edition's order, each threshold as wide as what is held makes it
widened : (off j c h l w cs hs ls ws oc oh ol ow : Bool)
    → let cold = (not off && c) || (not off && cs) && oc in
    let hot = (not off && h) || (not off && hs) && oh in
    let other = not cold && not hot && (not off && j) in
    pick cold Cold (pick hot Hot (pick ((other && l) || (other && ls) && ol) Cool (pick ((other && w) || (other && ws) && ow) Warm Normal)))
    ≡ first_band off (c || cs && oc) (h || hs && oh) (j && (l || ls && ol)) (j && (w || ws && ow))
widened true j c h l w cs hs ls ws oc oh ol ow = refl
widened false j c h l w cs hs ls ws oc oh ol ow = by (c || cs && oc) (h || hs && oh) j
  where
    by : (cold hot j : Bool)
        → let other = not cold && not hot && j in
        pick cold Cold (pick hot Hot (pick ((other && l) || (other && ls) && ol) Cool (pick ((other && w) || (other && ws) && ow) Warm Normal)))
        ≡ pick cold Cold (pick hot Hot (pick (j && (l || ls && ol)) Cool (pick (j && (w || ws && ow)) Warm Normal)))
    by true hot j = refl
    by false true j = refl
    by false false true = refl
    by false false false = refl

-- what isn't held adds nothing, and what is held all of it
gone : (a b : Bool) → (a || b && false) ≡ a
gone true b = refl
gone false true = refl
gone false false = refl

kept : (a b : Bool) → (a || b && true) ≡ (a || b)
kept true b = refl
kept false true = refl
kept false false = refl

-- the rule by its tests: `back` is whether TS is back past the threshold of what is held
abbrev ruled : Bool → Bool → TsBand → Bool → TsBand → TsBand
ruled off ended held back fresh = pick (not (at_once fresh) && not (off || ended) && not back) held fresh

from-cold : (off c h x y back : Bool) → (back ≡ false → h ≡ true → ⊥) → first_band off (c || not back) h x y ≡ ruled off false Cold back (first_band off c h x y)
from-cold true c h x y back n = refl
from-cold false true h x y back n = refl
from-cold false false true x y true n = refl
from-cold false false true x y false n = absurd (n refl refl)
from-cold false false false true y true n = refl
from-cold false false false true y false n = refl
from-cold false false false false true true n = refl
from-cold false false false false true false n = refl
from-cold false false false false false true n = refl
from-cold false false false false false false n = refl

from-hot : (off c h x y back : Bool) → first_band off c (h || not back) x y ≡ ruled off false Hot back (first_band off c h x y)
from-hot true c h x y back = refl
from-hot false true h x y back = refl
from-hot false false true x y back = refl
from-hot false false false true y true = refl
from-hot false false false true y false = refl
from-hot false false false false true true = refl
from-hot false false false false true false = refl
from-hot false false false false false true = refl
from-hot false false false false false false = refl

from-cool : (off c h j l w back : Bool) → first_band off c h (j && (l || not back)) (j && w) ≡ ruled off (not j) Cool back (first_band off c h (j && l) (j && w))
from-cool true c h j l w back = refl
from-cool false true h j l w back = refl
from-cool false false true j l w back = refl
from-cool false false false false l w back = refl
from-cool false false false true true w true = refl
from-cool false false false true true w false = refl
from-cool false false false true false true true = refl
from-cool false false false true false true false = refl
from-cool false false false true false false true = refl
from-cool false false false true false false false = refl

from-warm : (off c h j l w back : Bool) → (back ≡ false → l ≡ true → ⊥) → first_band off c h (j && l) (j && (w || not back)) ≡ ruled off (not j) Warm back (first_band off c h (j && l) (j && w))
from-warm true c h j l w back n = refl
from-warm false true h j l w back n = refl
from-warm false false true j l w back n = refl
from-warm false false false false l w back n = refl
from-warm false false false true true w true n = refl
from-warm false false false true true w false n = absurd (n refl refl)
from-warm false false false true false true true n = refl
from-warm false false false true false true false n = refl
from-warm false false false true false false true n = refl
from-warm false false false true false false false n = refl

-- 1,000 or more back, or less
back-or-not : (a b : ℕ) → ltb a b ≡ not (leb b a)
back-or-not a b = by (leb b a) refl
  where
    by : (t : Bool) → leb b a ≡ t → ltb a b ≡ not t
    by true h = le-ltb a b (leb-true b a h)
    by false h = lt-ltb a b (leb-false b a h)

-- a thermistor's next band, by the marks of a moment and the four tests of what is held
module _ (m : Marks) (ts : ℕ) where
  abbrev wide : Bool → Bool → Bool → Bool → TsBand
  wide oc oh ol ow =
      first_band m.off (leb m.th1 ts || ltb m.th1 (ts + 1000) && oc) (leb ts m.th5 || ltb ts (m.th5 + 1000) && oh)
      (m.jeita && (leb m.th2 ts || ltb m.th2 (ts + 1000) && ol)) (m.jeita && (leb ts m.th3 || ltb ts (m.th3 + 1000) && ow))

  module _ (least : 70900 ≤ m.th1) (most : m.th5 ≤ 41200) (low : 62250 ≤ m.th2) (high : m.th3 ≤ 48400) where
    far-hot : leb (ts + 1000) m.th1 ≡ false → leb ts m.th5 ≡ true → ⊥
    far-hot a b = omega (arith, leb-false (ts + 1000) m.th1 a, leb-true ts m.th5 b, least, most)

    far-cool : leb (m.th3 + 1000) ts ≡ false → leb m.th2 ts ≡ true → ⊥
    far-cool a b = omega (arith, leb-false (m.th3 + 1000) ts a, leb-true m.th2 ts b, low, high)

    wide-next : (held : TsBand) → wide (is_band Cold held) (is_band Hot held) (is_band Cool held) (is_band Warm held) ≡ next_by true m held ts
    unfolding next_by stays_by band_by
    wide-next Normal =
        (λ i. first_band m.off (gone (leb m.th1 ts) (ltb m.th1 (ts + 1000)) i) (gone (leb ts m.th5) (ltb ts (m.th5 + 1000)) i) (m.jeita && gone (leb m.th2 ts) (ltb m.th2 (ts + 1000)) i) (m.jeita && gone (leb ts m.th3) (ltb ts (m.th3 + 1000)) i))
        ∙ sym (rw (and-false (not (at_once (first_band m.off (leb m.th1 ts) (leb ts m.th5) (m.jeita && leb m.th2 ts) (m.jeita && leb ts m.th3))) && not (m.off || true))) refl)
    wide-next Cold =
        (λ i. first_band m.off ((kept (leb m.th1 ts) (ltb m.th1 (ts + 1000)) ∙ ap (λ b. leb m.th1 ts || b) (back-or-not m.th1 (ts + 1000))) i) (gone (leb ts m.th5) (ltb ts (m.th5 + 1000)) i) (m.jeita && gone (leb m.th2 ts) (ltb m.th2 (ts + 1000)) i) (m.jeita && gone (leb ts m.th3) (ltb ts (m.th3 + 1000)) i))
        ∙ from-cold m.off (leb m.th1 ts) (leb ts m.th5) (m.jeita && leb m.th2 ts) (m.jeita && leb ts m.th3) (leb (ts + 1000) m.th1) far-hot
    wide-next Hot =
        (λ i. first_band m.off (gone (leb m.th1 ts) (ltb m.th1 (ts + 1000)) i) ((kept (leb ts m.th5) (ltb ts (m.th5 + 1000)) ∙ ap (λ b. leb ts m.th5 || b) (back-or-not ts (m.th5 + 1000))) i) (m.jeita && gone (leb m.th2 ts) (ltb m.th2 (ts + 1000)) i) (m.jeita && gone (leb ts m.th3) (ltb ts (m.th3 + 1000)) i))
        ∙ from-hot m.off (leb m.th1 ts) (leb ts m.th5) (m.jeita && leb m.th2 ts) (m.jeita && leb ts m.th3) (leb (m.th5 + 1000) ts)
    wide-next Cool =
        (λ i. first_band m.off (gone (leb m.th1 ts) (ltb m.th1 (ts + 1000)) i) (gone (leb ts m.th5) (ltb ts (m.th5 + 1000)) i) (m.jeita && (kept (leb m.th2 ts) (ltb m.th2 (ts + 1000)) ∙ ap (λ b. leb m.th2 ts || b) (back-or-not m.th2 (ts + 1000))) i) (m.jeita && gone (leb ts m.th3) (ltb ts (m.th3 + 1000)) i))
        ∙ from-cool m.off (leb m.th1 ts) (leb ts m.th5) m.jeita (leb m.th2 ts) (leb ts m.th3) (leb (ts + 1000) m.th2)
    wide-next Warm =
        (λ i. first_band m.off (gone (leb m.th1 ts) (ltb m.th1 (ts + 1000)) i) (gone (leb ts m.th5) (ltb ts (m.th5 + 1000)) i) (m.jeita && gone (leb m.th2 ts) (ltb m.th2 (ts + 1000)) i) (m.jeita && (kept (leb ts m.th3) (ltb ts (m.th3 + 1000)) ∙ ap (λ b. leb ts m.th3 || b) (back-or-not ts (m.th3 + 1000))) i))
        ∙ from-warm m.off (leb m.th1 ts) (leb ts m.th5) m.jeita (leb m.th2 ts) (leb ts m.th3) (leb (m.th3 + 1000) ts) far-cool

-- ---- after an event, and at the power-on
module _ (k : Thermistor) where
  -- whatever a run's edition is, it is so at each of its moments
  pub held_next : (r : Run) (e : Later) → eqb (profile_of r).edition 2 ≡ true → ts_band_at k (r ▸ e) ≡ next_by true (marks_at (r ▸ e)) (ts_band_at k r) (ts_at k (r ▸ e))
  unfolding ts_band_at cold_at hot_at cool_at warm_at since profile_of
  held_next r e second =
      let m = r ▸ e in
      let t = told k r in
      rw second
      (widened (eqb (field_at en_ts m) 0) (jeita m) (leb (th1 m) (ts_at k m)) (leb (ts_at k m) (th5 m)) (leb (th2 m) (ts_at k m)) (leb (ts_at k m) (th3 m)) (ltb (th1 m) (ts_at k m + 1000)) (ltb (ts_at k m) (th5 m + 1000)) (ltb (th2 m) (ts_at k m + 1000)) (ltb (ts_at k m) (th3 m + 1000)) (cold_at k r) (hot_at k r) (cool_at k r) (warm_at k r)
      ∙ (λ i. wide (marks_at m) (ts_at k m) (t.is-cold i) (t.is-hot i) (t.is-cool i) (t.is-warm i))
      ∙ wide-next (marks_at m) (ts_at k m) (th1-least m) (th5-most m) (th2-least m) (th3-most m) (ts_band_at k r))

  -- by the first edition, the moment's own
  pub first-is : (r : Run) → eqb (profile_of r).edition 2 ≡ false → ts_band_at k r ≡ fresh_at k r
  first-is r first = first-now k r (rw first)

  pub next-is : (r : Run) (e : Later) → next_of (profile_of r) (registers_at (r ▸ e)) (ts_band_at k r) (ts_at k (r ▸ e)) ≡ ts_band_at k (r ▸ e)
  unfolding next_of next_by profile_of
  next-is r e = ap (λ (a : Marks). next_by (holds_bands (profile_of r)) a (ts_band_at k r) (ts_at k (r ▸ e))) (marks-are (r ▸ e)) ∙ by (holds_bands (profile_of r)) refl
    where
      by : (t : Bool) → holds_bands (profile_of r) ≡ t → next_by t (marks_at (r ▸ e)) (ts_band_at k r) (ts_at k (r ▸ e)) ≡ ts_band_at k (r ▸ e)
      by true h = sym (held_next r e h)
      by false h = fresh-by k (r ▸ e) ∙ sym (first-is (r ▸ e) h)

  -- a power-on holds nothing: what is entered there is what is judged
  pub start-now : (p : Profile) → ts_band_at k (powered p) ≡ fresh_at k (powered p)
  unfolding ts_band_at cold_at hot_at cool_at warm_at since fresh_at
  start-now p =
      let m = powered p in
      order (eqb (field_at en_ts m) 0) (jeita m) (leb (th1 m) (ts_at k m)) (leb (ts_at k m) (th5 m)) (leb (th2 m) (ts_at k m)) (leb (ts_at k m) (th3 m))

  pub start_is : (p : Profile) → next_of p (registers_at (powered p)) Normal (ts_at k (powered p)) ≡ ts_band_at k (powered p)
  unfolding profile_of
  start_is p = holds-as-said.ours.left p (registers_at (powered p)) Normal (ts_at k (powered p)) tt ∙ fresh-is k (powered p) ∙ sym (start-now p)
