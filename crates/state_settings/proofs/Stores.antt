-- A setting that was stored is held, no other changes, and the settings still hold what they may.
use Prim.Native.Nat.{ℕ, zero, suc, ◌≤◌}
use mathlib.Core.Path.{◌≡◌, refl, sym, ap, subst, ◌∙◌}
use mathlib.Core.Bool.{Bool, true, false}
use lib.Dec.{eqb}
use mathlib.Core.Logic.{⊎_elim}
use native.Mathlib.Nat.{eq-or-lt_of_le}
use native.Mathlib.Omega.{arith}
use borrow.Author.Tests.{eqb-true}
use Rattle.base.specs.Pick.{pick, bit_of}
use Rattle.base.specs.Volts.{pack_of, millivolts_of}
use Rattle.base.specs.declared.units.PackMv.{PackMv}
use Rattle.base.proofs.Span.{span}
use Rattle.base.proofs.Tests.{and-iff}
use Rattle.state_parts.specs.declared.profile.Profile.{Profile}
use Rattle.state_parts.specs.declared.settings.Settings.{Settings}
use Rattle.state_settings.specs.Kept.{holds_to, settings_ok}
use Rattle.state_settings.specs.Numbered.{setting_numbers, held_of, store_of}
use Rattle.state_settings.specs.Ranges.{last_setting, ranges, range_of, may_hold}
use Rattle.state_settings.proofs.Steps.{at_most}

volts-held : (t : Bool) (v : ℕ) (p : PackMv) → millivolts_of (pick t (pack_of v) p) ≡ pick t v (millivolts_of p)
volts-held true v p = refl
volts-held false v p = refl

-- a number that is 0 or 1 is its own test
pub bit-held : (v : ℕ) → v ≤ 1 → bit_of (eqb v 1) ≡ v
bit-held zero h = refl
bit-held (suc zero) h = refl
bit-held (suc (suc v)) h = absurd (omega arith)

flag-held : (t : Bool) (v : ℕ) (b : Bool) → (t ≡ true → v ≤ 1) → bit_of (pick t (eqb v 1) b) ≡ pick t v (bit_of b)
flag-held true v b h = bit-held v (h refl)
flag-held false v b h = refl

module _ (p : Profile) (s : Settings) (n v : ℕ) (e : may_hold p n v ≡ true) where
  -- five rows are of tests
  flag : (k : ℕ) (b : Bool) → 9 ≤ k → k ≤ 13 → bit_of (pick (eqb n k) (eqb v 1) b) ≡ pick (eqb n k) v (bit_of b)
  unfolding range_of ranges
  flag k b h l =
      flag-held (eqb n k) v b
      (λ same.
      let most = at_most p k v (subst (λ (m : ℕ). may_hold p m v ≡ true) (eqb-true n k same) e) in
      span (λ (m : ℕ). v ≤ (range_of p m).high → v ≤ 1) 9 5 k (λ q. q, (λ q. q, (λ q. q, (λ q. q, (λ q. q, tt))))) h (omega arith) most)

  -- what each setting holds after a store
  pub held_after : (m : ℕ) → 1 ≤ m → m ≤ last_setting → held_of (store_of s n v) m ≡ pick (eqb n m) v (held_of s m)
  unfolding held_of setting_numbers store_of
  held_after m h l =
      span (λ (k : ℕ). held_of (store_of s n v) k ≡ pick (eqb n k) v (held_of s k)) 1 last_setting m
      (volts-held (eqb n 1) v s.vreg, (refl, (refl, (refl, (refl, (volts-held (eqb n 6) v s.vsysmin, (refl, (refl, (flag 9 s.enchg (omega arith) (omega arith), (flag 10 s.enterm (omega arith) (omega arith), (flag 11 s.enhiz (omega arith) (omega arith), (flag 12 s.enextilim (omega arith) (omega arith), (flag 13 s.disstat (omega arith) (omega arith), (refl, tt))))))))))))))
      h (omega arith)

  passes : (m : ℕ) (t : Bool) → eqb n m ≡ t → may_hold p m (held_of s m) ≡ true → may_hold p m (pick t v (held_of s m)) ≡ true
  passes m true same h = subst (λ (k : ℕ). may_hold p k v ≡ true) (eqb-true n m same) e
  passes m false other h = h

  up_to : (m : ℕ) → m ≤ last_setting → holds_to p s m ≡ true → holds_to p (store_of s n v) m ≡ true
  up_to zero l h = refl
  up_to (suc m) l h =
      let both = (and-iff (holds_to p s m) (may_hold p (suc m) (held_of s (suc m)))).0 h in
      (and-iff (holds_to p (store_of s n v) m) (may_hold p (suc m) (held_of (store_of s n v) (suc m)))).1 (
        up_to m (omega arith) both.0,
        ap (may_hold p (suc m)) (held_after (suc m) (omega arith) l) ∙ passes (suc m) (eqb n (suc m)) refl both.1,
      )

  pub store-passes : settings_ok p s ≡ true → settings_ok p (store_of s n v) ≡ true
  unfolding settings_ok
  store-passes h = up_to last_setting (omega arith) h

-- each setting of settings that hold what they may
pub each-may : (p : Profile) (s : Settings) (most m : ℕ) → holds_to p s most ≡ true → 1 ≤ m → m ≤ most → may_hold p m (held_of s m) ≡ true
each-may p s zero m h l k = absurd (omega arith)
each-may p s (suc most) m h l k =
    let both = (and-iff (holds_to p s most) (may_hold p (suc most) (held_of s (suc most)))).0 h in
    ⊎_elim (λ same. subst (λ (n : ℕ). may_hold p n (held_of s n) ≡ true) (sym same) both.1) (λ less. each-may p s most m both.0 l (omega arith))
    (eq-or-lt_of_le k)
