-- A setting that is given what it holds: nothing changes, also right after another one was given something.
use Prim.Native.Nat.{ℕ}
use mathlib.Core.Path.{◌≡◌, refl, sym, ap, ◌∙◌}
use mathlib.Core.Bool.{Bool, true, false}
use lib.Dec.{eqb}
use borrow.Author.Tests.{eqb-true}
use Rattle.base.specs.Pick.{pick, bit_of}
use Rattle.base.specs.Volts.{pack_of, millivolts_of}
use Rattle.base.specs.declared.units.PackMv.{PackMv}
use Rattle.state_parts.specs.declared.settings.Settings.{Settings}
use Rattle.state_settings.specs.Numbered.{setting_numbers, held_of, store_of}

bit-back : (b : Bool) → eqb (bit_of b) 1 ≡ b
bit-back true = refl
bit-back false = refl

volts-back : (v : PackMv) → pack_of (millivolts_of v) ≡ v
volts-back v = refl

-- what is chosen is the same where the test says so
chosen : {A : Type 0} (t : Bool) (a b : A) → (t ≡ true → a ≡ b) → pick t a b ≡ b
chosen true a b e = e refl
chosen false a b e = refl

module _ (t : Settings) (m : ℕ) where
  -- each setting's part of the store
  module _ (k : ℕ) {A : Type 0} (from : ℕ → A) (now : A) where
    kept : from (held_of t k) ≡ now → pick (eqb m k) (from (held_of t m)) now ≡ now
    kept e = chosen (eqb m k) (from (held_of t m)) now (λ same. ap (λ (n : ℕ). from (held_of t n)) (eqb-true m k same) ∙ e)

  pub store-held : store_of t m (held_of t m) ≡ t
  unfolding store_of held_of setting_numbers
  store-held =
      λ i. record {
        vreg = kept 1 pack_of t.vreg refl i;
        ichg = kept 2 (λ (n : ℕ). n) t.ichg refl i;
        iprechg = kept 3 (λ (n : ℕ). n) t.iprechg refl i;
        iterm = kept 4 (λ (n : ℕ). n) t.iterm refl i;
        iindpm = kept 5 (λ (n : ℕ). n) t.iindpm refl i;
        vsysmin = kept 6 pack_of t.vsysmin refl i;
        lowv = kept 7 (λ (n : ℕ). n) t.lowv refl i;
        vrechg = kept 8 (λ (n : ℕ). n) t.vrechg refl i;
        enchg = kept 9 (λ (n : ℕ). eqb n 1) t.enchg (bit-back t.enchg) i;
        enterm = kept 10 (λ (n : ℕ). eqb n 1) t.enterm (bit-back t.enterm) i;
        enhiz = kept 11 (λ (n : ℕ). eqb n 1) t.enhiz (bit-back t.enhiz) i;
        enextilim = kept 12 (λ (n : ℕ). eqb n 1) t.enextilim (bit-back t.enextilim) i;
        disstat = kept 13 (λ (n : ℕ). eqb n 1) t.disstat (bit-back t.disstat) i;
        masks = kept 14 (λ (n : ℕ). n) t.masks refl i;
      }

-- two settings may be given values in either order
module _ (t : Settings) (n v m w : ℕ) (other : m ≡ n → ⊥) where
  swapped : {A : Type 0} (one two : Bool) (a b c : A) → (one ≡ true → two ≡ true → ⊥) → pick one a (pick two b c) ≡ pick two b (pick one a c)
  swapped true true a b c h = absurd (h refl refl)
  swapped true false a b c h = refl
  swapped false two a b c h = refl

  apart : (k : ℕ) {A : Type 0} (a b c : A) → pick (eqb m k) a (pick (eqb n k) b c) ≡ pick (eqb n k) b (pick (eqb m k) a c)
  apart k a b c = swapped (eqb m k) (eqb n k) a b c (λ here there. other (eqb-true m k here ∙ sym (eqb-true n k there)))

  stores-swap : store_of (store_of t n v) m w ≡ store_of (store_of t m w) n v
  unfolding store_of
  stores-swap =
      λ i. record {
        vreg = apart 1 (pack_of w) (pack_of v) t.vreg i;
        ichg = apart 2 w v t.ichg i;
        iprechg = apart 3 w v t.iprechg i;
        iterm = apart 4 w v t.iterm i;
        iindpm = apart 5 w v t.iindpm i;
        vsysmin = apart 6 (pack_of w) (pack_of v) t.vsysmin i;
        lowv = apart 7 w v t.lowv i;
        vrechg = apart 8 w v t.vrechg i;
        enchg = apart 9 (eqb w 1) (eqb v 1) t.enchg i;
        enterm = apart 10 (eqb w 1) (eqb v 1) t.enterm i;
        enhiz = apart 11 (eqb w 1) (eqb v 1) t.enhiz i;
        enextilim = apart 12 (eqb w 1) (eqb v 1) t.enextilim i;
        disstat = apart 13 (eqb w 1) (eqb v 1) t.disstat i;
        masks = apart 14 w v t.masks i;
      }

pub store-held-after : (t : Settings) (n v m : ℕ) → (m ≡ n → ⊥) → store_of (store_of t n v) m (held_of t m) ≡ store_of t n v
store-held-after t n v m other = stores-swap t n v m (held_of t m) other ∙ ap (λ (u : Settings). store_of u n v) (store-held t m)
