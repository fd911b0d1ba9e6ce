-- What is got of a fold where one step alone moves it: over fields, and over a run's registers.
use Prim.Native.Nat.{ℕ, zero, suc, ◌+◌, ◌-◌, ◌≤◌, ◌<◌}
use mathlib.Core.Path.{◌≡◌, refl, sym, ap, ◌∙◌}
use mathlib.Core.Bool.{Bool, true, false, ◌&&◌, false≢true}
use mathlib.Core.List.{List, [], ◌∷◌}
use mathlib.Core.Logic.{⊎_elim}
use native.Mathlib.Nat.{not-suc-le-zero, eq-or-lt_of_le}
use native.Mathlib.Omega.{arith}
use native.Mathlib.Decide.{dec_lt}
use lib.Dec.{eqb, leb, ltb}
use lib.ListN.{length, get_or}
use borrow.Author.Tests.{eqb-true, leb-true, ltb-true, ltb-false, le-leb, lt-ltb, le-ltb, eq-eqb}
use Rattle.base.specs.Pick.{pick}
use Rattle.state_runs.specs.Bytes.{stepwise}
use Rattle.state_table.specs.Rows.{Field, over}
use Rattle.state_table.specs.Packed.{no_field}
use Rattle.laws_registers.proofs.Folds.{turned}

module _ {A X : Type 0} (get : A → X) where
  module _ (on : Field → Bool) (step : A → Field → A) where
    over-keeps : (fs : List Field) → ((j : ℕ) → j < length fs → (u : A) → get (turned on step (get_or fs j no_field) u) ≡ get u) → (u : A) → get (over on step fs u) ≡ get u
    over-keeps [] still u = refl
    over-keeps (f ∷ fs) still u = over-keeps fs (λ j h. still (suc j) (omega arith)) (turned on step f u) ∙ still 0 (omega arith) u

    -- one field's step gives it
    pub over-gets : (fs : List Field) (i : ℕ) (there : Bool) (new : X) → i < length fs → ((u : A) → get (turned on step (get_or fs i no_field) u) ≡ pick there new (get u))
        → ((j : ℕ) → j < length fs → (j ≡ i → ⊥) → (u : A) → get (turned on step (get_or fs j no_field) u) ≡ get u) → (u : A) → get (over on step fs u) ≡ pick there new (get u)
    over-gets [] i there new h moves still u = absurd (not-suc-le-zero h)
    over-gets (f ∷ fs) zero there new h moves still u = over-keeps fs (λ j l. still (suc j) (omega arith) (λ e. omega arith)) (turned on step f u) ∙ moves u
    over-gets (f ∷ fs) (suc i) there new h moves still u =
        over-gets fs i there new (omega arith) moves (λ j l other. still (suc j) (omega arith) (λ e. other (omega arith))) (turned on step f u)
        ∙ ap (pick there new) (still 0 (omega arith) (λ e. omega arith) u)

  -- the step of one address gives it, by what was got before
  module _ (Holds : A → Type 0) (step : A → ℕ → A) (first address : ℕ) (new : ℕ → X → X) where
    abbrev reached : ℕ → Bool
    reached k = leb first address && ltb address (first + k)

    outside : (k : ℕ) → address ≡ first + k → reached k ≡ false
    outside k e = rw (le-leb first address (omega arith), le-ltb address (first + k) (omega arith)) refl

    at_last : (k : ℕ) → address ≡ first + k → reached (suc k) ≡ true
    at_last k e = rw (le-leb first address (omega arith), lt-ltb address (first + suc k) (omega arith)) refl

    elsewhere : (k : ℕ) → (address ≡ first + k → ⊥) → reached (suc k) ≡ reached k
    elsewhere k other = ap (λ (t : Bool). leb first address && t) (go (ltb address (first + k)) refl)
      where
        go : (t : Bool) → ltb address (first + k) ≡ t → ltb address (first + suc k) ≡ ltb address (first + k)
        go true e = let less = ltb-true address (first + k) e in lt-ltb address (first + suc k) (omega arith) ∙ sym e
        go false e =
            let more : first + k ≤ address = ltb-false address (first + k) e in
            ⊎_elim (λ same. absurd (other (sym same))) (λ above. le-ltb address (first + suc k) (omega arith) ∙ sym e) (eq-or-lt_of_le more)

    none_yet : reached 0 ≡ false
    none_yet = go (leb first address) refl
      where
        go : (t : Bool) → leb first address ≡ t → (t && ltb address (first + 0)) ≡ false
        go true e = let low = leb-true first address e in le-ltb address (first + 0) (omega arith)
        go false e = refl

    pub up-gets : (k : ℕ) → ((i : ℕ) → i < k → (u : A) → Holds u → Holds (step u i) × (get (step u i) ≡ pick (eqb address (first + i)) (new i (get u)) (get u)))
        → (u : A) → Holds u → Holds (stepwise step k u) × (get (stepwise step k u) ≡ pick (reached k) (new (address - first) (get u)) (get u))
    up-gets zero each u holds = (holds, ap (λ (t : Bool). pick t (new (address - first) (get u)) (get u)) (sym none_yet))
    up-gets (suc k) each u holds =
        let before = up-gets k (λ i h. each i (omega arith)) u holds in
        let now = each k (omega arith) (stepwise step k u) before.0 in (
          now.0,
          now.1 ∙ go (eqb address (first + k)) refl before.1,
        )
      where
        go : (t : Bool) → eqb address (first + k) ≡ t → get (stepwise step k u) ≡ pick (reached k) (new (address - first) (get u)) (get u)
            → pick t (new k (get (stepwise step k u))) (get (stepwise step k u)) ≡ pick (reached (suc k)) (new (address - first) (get u)) (get u)
        go true e b =
            let here = eqb-true address (first + k) e in
            let place : address - first ≡ k = omega arith in
            let old : get (stepwise step k u) ≡ get u = b ∙ ap (λ (t : Bool). pick t (new (address - first) (get u)) (get u)) (outside k here) in
            ap (new k) old ∙ ap (λ (n : ℕ). new n (get u)) (sym place) ∙ ap (λ (t : Bool). pick t (new (address - first) (get u)) (get u)) (sym (at_last k here))
        go false e b = b ∙ ap (λ (t : Bool). pick t (new (address - first) (get u)) (get u)) (sym (elsewhere k (λ same. false≢true (sym e ∙ eq-eqb address (first + k) same))))

  -- a step that gives it whatever was got before, and none behind it that moves it
  pub up-last : (step : A → ℕ → A) (m : ℕ) (new : X) (k : ℕ) → m < k → ((u : A) → get (step u m) ≡ new) → ((i : ℕ) → m < i → i < k → (u : A) → get (step u i) ≡ get u)
      → (u : A) → get (stepwise step k u) ≡ new
  up-last step m new zero l here later u = absurd (not-suc-le-zero l)
  up-last step m new (suc k) l here later u = go (dec_lt m k) (λ less. up-last step m new k less here (λ i a b. later i a (omega arith)) u)
    where
      go : Dec (m < k) → (m < k → get (stepwise step k u) ≡ new) → get (step (stepwise step k u) k) ≡ new
      go (yes less) before = later k less (omega arith) (stepwise step k u) ∙ before less
      go (no same) before = let last : k ≡ m = omega arith in ap (λ (i : ℕ). get (step (stepwise step k u) i)) last ∙ here (stepwise step k u)
