-- Steps with the numbers from 0 up: a test that none meets, and what each step keeps.
use Prim.Native.Nat.{ℕ, zero, suc, ◌≤◌, ◌<◌}
use mathlib.Core.Path.{◌≡◌, refl, subst, sym}
use mathlib.Core.Bool.{Bool, true, false, ◌||◌, false≢true}
use mathlib.Core.Logic.{⊎_elim}
use native.Mathlib.Nat.{not-suc-le-zero, eq-or-lt_of_le}
use native.Mathlib.Omega.{arith}
use Rattle.state_runs.specs.Bytes.{stepwise}

neither : (a b : Bool) → (a || b) ≡ false → (a ≡ false) × (b ≡ false)
neither true b e = absurd (false≢true (sym e))
neither false b e = (refl, e)

-- no number meets the test
pub none-meets : (test : ℕ → Bool) (k : ℕ) → stepwise (λ (t : Bool) (i : ℕ). t || test i) k false ≡ false → (i : ℕ) → i < k → test i ≡ false
none-meets test zero e i h = absurd (not-suc-le-zero h)
none-meets test (suc k) e i h =
    let both = neither (stepwise (λ (t : Bool) (j : ℕ). t || test j) k false) (test k) e in
    ⊎_elim (λ same. subst (λ (n : ℕ). test n ≡ false) (sym same) both.1) (λ less. none-meets test k both.0 i less) (eq-or-lt_of_le (last i k h))
  where
    last : (i k : ℕ) → i < suc k → i ≤ k
    last i k h = omega arith

-- what each step keeps, all of them do
pub all_keep : {A : Type 0} (P : A → Type 0) (step : A → ℕ → A) (k : ℕ) → ((i : ℕ) → i < k → (a : A) → P a → P (step a i)) → (a : A) → P a → P (stepwise step k a)
all_keep P step zero keeps a h = h
all_keep P step (suc k) keeps a h = keeps k (omega arith) (stepwise step k a) (all_keep P step k (λ i l. keeps i (omega arith)) a h)

-- a number that meets the test
pub some-meets : (test : ℕ → Bool) (k : ℕ) → stepwise (λ (t : Bool) (i : ℕ). t || test i) k false ≡ true → (i : ℕ) × (i < k) × (test i ≡ true)
some-meets test zero e = absurd (false≢true e)
some-meets test (suc k) e = go (stepwise (λ (t : Bool) (j : ℕ). t || test j) k false) refl e (some-meets test k)
  where
    go : (t : Bool) → stepwise (λ (u : Bool) (j : ℕ). u || test j) k false ≡ t → (t || test k) ≡ true
        → (stepwise (λ (u : Bool) (j : ℕ). u || test j) k false ≡ true → (i : ℕ) × (i < k) × (test i ≡ true)) → (i : ℕ) × (i < suc k) × (test i ≡ true)
    go true et e rest = let m = rest et in (m.0, let h = m.1 in omega arith, m.2)
    go false et e rest = (k, omega arith, e)
