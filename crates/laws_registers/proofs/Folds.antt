-- One step for each of some fields: where only one of them changes anything, it is that field's step.
use Prim.Native.Nat.{ℕ, zero, suc, ◌<◌}
use mathlib.Core.Path.{◌≡◌, refl, ap, ◌∙◌}
use mathlib.Core.Bool.{Bool}
use mathlib.Core.List.{List, [], ◌∷◌}
use native.Mathlib.Nat.{not-suc-le-zero}
use native.Mathlib.Omega.{arith}
use lib.ListN.{length, get_or}
use Rattle.base.specs.Pick.{pick}
use Rattle.state_table.specs.Rows.{Field, over}
use Rattle.state_table.specs.Packed.{no_field}

module _ {A : Type 0} (on : Field → Bool) (step : A → Field → A) where
  -- a field's turn
  abbrev pub turned : Field → A → A
  turned f u = pick (on f) (step u f) u

  -- none of them changes anything
  pub over-still : (fs : List Field) (u : A) → ((j : ℕ) → j < length fs → turned (get_or fs j no_field) u ≡ u) → over on step fs u ≡ u
  over-still [] u still = refl
  over-still (f ∷ fs) u still = ap (over on step fs) (still 0 (omega arith)) ∙ over-still fs u (λ j h. still (suc j) (omega arith))

  -- one of them does
  pub over-one : (fs : List Field) (i : ℕ) (old new : A) → i < length fs → turned (get_or fs i no_field) old ≡ new
      → ((j : ℕ) → j < length fs → (j ≡ i → ⊥) → (turned (get_or fs j no_field) old ≡ old) × (turned (get_or fs j no_field) new ≡ new)) → over on step fs old ≡ new
  over-one [] i old new h moves still = absurd (not-suc-le-zero h)
  over-one (f ∷ fs) zero old new h moves still = ap (over on step fs) moves ∙ over-still fs new (λ j l. (still (suc j) (omega arith) (λ e. omega arith)).1)
  over-one (f ∷ fs) (suc i) old new h moves still =
      ap (over on step fs) (still 0 (omega arith) (λ e. omega arith)).0
      ∙ over-one fs i old new (omega arith) moves (λ j l other. still (suc j) (omega arith) (λ e. other (omega arith)))
