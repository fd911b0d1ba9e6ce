-- The rows of one register, one after the other: whichever step is taken with a field's code of the written value.
use Prim.Native.Nat.{ℕ, ◌+◌, ◌/◌, ◌%◌, ◌^◌, ◌≤◌, ◌<◌}
use mathlib.Core.Path.{◌≡◌, refl, ap, ◌∙◌}
use mathlib.Core.Bool.{Bool, false}
use borrow.Author.Tests.{eq-eqb, ne_eqb}
use lib.Dec.{eqb}
use Rattle.base.specs.Pick.{pick}
use Rattle.state_table.specs.Rows.{Field, fields, digit_of}
use Rattle.state_table.specs.Packed.{field_at, row_of, below}
use Rattle.state_table.specs.declared.Access.{Access}
use Rattle.state_table.specs.declared.Row.{Row}
use Rattle.state_table.proofs.Turns.{its-address}

module _ (a : ℕ) where
  abbrev pub on : Field → Bool
  on f = eqb f.address a

  pub off : (f : Field) → (f.address ≡ a → ⊥) → on f ≡ false
  off f other = ne_eqb f.address a other

  -- a step by access and code
  module _ {A : Type 0} (by : Access → ℕ → A → A) (value : ℕ) where
    abbrev pub step : A → Field → A
    step u f = by f.access (digit_of f value) u

    pub code-turn : (i : ℕ) → below a fields ≤ i → i < below (a + 1) fields → (r : Row) → r ≡ row_of (field_at i) → (u next : A)
        → next ≡ by r.access (value / 2 ^ r.low % 2 ^ r.width) u → next ≡ pick (on (field_at i)) (step u (field_at i)) u
    code-turn i first last r er u next e =
        let there = its-address a i first last in
        e ∙ ap (λ (x : Row). by x.access (value / 2 ^ x.low % 2 ^ x.width) u) er ∙ rw (eq-eqb (field_at i).address a there) refl
