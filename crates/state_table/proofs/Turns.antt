-- The fields of one register, one after the other: a loop over its rows comes to what the whole table does.
use Prim.Native.Nat.{ℕ, suc, ◌+◌, ◌≤◌, ◌<◌}
use mathlib.Core.Path.{◌≡◌, refl, sym, ap, subst, ◌∙◌}
use mathlib.Core.Bool.{Bool, true, false}
use mathlib.Core.List.{List, [], ◌∷◌}
use native.Mathlib.Nat.{mod-eq_of_lt, lt_of_lt_of_le}
use native.Mathlib.Numerals.{add-one, one-add}
use native.Mathlib.Omega.{arith}
use borrow.Author.Tests.{ltb-true}
use lib.Dec.{ltb}
use lib.ListN.{length, get_or, drop, length-drop}
use lib.Seq.{drop-cons, get_or-drop}
use Rattle.base.specs.Pick.{pick}
use Rattle.state_table.specs.Rows.{Field, fields, over}
use Rattle.state_table.specs.Packed.{no_field, field_at, below}
use Rattle.state_table.proofs.Tested.{ascends, before, after, long, all-below, below-most}

module _ {A : Type 0} (on : Field → Bool) (step : A → Field → A) where
  -- fields that have no step leave what there is
  pub over_none : (fs : List Field) (u : A) → ((j : ℕ) → j < length fs → on (get_or fs j no_field) ≡ false) → over on step fs u ≡ u
  over_none [] u off = refl
  over_none (f ∷ fs) u off =
      ap (λ (t : Bool). over on step fs (pick t (step u f) u)) (off 0 (omega arith))
      ∙ over_none fs u (λ j h. off (suc j) (omega arith))

  module _ (a : ℕ) (off : (f : Field) → (f.address ≡ a → ⊥) → on f ≡ false) where
    -- the fields before the register's
    pub skipped : (fs : List Field) (u : A) → over on step fs u ≡ over on step (drop (below a fs) fs) u
    skipped [] u = refl
    skipped (f ∷ fs) u = go (ltb f.address a) refl (skipped fs u)
      where
        go : (t : Bool) → ltb f.address a ≡ t → over on step fs u ≡ over on step (drop (below a fs) fs) u
            → over on step (f ∷ fs) u ≡ over on step (drop (pick t (1 + below a fs) 0) (f ∷ fs)) u
        go true e rest =
            let less = ltb-true f.address a e in
            ap (λ (t : Bool). over on step fs (pick t (step u f) u)) (off f (λ q. omega arith))
            ∙ rest ∙ ap (λ (n : ℕ). over on step (drop n (f ∷ fs)) u) (sym (one-add (below a fs)))
        go false e rest = refl

    -- those after it
    pub finished : (i : ℕ) (u : A) → below (a + 1) fields ≤ i → over on step (drop i fields) u ≡ u
    finished i u h =
        over_none (drop i fields) u (λ j l.
        let n = length-drop i fields in
        let m : i + j < length fields = omega arith in
        let k = after (a + 1) fields 0 (i + j) ascends (omega arith) m in
        subst (λ (f : Field). on f ≡ false) (sym (get_or-drop i fields j no_field)) (off (get_or fields (i + j) no_field) (λ q. omega arith)))

    -- and a register outside the map has none
    pub nothing : (u : A) → 38 < a → over on step fields u ≡ u
    nothing u h =
        over_none fields u (λ j l.
        let m : j < below 39 fields = rw (all-below 39 (omega arith)) (subst (λ (n : ℕ). j < n) long l) in
        let k = before 39 fields j m in
        off (get_or fields j no_field) (λ q. omega arith))

-- a field between is the register's, and its turn is the table's
module _ (a i : ℕ) (first : below a fields ≤ i) (last : i < below (a + 1) fields) where
  pub known : i < 147
  known = lt_of_lt_of_le last (subst (λ (n : ℕ). below (a + 1) fields ≤ n) long (below-most (a + 1) fields))

  pub its-place : field_at i ≡ get_or fields i no_field
  unfolding field_at
  its-place = ap (λ (n : ℕ). get_or fields n no_field) (mod-eq_of_lt known)

  pub its-address : (field_at i).address ≡ a
  its-address =
      let less = before (a + 1) fields i last in
      let more = after a fields 0 i ascends first (rw long known) in
      let here : (get_or fields i no_field).address ≡ a = omega arith in
      ap (λ (f : Field). f.address) its-place ∙ here

  pub turn : {A : Type 0} (on : Field → Bool) (step : A → Field → A) (u next : A) → next ≡ pick (on (field_at i)) (step u (field_at i)) u
      → over on step (drop (i + 1) fields) next ≡ over on step (drop i fields) u
  turn on step u next e =
      ap (λ (n : ℕ). over on step (drop n fields) next) (add-one i)
      ∙ ap (over on step (drop (suc i) fields)) (e ∙ ap (λ (f : Field). pick (on f) (step u f) u) its-place)
      ∙ sym (ap (λ (l : List Field). over on step l u) (drop-cons fields i no_field (rw long known)))
