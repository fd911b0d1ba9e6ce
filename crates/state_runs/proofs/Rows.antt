-- A value that a setting can't hold: the test over a run's registers and their fields finds one exactly if there is one.
use Prim.Native.Nat.{ℕ, zero, suc, ◌+◌, ◌-◌, ◌%◌, ◌<◌}
use mathlib.Core.Path.{◌≡◌, refl, sym, ap, subst, ◌∙◌}
use mathlib.Core.Bool.{Bool, true, false, ◌||◌, false≢true}
use mathlib.Core.List.{List, [], ◌∷◌}
use native.Mathlib.Nat.{not-suc-le-zero, mod-eq_of_lt}
use native.Mathlib.Omega.{arith}
use lib.Dec.{leb, ltb, eqb}
use lib.ListN.{length, get_or}
use borrow.Author.Tests.{eqb-true, eq-eqb, leb-true, ltb-true, le-leb, lt-ltb}
use Rattle.base.specs.Pick.{pick}
use Rattle.base.proofs.Tests.{and-iff}
use Rattle.state_parts.specs.declared.profile.Profile.{Profile}
use Rattle.state_table.specs.Rows.{Field, fields, fields_of, over, digit_of}
use Rattle.state_table.specs.Packed.{no_field, field_at}
use Rattle.state_table.proofs.Tested.{long}
use Rattle.state_runs.specs.Bytes.{value_in, is_written, written_code}
use Rattle.state_runs.specs.Registers.{bad_by, bad_register}
use Rattle.state_runs.specs.Runs.{bad_run}
use Rattle.state_runs.proofs.Steps.{none-meets, some-meets}

-- ---- fields: one of them meets a test, or none does
module _ (on test : Field → Bool) where
  abbrev joins : Bool → Field → Bool
  joins t f = t || test f

  once : (fs : List Field) → over on joins fs true ≡ true
  once [] = refl
  once (f ∷ fs) = ap (over on joins fs) (same (on f)) ∙ once fs
    where
      same : (t : Bool) → pick t true true ≡ true
      same true = refl
      same false = refl

  -- the place of one that does
  record Meets (fs : List Field) : Type 0 where
    place : ℕ
    inside : place < length fs
    here : on (get_or fs place no_field) ≡ true
    meets : test (get_or fs place no_field) ≡ true

  some-field : (fs : List Field) → over on joins fs false ≡ true → Meets fs
  some-field [] e = absurd (false≢true e)
  some-field (f ∷ fs) e = go (on f) (test f) refl refl e (some-field fs)
    where
      go : (t u : Bool) → on f ≡ t → test f ≡ u → over on joins fs (pick t u false) ≡ true → (over on joins fs false ≡ true → Meets fs) → Meets (f ∷ fs)
      go true true et eu e rest = record { place = 0; inside = omega arith; here = et; meets = eu }
      go true false et eu e rest = let m = rest e in record { place = suc m.place; inside = let h = m.inside in omega arith; here = m.here; meets = m.meets }
      go false u et eu e rest = let m = rest e in record { place = suc m.place; inside = let h = m.inside in omega arith; here = m.here; meets = m.meets }

  found : (fs : List Field) (i : ℕ) → i < length fs → on (get_or fs i no_field) ≡ true → test (get_or fs i no_field) ≡ true → (b : Bool) → over on joins fs b ≡ true
  found [] i h there meets b = absurd (not-suc-le-zero h)
  found (f ∷ fs) zero h there meets b = rw (there, meets, either b) (once fs)
    where
      either : (t : Bool) → (t || true) ≡ true
      either true = refl
      either false = refl
  found (f ∷ fs) (suc i) h there meets b = found fs i (omega arith) there meets (pick (on f) (b || test f) b)

-- ---- a run's
place_is : (i : ℕ) → i < 147 → field_at i ≡ get_or fields i no_field
unfolding field_at
place_is i h = ap (λ (n : ℕ). get_or fields n no_field) (mod-eq_of_lt h)

as-field : (i : ℕ) → i < 147 → (P : Field → Type 0) → P (get_or fields i no_field) → P (field_at i)
as-field i h P = subst P (sym (place_is i h))

-- where the test finds none, no field's code is bad
nothing-bad : (p : Profile) (byte : ℕ → ℕ) (first count : ℕ) → bad_run byte first count p ≡ false → (i : ℕ) → is_written first count (field_at i) ≡ true
    → bad_by p (field_at i).access (written_code byte first (field_at i)) ≡ false
unfolding bad_run bad_register fields_of field_at
nothing-bad p byte first count none i there =
    let f = field_at i in
    let both = (and-iff (leb first f.address) (ltb f.address (first + count))).0 there in
    let low = leb-true first f.address both.0 in
    let high = ltb-true f.address (first + count) both.1 in
    let offset = f.address - first in
    let register = none-meets (λ (n : ℕ). bad_register p (first + n) (value_in byte n)) count none offset (omega arith) in
    go (bad_by p f.access (written_code byte first f)) refl
    (λ bad. found (λ (g : Field). eqb g.address (first + offset)) (λ (g : Field). bad_by p g.access (digit_of g (value_in byte offset))) fields (i % 147) (rw long (omega arith)) (eq-eqb f.address (first + offset) (omega arith)) bad false) register
  where
    go : (t : Bool) {u : Bool} → bad_by p (field_at i).access (written_code byte first (field_at i)) ≡ t
        → (bad_by p (field_at i).access (written_code byte first (field_at i)) ≡ true → u ≡ true) → u ≡ false → bad_by p (field_at i).access (written_code byte first (field_at i)) ≡ false
    go true e yields none = absurd (false≢true (sym none ∙ yields e))
    go false e yields none = e

-- a field of the run whose code is one that its setting can't hold
pub record BadAt (p : Profile) (byte : ℕ → ℕ) (first count : ℕ) : Type 0 where
  pub field : ℕ
  pub there : is_written first count (field_at field) ≡ true
  pub bad : bad_by p (field_at field).access (written_code byte first (field_at field)) ≡ true

module _ (p : Profile) (byte : ℕ → ℕ) (first count : ℕ) where
  pub bad-somewhere : bad_run byte first count p ≡ true → BadAt p byte first count
  unfolding bad_run bad_register fields_of
  bad-somewhere e =
      let m = some-meets (λ (i : ℕ). bad_register p (first + i) (value_in byte i)) count e in
      let i = m.0 in
      let f = some-field (λ (g : Field). eqb g.address (first + i)) (λ (g : Field). bad_by p g.access (digit_of g (value_in byte i))) fields m.2 in
      let g = get_or fields f.place no_field in
      let small : f.place < 147 = subst (λ (n : ℕ). f.place < n) long f.inside in
      let same : g.address ≡ first + i = eqb-true g.address (first + i) f.here in
      let offset : i ≡ g.address - first = omega arith in
      let less : i < count = m.1 in
      record {
        field = f.place;
        there = as-field f.place small (λ (h : Field). is_written first count h ≡ true) (rw (le-leb first g.address (omega arith), lt-ltb g.address (first + count) (omega arith)) refl);
        bad = as-field f.place small (λ (h : Field). bad_by p h.access (written_code byte first h) ≡ true)
            (subst (λ (n : ℕ). bad_by p g.access (digit_of g (value_in byte n)) ≡ true) offset f.meets);
      }

  pub bad-found : BadAt p byte first count → bad_run byte first count p ≡ true
  unfolding bad_run bad_register fields_of
  bad-found b = go (bad_run byte first count p) refl
    where
      go : (t : Bool) → bad_run byte first count p ≡ t → bad_run byte first count p ≡ true
      go true e = e
      go false e = absurd (false≢true (sym (nothing-bad p byte first count e b.field b.there) ∙ b.bad))
