-- Where the table's fields stand: no two at one bit, and each inside its register's bytes.
use Prim.Native.Nat.{ℕ, zero, suc, ◌+◌, ◌*◌, ◌≤◌, ◌<◌}
use mathlib.Core.Path.{◌≡◌, refl, ap}
use mathlib.Core.Bool.{Bool, true, false, not, ◌&&◌}
use mathlib.Core.List.{List, [], ◌∷◌}
use mathlib.Core.Logic.{⊎_elim}
use native.Mathlib.Nat.{not-suc-le-zero, mod-eq_of_lt, eq-or-lt_of_le}
use native.Mathlib.Omega.{arith}
use lib.Dec.{eqb, leb}
use lib.ListN.{length, get_or}
use borrow.Author.Tests.{leb-true, leb-false, not-true}
use Rattle.base.proofs.Tests.{and-iff}
use Rattle.state_parts.specs.declared.profile.Profile.{Profile}
use Rattle.state_table.specs.Rows.{Field, fields, fields_of, map_size, bit_of}
use Rattle.state_table.specs.Packed.{no_field, field_at, fits}
use Rattle.state_table.proofs.Tested.{every, at, stacked, stacks, all_fit, long}
use Rattle.state_table.proofs.Unpacked.{fit}
use Rattle.state_fields.proofs.Fields.{stack-from}
use Rattle.state_fields.proofs.Gathers.{nth}
use Rattle.state_runs.specs.Runs.{outside, halves}
use Rattle.laws_registers.specs.Fields.{register_size}

pub in_table : (i : ℕ) → i < 147 → i < length fields
in_table i h = rw long h

pub by_number : (i : ℕ) → i < 147 → field_at i ≡ nth i
unfolding field_at
by_number i h = ap (λ (n : ℕ). get_or fields n no_field) (mod-eq_of_lt h)

-- of two fields the later stands above the earlier
stack-apart : (fs : List Field) (i j from top : ℕ) → stacked from fs top ≡ true → i < j → j < length fs
    → bit_of (get_or fs i no_field) + (get_or fs i no_field).width ≤ bit_of (get_or fs j no_field)
stack-apart [] i j from top e l h = absurd (not-suc-le-zero h)
stack-apart (f ∷ fs) i zero from top e l h = absurd (not-suc-le-zero l)
stack-apart (f ∷ fs) zero (suc j) from top e l h = stack-from fs j (bit_of f + f.width) top ((and-iff (eqb from (bit_of f)) (stacked (bit_of f + f.width) fs top)).0 e).1 (omega arith)
stack-apart (f ∷ fs) (suc i) (suc j) from top e l h =
    stack-apart fs i j (bit_of f + f.width) top ((and-iff (eqb from (bit_of f)) (stacked (bit_of f + f.width) fs top)).0 e).1 (omega arith) (omega arith)

-- every field has a bit
wide : every (λ (f : Field). leb 1 f.width) fields ≡ true
unfolding fields
wide = refl

pub bits-apart : (i j : ℕ) → i < 147 → j < 147 → (j ≡ i → ⊥) → bit_of (nth j) ≡ bit_of (nth i) → ⊥
bits-apart i j hi hj other same = go (leb (suc i) j) refl
  where
    wi : 1 ≤ (nth i).width
    wi = leb-true 1 (nth i).width (at (λ (f : Field). leb 1 f.width) fields i wide (in_table i hi))

    wj : 1 ≤ (nth j).width
    wj = leb-true 1 (nth j).width (at (λ (f : Field). leb 1 f.width) fields j wide (in_table j hj))

    go : (t : Bool) → leb (suc i) j ≡ t → ⊥
    go true e = let k = stack-apart fields i j 0 312 stacks (leb-true (suc i) j e) (in_table j hj) in omega (arith, wi)
    go false e =
        let most : j ≤ i = omega (arith, leb-false (suc i) j e) in
        ⊎_elim other (λ less. let k = stack-apart fields j i 0 312 stacks less (in_table i hi) in omega (arith, wj)) (eq-or-lt_of_le most)

-- Each field's register: a run of its bytes is inside the map and cuts no register, and its fields are inside its bytes.
abbrev housed : Profile → Field → Bool
housed p f =
    leb (f.address + register_size p f.address) map_size && not (halves p f.address (register_size p f.address))
    && leb (f.low + f.width) (8 * register_size p f.address)

all-housed : (p : Profile) → every (housed p) fields ≡ true
unfolding fields fields_of
all-housed p = refl

pub record Housed (p : Profile) (f : Field) : Type 0 where
  pub known : f.address < map_size
  pub inside : outside f.address (register_size p f.address) ≡ false
  pub whole : halves p f.address (register_size p f.address) ≡ false
  pub fits : f.low + f.width ≤ 8 * register_size p f.address

pub housed-at : (p : Profile) (i : ℕ) → i < 147 → Housed p (nth i)
housed-at p i h =
    let f = nth i in
    let k = register_size p f.address in
    let e = (and-iff (leb (f.address + k) map_size && not (halves p f.address k)) (leb (f.low + f.width) (8 * k))).0 (at (housed p) fields i (all-housed p) (in_table i h)) in
    let d = (and-iff (leb (f.address + k) map_size) (not (halves p f.address k))).0 e.0 in
    record { known = let low = (fit f (at fits fields i all_fit (in_table i h))).address in omega arith; inside = ap not d.0; whole = not-true (halves p f.address k) d.1; fits = leb-true _ _ e.1 }
