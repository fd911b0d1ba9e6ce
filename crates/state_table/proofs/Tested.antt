-- Rules of the table, each by one test that is computed over it: its fields stand one above the other with no gap, in the order of their addresses, and each fits.
use Prim.Native.Nat.{ℕ, zero, suc, ◌+◌, ◌*◌, ◌%◌, ◌≤◌, ◌<◌}
use mathlib.Core.Path.{◌≡◌, refl, ◌∙◌}
use mathlib.Core.Bool.{Bool, true, false, ◌&&◌}
use mathlib.Core.List.{List, [], ◌∷◌}
use native.Mathlib.Nat.{not-suc-le-zero}
use native.Mathlib.Omega.{arith}
use borrow.Author.Tests.{leb-true, ltb-true, ltb-false, lt-ltb, le-leb}
use lib.Dec.{eqb, leb, ltb}
use lib.ListN.{length, get_or}
use Rattle.base.specs.Pick.{pick}
use Rattle.base.proofs.Tests.{and-iff}
use Rattle.state_table.specs.Rows.{Field, fields, map_size, bit_of}
use Rattle.state_table.specs.Packed.{field_at, no_field, fits, below}

abbrev pub every : (Field → Bool) → List Field → Bool
every test [] = true
every test (f ∷ fs) = test f && every test fs

pub at : (test : Field → Bool) (fs : List Field) (i : ℕ) → every test fs ≡ true → i < length fs → test (get_or fs i no_field) ≡ true
at test [] i e h = absurd (not-suc-le-zero h)
at test (f ∷ fs) zero e h = ((and-iff (test f) (every test fs)).0 e).0
at test (f ∷ fs) (suc i) e h = at test fs i ((and-iff (test f) (every test fs)).0 e).1 (omega arith)

-- each field starts where the one before it ends, from bit `from` to bit `top`: so every bit of every address has exactly one row
abbrev pub stacked : ℕ → List Field → ℕ → Bool
stacked from [] top = eqb from top
stacked from (f ∷ fs) top = eqb from (bit_of f) && stacked (bit_of f + f.width) fs top

pub stacks : stacked 0 fields (map_size * 8) ≡ true
unfolding fields
stacks = refl

-- addresses go up
abbrev pub ascending : ℕ → List Field → Bool
ascending from [] = true
ascending from (f ∷ fs) = leb from f.address && ascending f.address fs

pub ascends : ascending 0 fields ≡ true
unfolding fields
ascends = refl

pub all_fit : every fits fields ≡ true
unfolding fields fits
all_fit = refl

pub long : length fields ≡ 147
unfolding fields
long = refl

pub field_fits : (number : ℕ) → fits (field_at number) ≡ true
unfolding field_at
field_fits number = at fits fields (number % 147) all_fit (rw long (omega arith))

-- past the map's end all fields stand before an address
below_all : (fs : List Field) (a : ℕ) → every (λ (f : Field). leb f.address 38) fs ≡ true → 39 ≤ a → below a fs ≡ length fs
below_all [] a e h = refl
below_all (f ∷ fs) a e h =
    let both = (and-iff (leb f.address 38) (every (λ (g : Field). leb g.address 38) fs)).0 e in
    let low : f.address ≤ 38 = leb-true f.address 38 both.0 in
    rw (lt-ltb f.address a (omega arith), below_all fs a both.1 h) (omega arith)

pub all-below : (a : ℕ) → 39 ≤ a → below a fields ≡ 147
unfolding fields
all-below a h = below_all fields a refl h ∙ long

-- Which fields stand before an address, and which don't: `below` counts those in front.
pub before : (a : ℕ) (fs : List Field) (i : ℕ) → i < below a fs → (get_or fs i no_field).address < a
before a [] i h = absurd (not-suc-le-zero h)
before a (f ∷ fs) i h = go (ltb f.address a) refl (λ j k. before a fs j k) i h
  where
    go : (t : Bool) → ltb f.address a ≡ t → ((j : ℕ) → j < below a fs → (get_or fs j no_field).address < a)
        → (j : ℕ) → j < pick t (1 + below a fs) 0 → (get_or (f ∷ fs) j no_field).address < a
    go true e rest zero k = ltb-true f.address a e
    go true e rest (suc j) k = rest j (omega arith)
    go false e rest j k = absurd (not-suc-le-zero k)

least : (fs : List Field) (from i : ℕ) → ascending from fs ≡ true → i < length fs → from ≤ (get_or fs i no_field).address
least [] from i e h = absurd (not-suc-le-zero h)
least (f ∷ fs) from zero e h = leb-true from f.address ((and-iff (leb from f.address) (ascending f.address fs)).0 e).0
least (f ∷ fs) from (suc i) e h =
    let both = (and-iff (leb from f.address) (ascending f.address fs)).0 e in
    let low = leb-true from f.address both.0 in
    let more = least fs f.address i both.1 (omega arith) in
    omega arith

pub after : (a : ℕ) (fs : List Field) (from i : ℕ) → ascending from fs ≡ true → below a fs ≤ i → i < length fs → a ≤ (get_or fs i no_field).address
after a [] from i e h k = absurd (not-suc-le-zero k)
after a (f ∷ fs) from i e h k = go (ltb f.address a) refl (λ j l m. after a fs f.address j both.1 l m) i h k
  where
    both : (leb from f.address ≡ true) × (ascending f.address fs ≡ true)
    both = (and-iff (leb from f.address) (ascending f.address fs)).0 e

    go : (t : Bool) → ltb f.address a ≡ t → ((j : ℕ) → below a fs ≤ j → j < length fs → a ≤ (get_or fs j no_field).address)
        → (j : ℕ) → pick t (1 + below a fs) 0 ≤ j → j < length (f ∷ fs) → a ≤ (get_or (f ∷ fs) j no_field).address
    go true q rest zero l m = absurd (omega arith)
    go true q rest (suc j) l m = rest j (omega arith) (omega arith)
    go false q rest j l m =
        let here = ltb-false f.address a q in
        let more = least (f ∷ fs) f.address j (rw (le-leb f.address f.address (omega arith)) both.1) m in
        omega arith

pub below-most : (a : ℕ) (fs : List Field) → below a fs ≤ length fs
below-most a [] = omega arith
below-most a (f ∷ fs) = go (ltb f.address a) (below-most a fs)
  where
    go : (t : Bool) → below a fs ≤ length fs → pick t (1 + below a fs) 0 ≤ length (f ∷ fs)
    go true h = omega arith
    go false h = omega arith
