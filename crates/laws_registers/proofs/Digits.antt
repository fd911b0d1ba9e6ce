-- A register's value that is put together of its fields' codes has each code at its place; and so have the bytes that are read.
use Prim.Native.Nat.{ℕ, zero, suc, ◌+◌, ◌-◌, ◌*◌, ◌/◌, ◌%◌, ◌^◌, ◌≤◌, ◌<◌}
use mathlib.Core.Path.{◌≡◌, refl, sym, ap, subst, ◌∙◌}
use mathlib.Core.Bool.{Bool, true, false}
use mathlib.Core.List.{List, [], ◌∷◌}
use native.Mathlib.Nat.{not-suc-le-zero, mod-lt, mod-eq_of_lt, mul_assoc, lt_of_lt_of_le, sub-add_cancel, add-mul-mod_self_right, mul-le-mul, le_refl, add_comm, suc-mul}
use native.Mathlib.Omega.{arith}
use lib.Dec.{eqb}
use lib.ListN.{length, get_or}
use lib.Pow.{pow_pos, pow-add, pow_mono, high}
use borrow.Author.Tests.{eqb-true, eq-eqb}
use Rattle.report_registers.specs.Reads.{value_by}
use Rattle.state_fields.proofs.Gathers.{nth}
use Rattle.state_parts.specs.declared.profile.Profile.{Profile}
use Rattle.laws_registers.proofs.Places.{in_table}
use Rattle.base.specs.Pick.{pick}
use Rattle.base.proofs.Tests.{and-iff}
use Rattle.state_table.specs.Rows.{Field, fields, fields_of, bit_of, digit_of, shifted, over}
use Rattle.state_table.specs.Packed.{no_field}
use Rattle.state_table.proofs.Tested.{stacked, stacks}
use Rattle.state_fields.proofs.Puts.{same-below}

-- what is added above a bit leaves the bits below
added-above : (n c low k : ℕ) → k ≤ low → (n + c * 2 ^ low) % 2 ^ k ≡ n % 2 ^ k
added-above n c low k h =
    let cut : c * 2 ^ low ≡ c * 2 ^ (low - k) * 2 ^ k =
    ap (λ (x : ℕ). c * 2 ^ x) (sym (sub-add_cancel h)) ∙ ap (λ (x : ℕ). c * x) (pow-add 2 (low - k) k) ∙ sym (mul_assoc c (2 ^ (low - k)) (2 ^ k)) in
    ap (λ (x : ℕ). (n + x) % 2 ^ k) cut ∙ add-mul-mod_self_right n (c * 2 ^ (low - k)) (2 ^ k)

module _ (a : ℕ) (code : Field → ℕ) where
  abbrev on : Field → Bool
  on f = eqb f.address a

  abbrev step : ℕ → Field → ℕ
  step n f = n + shifted f (code f)

  -- the bits below the fields stand
  lower : (fs : List Field) (from top n k : ℕ) → stacked from fs top ≡ true → a * 8 + k ≤ from → over on step fs n % 2 ^ k ≡ n % 2 ^ k
  lower [] from top n k e h = refl
  lower (f ∷ fs) from top n k e h =
      let both = (and-iff (eqb from (bit_of f)) (stacked (bit_of f + f.width) fs top)).0 e in
      let q : from ≡ bit_of f = eqb-true from (bit_of f) both.0 in
      lower fs (bit_of f + f.width) top (pick (on f) (step n f) n) k both.1 (omega arith) ∙ one (on f) refl q
    where
      one : (t : Bool) → on f ≡ t → from ≡ bit_of f → pick t (step n f) n % 2 ^ k ≡ n % 2 ^ k
      one true t q = let here = eqb-true f.address a t in added-above n (code f % 2 ^ f.width) f.low k (omega arith)
      one false t q = refl

  -- a field's code, on a sum that is below its place
  there : (f : Field) (n m : ℕ) → n < 2 ^ f.low → m % 2 ^ (f.low + f.width) ≡ step n f % 2 ^ (f.low + f.width) → digit_of f m ≡ code f % 2 ^ f.width
  there f n m small e =
      same-below (f.low + f.width) f.low f.width m (step n f) (omega arith) e
      ∙ ap (λ (x : ℕ). x / 2 ^ f.low % 2 ^ f.width) (omega arith) ∙ ap (λ (x : ℕ). x % 2 ^ f.width) (high (code f % 2 ^ f.width) f.low small)
      ∙ mod-eq_of_lt (mod-lt (code f) (pow_pos f.width))

  grown : (f : Field) (n : ℕ) → n < 2 ^ f.low → step n f < 2 ^ (f.low + f.width)
  grown f n small =
      let c = code f % 2 ^ f.width in
      let more : suc c * 2 ^ f.low ≤ 2 ^ f.width * 2 ^ f.low = mul-le-mul (mod-lt (code f) (pow_pos f.width)) (le_refl (2 ^ f.low)) in
      let end : 2 ^ (f.low + f.width) ≡ 2 ^ f.width * 2 ^ f.low = ap (λ (x : ℕ). 2 ^ x) (add_comm f.low f.width) ∙ pow-add 2 f.width f.low in
      let one : suc c * 2 ^ f.low ≡ c * 2 ^ f.low + 2 ^ f.low = suc-mul c (2 ^ f.low) in
      omega arith

  digits : (fs : List Field) (i from top n : ℕ) → stacked from fs top ≡ true → i < length fs → n < 2 ^ (from - a * 8) → (get_or fs i no_field).address ≡ a
      → digit_of (get_or fs i no_field) (over on step fs n) ≡ code (get_or fs i no_field) % 2 ^ (get_or fs i no_field).width
  digits [] i from top n e h small here = absurd (not-suc-le-zero h)
  digits (f ∷ fs) zero from top n e h small here =
      let both = (and-iff (eqb from (bit_of f)) (stacked (bit_of f + f.width) fs top)).0 e in
      let q : from ≡ bit_of f = eqb-true from (bit_of f) both.0 in
      let place : from - a * 8 ≡ f.low = omega arith in
      there f n (over on step fs (pick (on f) (step n f) n)) (subst (λ (x : ℕ). n < 2 ^ x) place small)
      (lower fs (bit_of f + f.width) top (pick (on f) (step n f) n) (f.low + f.width) both.1 (omega arith)
      ∙ ap (λ (t : Bool). pick t (step n f) n % 2 ^ (f.low + f.width)) (eq-eqb f.address a here))
  digits (f ∷ fs) (suc i) from top n e h small here =
      let both = (and-iff (eqb from (bit_of f)) (stacked (bit_of f + f.width) fs top)).0 e in
      let q : from ≡ bit_of f = eqb-true from (bit_of f) both.0 in
      digits fs i (bit_of f + f.width) top (pick (on f) (step n f) n) both.1 (omega arith) (next (on f) refl q) here
    where
      next : (t : Bool) → on f ≡ t → from ≡ bit_of f → pick t (step n f) n < 2 ^ (bit_of f + f.width - a * 8)
      next true t q =
          let at = eqb-true f.address a t in
          let place : from - a * 8 ≡ f.low = omega arith in
          let end : f.low + f.width ≡ bit_of f + f.width - a * 8 = omega arith in
          subst (λ (x : ℕ). step n f < 2 ^ x) end (grown f n (subst (λ (x : ℕ). n < 2 ^ x) place small))
      next false t q = lt_of_lt_of_le small (pow_mono (omega arith))

  -- of the table
  pub value-digit : (p : Profile) (i : ℕ) → i < 147 → (nth i).address ≡ a → digit_of (nth i) (value_by p code a) ≡ code (nth i) % 2 ^ (nth i).width
  unfolding value_by fields_of
  value-digit p i h here = digits fields i 0 312 0 stacks (in_table i h) (pow_pos (0 - a * 8)) here
