-- A register's value as a sum of its fields' codes.
use Prim.Native.Nat.{ℕ, ◌+◌, ◌*◌, ◌%◌, ◌^◌, ◌≤◌, ◌<◌}
use mathlib.Core.Path.{◌≡◌, refl, ap, ◌∙◌}
use mathlib.Core.Bool.{Bool, false}
use native.Mathlib.Nat.{mod-lt, mul-le-mul, lt_of_lt_of_le}
use native.Mathlib.Omega.{arith}
use borrow.Author.Tests.{eq-eqb, ne_eqb}
use lib.Dec.{eqb}
use lib.Pow.{pow_pos, pow_mono}
use Rattle.base.specs.Pick.{pick}
use Rattle.state_table.specs.Rows.{Field, fields, shifted}
use Rattle.state_table.specs.Packed.{field_at, row_of, below}
use Rattle.state_table.specs.declared.Row.{Row}
use Rattle.state_table.proofs.Turns.{its-address}

pub placed-most : (code low width : ℕ) → low ≤ 15 → width ≤ 16 → code % 2 ^ width * 2 ^ low ≤ 0x7FFF8000
placed-most code low width hl hw =
    let small : code % 2 ^ width < 2 ^ 16 = lt_of_lt_of_le (mod-lt code (pow_pos width)) (pow_mono {j = 16} hw) in
    let unit : 2 ^ low ≤ 2 ^ 15 = pow_mono {j = 15} hl in
    let less : code % 2 ^ width ≤ 65535 = omega arith in
    let m : code % 2 ^ width * 2 ^ low ≤ 65535 * 2 ^ 15 = mul-le-mul less unit in
    omega arith

module _ (a : ℕ) (code : Field → ℕ) where
  abbrev pub on : Field → Bool
  on f = eqb f.address a

  abbrev pub step : ℕ → Field → ℕ
  step n f = n + shifted f (code f)

  pub off : (f : Field) → (f.address ≡ a → ⊥) → on f ≡ false
  off f other = ne_eqb f.address a other

  pub sum-turn : (i : ℕ) → below a fields ≤ i → i < below (a + 1) fields → (r : Row) → r ≡ row_of (field_at i) → (sum part : ℕ)
      → part ≡ code (field_at i) % 2 ^ r.width * 2 ^ r.low → sum + part ≡ pick (on (field_at i)) (step sum (field_at i)) sum
  sum-turn i first last r er sum part e =
      let there = its-address a i first last in
      let put = e ∙ ap (λ (x : Row). code (field_at i) % 2 ^ x.width * 2 ^ x.low) er in
      rw (eq-eqb (field_at i).address a there, put) refl
