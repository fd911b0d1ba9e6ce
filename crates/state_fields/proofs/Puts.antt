-- Laws of bits that are put in a number: what was put is there, and all other bits stand. Over any place and width.
use Prim.Native.Nat.{ℕ, ◌+◌, ◌-◌, ◌*◌, ◌/◌, ◌%◌, ◌^◌, ◌≤◌, ◌<◌}
use mathlib.Core.Path.{◌≡◌, sym, ap, subst, ◌∙◌}
use native.Mathlib.Nat.{mod-lt, mod-eq_of_lt, add-mul, mul-le-mul, le_refl, sub-add_cancel, mod-le, lt_of_lt_of_le, div-lt_iff_lt-mul, div-one}
use native.Mathlib.Omega.{arith}
use lib.Pow.{pow_pos, pow-add, split, high, low, field, mod-mod-pow, shr-shr, shr_lt, shl_lt, pow_mono}
use Rattle.state_fields.specs.Words.{bits_at, put_at}

module _ (at width v n : ℕ) where
  abbrev above : ℕ
  above = n / 2 ^ at / 2 ^ width

  -- what was above, the new bits, what was below
  pub shape : put_at at width v n ≡ (above * 2 ^ width + v % 2 ^ width) * 2 ^ at + n % 2 ^ at
  unfolding put_at
  shape =
      let whole = split n at in
      let upper : (above * 2 ^ width + n / 2 ^ at % 2 ^ width) * 2 ^ at ≡ n / 2 ^ at * 2 ^ at = ap (λ (x : ℕ). x * 2 ^ at) (split (n / 2 ^ at) width) in
      omega (arith, add-mul (above * 2 ^ width) (n / 2 ^ at % 2 ^ width) (2 ^ at), add-mul (above * 2 ^ width) (v % 2 ^ width) (2 ^ at))

  pub shifted : put_at at width v n / 2 ^ at ≡ above * 2 ^ width + v % 2 ^ width
  shifted = ap (λ (x : ℕ). x / 2 ^ at) shape ∙ high (above * 2 ^ width + v % 2 ^ width) at (mod-lt n (pow_pos at))

  -- the bits below, and the bits above, as they stood
  pub lower : put_at at width v n % 2 ^ at ≡ n % 2 ^ at
  lower = ap (λ (x : ℕ). x % 2 ^ at) shape ∙ low (above * 2 ^ width + v % 2 ^ width) at (mod-lt n (pow_pos at))

  pub higher : put_at at width v n / 2 ^ (at + width) ≡ n / 2 ^ (at + width)
  higher =
      sym (shr-shr (put_at at width v n) at width) ∙ ap (λ (x : ℕ). x / 2 ^ width) shifted
      ∙ high above width (mod-lt v (pow_pos width)) ∙ shr-shr n at width

  -- what was put is there
  pub put-there : bits_at at width (put_at at width v n) ≡ v % 2 ^ width
  put-there = ap (λ (x : ℕ). x % 2 ^ width) shifted ∙ low above width (mod-lt v (pow_pos width))

-- numbers that agree below a bit, or above one
pub below_of : (at less n u : ℕ) → less ≤ at → n % 2 ^ at ≡ u % 2 ^ at → n % 2 ^ less ≡ u % 2 ^ less
below_of at less n u h e =
    let cut : (m : ℕ) → m % 2 ^ at % 2 ^ less ≡ m % 2 ^ less =
    λ m. ap (λ (k : ℕ). m % 2 ^ k % 2 ^ less) (sym (sub-add_cancel h)) ∙ mod-mod-pow m (at - less) less in
    sym (cut n) ∙ ap (λ (x : ℕ). x % 2 ^ less) e ∙ cut u

pub above_of : (at more n u : ℕ) → at ≤ more → n / 2 ^ at ≡ u / 2 ^ at → n / 2 ^ more ≡ u / 2 ^ more
above_of at more n u h e =
    let cut : (m : ℕ) → m / 2 ^ at / 2 ^ (more - at) ≡ m / 2 ^ more =
    λ m. shr-shr m at (more - at) ∙ ap (λ (k : ℕ). m / 2 ^ k) (omega arith) in
    sym (cut n) ∙ ap (λ (x : ℕ). x / 2 ^ (more - at)) e ∙ cut u

-- bits are the same in numbers that agree there
pub same-below : (at k j n u : ℕ) → k + j ≤ at → n % 2 ^ at ≡ u % 2 ^ at → bits_at k j n ≡ bits_at k j u
same-below at k j n u h e =
    sym (field n j k) ∙ ap (λ (x : ℕ). x / 2 ^ k) (below_of at (j + k) n u (omega arith) e) ∙ field u j k

pub same_above : (at k j n u : ℕ) → at ≤ k → n / 2 ^ at ≡ u / 2 ^ at → bits_at k j n ≡ bits_at k j u
same_above at k j n u h e = ap (λ (x : ℕ). x % 2 ^ j) (above_of at k n u h e)

module _ (at width v n : ℕ) where
  pub put-below : (k j : ℕ) → k + j ≤ at → bits_at k j (put_at at width v n) ≡ bits_at k j n
  put-below k j h = same-below at k j (put_at at width v n) n h (lower at width v n)

  pub put-above : (k j : ℕ) → at + width ≤ k → bits_at k j (put_at at width v n) ≡ bits_at k j n
  put-above k j h = same_above (at + width) k j (put_at at width v n) n h (higher at width v n)

-- bits that are put over themselves change nothing
pub put_same : (at width n : ℕ) → put_at at width (bits_at at width n) n ≡ n
put_same at width n =
    shape at width (bits_at at width n) n ∙ rest
  where
    rest : (n / 2 ^ at / 2 ^ width * 2 ^ width + bits_at at width n % 2 ^ width) * 2 ^ at + n % 2 ^ at ≡ n
    rest =
        ap (λ (x : ℕ). (n / 2 ^ at / 2 ^ width * 2 ^ width + x) * 2 ^ at + n % 2 ^ at) (mod-eq_of_lt (mod-lt (n / 2 ^ at) (pow_pos width)))
        ∙ ap (λ (x : ℕ). x * 2 ^ at + n % 2 ^ at) (split (n / 2 ^ at) width) ∙ split n at

-- numbers that agree above and below a bit are the same
pub joined : (at n u : ℕ) → n % 2 ^ at ≡ u % 2 ^ at → n / 2 ^ at ≡ u / 2 ^ at → n ≡ u
joined at n u e f = sym (split n at) ∙ ap (λ (x : ℕ). x * 2 ^ at + n % 2 ^ at) f ∙ ap (λ (x : ℕ). u / 2 ^ at * 2 ^ at + x) e ∙ split u at

-- what is put stays below what the number stays below
pub put_small : (at width v n top : ℕ) → at + width ≤ top → n < 2 ^ top → put_at at width v n < 2 ^ top
put_small at width v n top h small =
    let k = at + width in
    let e : 2 ^ top ≡ 2 ^ (top - k) * 2 ^ k = ap (λ (x : ℕ). 2 ^ x) (sym (sub-add_cancel h)) ∙ pow-add 2 (top - k) k in
    let less : n / 2 ^ k < 2 ^ (top - k) = shr_lt (top - k) k (subst (λ (x : ℕ). n < 2 ^ x) (sym (sub-add_cancel h)) small) in
    subst (λ (x : ℕ). put_at at width v n < x) (sym e) ((div-lt_iff_lt-mul (pow_pos k)).0 (subst (λ (x : ℕ). x < 2 ^ (top - k)) (sym (higher at width v n)) less))

pub part_held : (at width n : ℕ) → bits_at at width n * 2 ^ at ≤ n
part_held at width n = let m = mul-le-mul (mod-le (n / 2 ^ at) (2 ^ width)) (le_refl (2 ^ at)) in omega (arith, split n at)

pub part_small : (at width v top : ℕ) → at + width ≤ top → v % 2 ^ width * 2 ^ at < 2 ^ top
part_small at width v top h = lt_of_lt_of_le (shl_lt width at (mod-lt v (pow_pos width))) (pow_mono (omega arith))

pub bits_small : (at width n : ℕ) → bits_at at width n < 2 ^ width
bits_small at width n = mod-lt (n / 2 ^ at) (pow_pos width)

-- and below any power that is no smaller
pub bits-under : (at width n top : ℕ) → width ≤ top → bits_at at width n < 2 ^ top
bits-under at width n top h = lt_of_lt_of_le (bits_small at width n) (pow_mono h)

-- bits from bit 0 are the number's lowest
pub from_zero : (width n : ℕ) → bits_at 0 width n ≡ n % 2 ^ width
from_zero width n = ap (λ (x : ℕ). x % 2 ^ width) (div-one n)

-- powers go round at 64
pub below_64 : {n : ℕ} (k : ℕ) → n ≡ 2 ^ (k % 64) → k < 64 → n ≡ 2 ^ k
below_64 k e h = e ∙ ap (λ (j : ℕ). 2 ^ j) (mod-eq_of_lt h)
