-- Bits put over the masks: the code's arithmetic is `put_at`.
use Prim.Native.Nat.{ℕ, ◌+◌, ◌-◌, ◌*◌, ◌/◌, ◌%◌, ◌^◌, ◌≤◌, ◌<◌}
use mathlib.Core.Path.{◌≡◌, refl, sym, ap, subst, ◌∙◌}
use mathlib.Core.Bool.{Bool, true, false}
use native.Mathlib.Nat.{mod-eq_of_lt}
use native.Mathlib.Omega.{arith}
use lib.Pow.{pow_pos}
use Rattle.base.specs.Pick.{pick}
use Rattle.state_fields.specs.Words.{put_at}
use Rattle.state_fields.proofs.Puts.{below_64, part_held, part_small, put_small}

-- so many ones are below the next power
pub ones_low : (count : ℕ) (t : Bool) → pick t 0 (2 ^ count - 1) < 2 ^ count
ones_low count true = pow_pos count
ones_low count false = let h = pow_pos count in omega arith

module _ (first count u old n new : ℕ) (eu : u ≡ 2 ^ (first % 64)) (eo : old ≡ n / 2 ^ (first % 64) % 2 ^ (count % 64)) (h : first + count ≤ 31) (low : new < 2 ^ count) where
  unit : u ≡ 2 ^ first
  unit = below_64 first eu (omega arith)

  was : old ≡ n / 2 ^ first % 2 ^ count
  was =
      eo ∙ ap (λ (x : ℕ). n / x % 2 ^ (count % 64)) (below_64 first refl (omega arith)) ∙ ap (λ (x : ℕ). n / 2 ^ first % x) (below_64 count refl (omega arith))

  pub held : old * u ≤ n
  held = rw (was, unit) (part_held first count n)

  pub given : new * u < 2 ^ 31
  given = subst (λ (x : ℕ). x < 2 ^ 31) (ap (λ (x : ℕ). x * 2 ^ first) (mod-eq_of_lt low) ∙ ap (λ (x : ℕ). new * x) (sym unit)) (part_small first count new 31 h)

  pub whole : n - old * u + new * u ≡ put_at first count new n
  unfolding put_at
  whole = rw (was, unit) (ap (λ (x : ℕ). n - n / 2 ^ first % 2 ^ count * 2 ^ first + x * 2 ^ first) (sym (mod-eq_of_lt low)))

  pub fits : n < 2 ^ 32 → n - old * u + new * u < 2 ^ 32
  fits small = subst (λ (x : ℕ). x < 2 ^ 32) (sym whole) (put_small first count new n 32 (omega arith) small)
