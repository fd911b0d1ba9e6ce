-- `mask_bits`: ones or zeros, put at their place.
use Prim.Native.Nat.{ℕ, ◌-◌, ◌^◌, ◌<◌}
use mathlib.Core.Path.{◌≡◌, sym, ap, subst, ◌∙◌}
use native.Mathlib.Omega.{arith}
use borrow.Author.Rules.{rules}
use lib.Dec.{eqb}
use Rattle.base.specs.Pick.{pick}
use Rattle.state_fields.specs.Words.{put_at}
use Rattle.state_runs.proofs.Masks.{ones_low, whole, fits}
use Rattle.state_runs.proofs.registers.mask_bits.Goals as goal

-- the bits are as many as the field has
low : (count code new : ℕ) → new ≡ pick (eqb code 0) 0 (2 ^ count - 1) → new < 2 ^ count
low count code new e = subst (λ (x : ℕ). x < 2 ^ count) (sym e) (ones_low count (eqb code 0))

pub overflow_cast-result : goal.overflow_cast-result
overflow_cast-result c =
    let a = c.args in
    let h = fits a.first a.count _ _ a.masks c.ones-new.result c.power-unit.ensures c.part-old.ensures (omega arith) (low a.count a.code c.ones-new.result c.ones-new.ensures) (search rules) in
    record { fits = omega arith }

pub returns : goal.returns
returns c =
    let a = c.args in
    whole a.first a.count _ _ a.masks c.ones-new.result c.power-unit.ensures c.part-old.ensures (omega arith) (low a.count a.code c.ones-new.result c.ones-new.ensures)
    ∙ ap (λ (x : ℕ). put_at a.first a.count x a.masks) c.ones-new.ensures
