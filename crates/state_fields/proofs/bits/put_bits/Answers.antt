-- `put_bits`: the old bits away and the new ones in their place, with no carry.
use mathlib.Core.Path.{refl, ◌∙◌}
use native.Mathlib.Omega.{arith}
use borrow.Author.Rules.{rules}
use Rattle.state_fields.specs.Words.{put_at}
use Rattle.state_fields.proofs.Puts.{part_small, put_small, from_zero, below_64}
use Rattle.state_fields.proofs.bits.put_bits.Goals as goal

pub overflow_mul-result-2 : goal.overflow_mul-result-2
overflow_mul-result-2 c =
    let a = c.args in
    record { fits = rw (c.bits-new.ensures ∙ from_zero a.width a.code, below_64 a.at c.power-unit.ensures (omega arith)) (part_small a.at a.width a.code 64 (search rules)) }

pub overflow_add-result : goal.overflow_add-result
unfolding put_at
overflow_add-result c =
    let a = c.args in
    record { fits = rw (c.bits-old.ensures, c.bits-new.ensures ∙ from_zero a.width a.code, below_64 a.at c.power-unit.ensures (omega arith)) (put_small a.at a.width a.code a.x 64 (search rules) (search rules)) }

pub returns : goal.returns
unfolding put_at
returns c =
    let a = c.args in
    rw (c.bits-old.ensures, c.bits-new.ensures ∙ from_zero a.width a.code, below_64 a.at c.power-unit.ensures (omega arith)) refl
