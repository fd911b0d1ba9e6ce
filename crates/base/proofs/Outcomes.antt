-- A promise of our forms allows one outcome.
use Rattle.std.proofs.Common.{sym, ◌∙◌}
use Rattle.base.specs.Outcomes.{ContractSettles, ContractSettlesBytes, BoundedSettles, PlainSettles, Settled, itself}
use Rattle.base.specs.Writing.{WritingSettles}
use Rattle.base.proofs.Answers.{written_one}

pub contract-settles : ContractSettles
contract-settles A B told settled given a b p q = settled a b (p ∙ sym q)

pub contract-settles-bytes : ContractSettlesBytes
contract-settles-bytes A B told settled given bytes a b p q = λ i. (settled a.0 b.0 (p.0 ∙ sym q.0) i, (p.1 ∙ sym q.1) i)

pub bounded-settles : BoundedSettles
bounded-settles given most a b p q = p.0 ∙ sym q.0

pub itself-settles : {A : Type 0} → Settled (itself {A = A})
itself-settles a b e = e

pub plain-settles : PlainSettles
plain-settles A given = contract-settles A A itself itself-settles given

-- bytes that are written at the start of a lent part
pub writing-settles : WritingSettles
writing-settles bytes part = contract-settles-bytes _ _ _ written_one _ _
