-- What is told of a write's answer settles it, and each call's promise allows one outcome.
use Prim.Native.Nat.{ℕ}
use mathlib.Core.Path.{◌≡◌, ap}
use native.Mathlib.Omega.{arith}
use Rattle.std.specs.Prelude.{Ok, Err}
use Rattle.base.specs.Outcomes.{Settled}
use Rattle.base.specs.Refusals.{refusal_number}
use Rattle.base.proofs.Answers.{refusal-one}
use Rattle.base.proofs.Outcomes.{contract-settles, plain-settles}
use Rattle.state_registers.specs.PublicPromises.{OneOutcome}
use Rattle.state_registers.specs.Writes.{write_told}

pub write-settled : Settled write_told
write-settled (Ok a) (Ok b) e = cc
write-settled (Ok a) (Err r) e = absurd (let z : ◌≡◌ {A = ℕ} 0 1 = cc in omega arith)
write-settled (Err r) (Ok b) e = absurd (let z : ◌≡◌ {A = ℕ} 0 1 = cc in omega arith)
write-settled (Err r) (Err s) e = let n : refusal_number r ≡ refusal_number s = cc in ap Err (refusal-one r s n)

pub one-outcome : OneOutcome
one-outcome =
    record {
      write = λ s address byte. contract-settles _ _ _ write-settled _;
      reset = λ s. plain-settles _ _;
    }
