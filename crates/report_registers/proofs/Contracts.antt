-- What is told of a read's answer settles it, and each call's promise allows one outcome.
use Prim.Native.Nat.{ℕ}
use mathlib.Core.Path.{◌≡◌, ap}
use native.Mathlib.Omega.{arith}
use Rattle.base.specs.Outcomes.{Settled}
use Rattle.base.specs.Refusals.{refusal_number}
use Rattle.base.proofs.Answers.{refusal-one}
use Rattle.base.proofs.Outcomes.{contract-settles, plain-settles}
use Rattle.report_registers.specs.PublicPromises.{OneOutcome}
use Rattle.report_registers.specs.Reads.{register_told}
use Rattle.std.proofs.Common.{Ok, Err}

read-settled : Settled register_told
read-settled (Ok a) (Ok b) e = cc
read-settled (Ok a) (Err r) e = absurd (let z : ◌≡◌ {A = ℕ} 0 1 = cc in omega arith)
read-settled (Err r) (Ok b) e = absurd (let z : ◌≡◌ {A = ℕ} 0 1 = cc in omega arith)
read-settled (Err r) (Err s) e = let n : refusal_number r ≡ refusal_number s = cc in ap Err (refusal-one r s n)

pub one-outcome : OneOutcome
one-outcome = record { read = λ s address. plain-settles _ _; read-register = λ m address. contract-settles _ _ _ read-settled _ }
