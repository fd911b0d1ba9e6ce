-- What is told of a printed page settles it, and the promise of `print` allows one outcome.
use Prim.Native.Nat.{ℕ}
use mathlib.Core.Path.{◌≡◌, ap}
use native.Mathlib.Omega.{arith}
use Rattle.base.specs.Outcomes.{Settled}
use Rattle.base.specs.Refusals.{refusal_number}
use Rattle.base.proofs.Answers.{refusal-one}
use Rattle.base.proofs.Outcomes.{contract-settles-bytes}
use Rattle.step_text.specs.PublicPromises.{OneOutcome}
use Rattle.step_text.specs.Prints.{print_told}
use Rattle.std.specs.Prelude.{Ok, Err}

print-settled : Settled print_told
print-settled (Ok p) (Ok q) e =
    let bytes : p.bytes ≡ q.bytes = cc in
    let walk : p.walk ≡ q.walk = cc in
    let over : p.over ≡ q.over = cc in
    λ i. Ok (record { bytes = bytes i; walk = walk i; over = over i })
print-settled (Ok p) (Err q) e = absurd (let z : ◌≡◌ {A = ℕ} 0 1 = cc in omega arith)
print-settled (Err r) (Ok q) e = absurd (let z : ◌≡◌ {A = ℕ} 0 1 = cc in omega arith)
print-settled (Err r) (Err q) e = let n : refusal_number r ≡ refusal_number q = cc in ap Err (refusal-one r q n)

pub one-outcome : OneOutcome
one-outcome = record { print = λ log from part a b p q. contract-settles-bytes _ _ _ print-settled _ _ a b (p.0, p.1) (q.0, q.1) }
