-- What is told of a run's answer settles it, and each call's promise allows one outcome.
use Prim.Native.Nat.{ℕ}
use mathlib.Core.Path.{◌≡◌, ap}
use native.Mathlib.Omega.{arith}
use Rattle.std.specs.Prelude.{Ok, Err}
use Rattle.base.specs.Outcomes.{Settled}
use Rattle.base.specs.Refusals.{refusal_number}
use Rattle.base.specs.Told.{Told, accepted, refused}
use Rattle.base.proofs.Answers.{refusal-one}
use Rattle.base.proofs.Outcomes.{contract-settles}
use Rattle.state_parts.specs.declared.state.State.{State}
use Rattle.state_runs.specs.PublicPromises.{OneOutcome}
use Rattle.state_runs.specs.Runs.{kept_of, run_told}
use Rattle.state_runs.specs.declared.registers.Kept.{Kept}

abbrev kept_in : Kept → Told State → Kept
kept_in other (accepted s) = kept_of s
kept_in other (refused n) = other

run_settled : (s : State) → Settled (run_told s)
run_settled s (Ok a) (Ok b) e = ap (λ (t : Told State). Ok (kept_in a t)) e
run_settled s (Ok a) (Err r) e = absurd (let z : ◌≡◌ {A = ℕ} 0 1 = cc in omega arith)
run_settled s (Err r) (Ok b) e = absurd (let z : ◌≡◌ {A = ℕ} 0 1 = cc in omega arith)
run_settled s (Err r) (Err q) e = let n : refusal_number r ≡ refusal_number q = cc in ap Err (refusal-one r q n)

pub one-outcome : OneOutcome
one-outcome = record { run = λ s first raw. contract-settles _ _ _ (run_settled s) _ }
