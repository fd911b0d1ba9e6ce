-- What is told of a given event settles it, and the promise of `event_of` allows one outcome.
use Prim.Native.Nat.{ℕ}
use mathlib.Core.Path.{◌≡◌}
use native.Mathlib.Omega.{arith}
use Rattle.std.specs.Prelude.{Ok, Err}
use Rattle.base.specs.Outcomes.{Settled}
use Rattle.base.specs.Refusals.{refusal_number}
use Rattle.base.proofs.Answers.{refusal-one}
use Rattle.base.proofs.Outcomes.{contract-settles}
use Rattle.c_event.specs.PublicPromises.{OneOutcome}
use Rattle.c_event.specs.Given.{given_told}

given-one : Settled given_told
given-one (Ok e) (Ok f) h = cc
given-one (Ok e) (Err r) h = absurd (let z : ◌≡◌ {A = ℕ} 0 1 = cc in omega arith)
given-one (Err r) (Ok e) h = absurd (let z : ◌≡◌ {A = ℕ} 0 1 = cc in omega arith)
given-one (Err a) (Err b) h =
    let n : refusal_number a ≡ refusal_number b = cc in
    let same : a ≡ b = refusal-one a b n in
    cc

pub one-outcome : OneOutcome
one-outcome = record { event-of = λ kind words. contract-settles _ _ _ given-one _ }
