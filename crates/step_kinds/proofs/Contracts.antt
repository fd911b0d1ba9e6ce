-- What is told of a change and of an event's end settles it, and each call's promise allows one outcome.
use Prim.Native.Nat.{ℕ}
use mathlib.Core.Path.{◌≡◌, ap}
use native.Mathlib.Omega.{arith}
use Rattle.std.proofs.Common.{Ok, Err}
use Rattle.base.specs.Outcomes.{Settled}
use Rattle.base.specs.Refusals.{refusal_number}
use Rattle.base.specs.Told.{Told, accepted, refused}
use Rattle.base.proofs.Answers.{refusal-one}
use Rattle.base.proofs.Outcomes.{contract-settles}
use Rattle.state_parts.specs.declared.state.State.{State}
use Rattle.state_parts.specs.declared.state.Model.{Model}
use Rattle.state_parts.specs.declared.state.Model.TheVariants.{Off, On}
use Rattle.step_kinds.specs.Answers.{finished_told}
use Rattle.step_kinds.specs.Changes.{Changed, made_told, change_told}
use Rattle.step_kinds.specs.PublicPromises.{OneOutcome}
use Rattle.step_kinds.specs.declared.change.Way.{Way}

abbrev state_in : State → Told Changed → State
state_in other (accepted c) = c.state
state_in other (refused n) = other

abbrev way_in : Way → Told Changed → Way
way_in other (accepted c) = c.way
way_in other (refused n) = other

made-settled : Settled made_told
made-settled a b e =
    let states : a.0 ≡ b.0 = ap (λ (c : Told Changed). state_in a.0 c) e in
    let ways : a.1 ≡ b.1 = ap (λ (c : Told Changed). way_in a.1 c) e in
    λ i. (states i, ways i)

change-settled : Settled change_told
change-settled (Ok a) (Ok b) e = ap Ok (made-settled a b e)
change-settled (Ok a) (Err r) e = absurd (let z : ◌≡◌ {A = ℕ} 0 1 = cc in omega arith)
change-settled (Err r) (Ok b) e = absurd (let z : ◌≡◌ {A = ℕ} 0 1 = cc in omega arith)
change-settled (Err r) (Err q) e = let n : refusal_number r ≡ refusal_number q = cc in ap Err (refusal-one r q n)

abbrev state_after : State → Model → State
state_after other Off = other
state_after other (On s) = s

pub finished-settled : Settled finished_told
finished-settled a b e = λ i. record { state = state_after a.state (e i).model; pulse = (e i).pulse; handed = (e i).handed }

pub one-outcome : OneOutcome
one-outcome =
    record {
      opened = λ p. contract-settles _ _ _ made-settled _;
      set = λ s number value. contract-settles _ _ _ change-settled _;
      write = λ s address byte. contract-settles _ _ _ change-settled _;
      write-run = λ s address raw. contract-settles _ _ _ change-settled _;
      read_flags = λ s address. contract-settles _ _ _ change-settled _;
      finish = λ before written way. contract-settles _ _ _ finished-settled _;
    }
