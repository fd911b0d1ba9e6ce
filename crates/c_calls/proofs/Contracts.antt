-- Each call's promise allows one outcome.
use mathlib.Core.Path.{◌≡◌, sym, ◌∙◌}
use mathlib.Core.List.{List}
use Prim.Native.Nat.{ℕ}
use Rattle.base.specs.Outcomes.{One, OfTwo, OfThree}
use Rattle.base.proofs.Outcomes.{plain-settles}
use Rattle.c_calls.specs.Landing.{Left, left, Both, both}
use Rattle.c_calls.specs.PublicPromises.{OneOutcome}

left-settles : {A : Type 0} → (given : Left A) → One (OfTwo (λ (r : A) (after : List ℕ). left r after ≡ given))
left-settles given a b p q = λ i. let e = p ∙ sym q in ((e i).answer, (e i).bytes)

both-settles : {A : Type 0} → (given : Both A) → One (OfThree (λ (r : A) (after answered : List ℕ). both r after answered ≡ given))
both-settles given a b p q = λ i. let e = p ∙ sym q in ((e i).answer, ((e i).image, (e i).shown))

pub one-outcome : OneOutcome
one-outcome =
    record {
      rules = plain-settles _ _;
      off = λ image. left-settles _;
      play = λ image log place shown. both-settles _;
      replay = λ image log place. left-settles _;
      event = λ image kind words shown. both-settles _;
      report = λ image report. left-settles _;
      register = λ image address. plain-settles _ _;
      write = λ kind words out. left-settles _;
      compare = λ first second. plain-settles _ _;
    }
