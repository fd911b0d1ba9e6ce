-- What `choice::bit` promises, the one call of this crate whose promise isn't `r ≡ ..`, and that it allows one outcome.
use Rattle.std.specs.Prelude.{◌≡◌, ℕ, ◌≤◌, Bool}
use Rattle.base.specs.Outcomes.{One}
use Rattle.base.specs.Pick.{bit_of}

abbrev pub BitPromise : Bool → ℕ → Type 0
BitPromise test r = (r ≡ bit_of test) × (r ≤ 1)

-- "equal inputs allow one outcome"
pub record OneOutcome : Type 0 where
  pub bit : (test : Bool) → One (BitPromise test)
