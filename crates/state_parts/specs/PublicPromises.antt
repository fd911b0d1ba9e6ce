-- What `cycle::limit_units` promises, the one call of this crate whose promise isn't `r ≡ ..`, and that it allows one outcome.
use Rattle.std.specs.Prelude.{ℕ, ◌≤◌, ◌≡◌}
use Rattle.base.specs.Outcomes.{One}
use Rattle.state_parts.specs.Stages.{limit_units}

-- the most is that of 2^32 - 1 seconds
abbrev pub LimitUnitsPromise : ℕ → ℕ → Type 0
LimitUnitsPromise seconds r = (r ≡ limit_units seconds) × (r ≤ 8589934590000)

-- "equal inputs allow one outcome"
pub record OneOutcome : Type 0 where
  pub limit-units : (seconds : ℕ) → One (LimitUnitsPromise seconds)
