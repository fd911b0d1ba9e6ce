-- A number between two, and a value that a setting may hold, as statements.
use Rattle.std.specs.Prelude.{ℕ, ◌%◌, ◌≤◌, ◌≡◌}
use Rattle.state_parts.specs.declared.profile.Profile.{Profile}
use Rattle.state_settings.specs.Ranges.{range_of}

abbrev pub Among : ℕ → ℕ → ℕ → Type 0
Among n low high = (low ≤ n) × (n ≤ high)

-- "6 VSYSMIN 3,000-28,000 step 20" and so on: in its range and on its step, by the settings' table
pub record ValueIn (p : Profile) (number value : ℕ) : Type 0 where
  pub range : Among value (range_of p number).low (range_of p number).high
  pub step : value % (range_of p number).step ≡ 0
