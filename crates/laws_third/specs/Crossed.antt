-- Demand 3, crossed thresholds, in whole mV: each holds by a moment of the run at which a point was crossed, and by every moment since.
-- Taper and the recharge point go by the moment alone, and by its band: they stand in Banded.
use Rattle.std.specs.Prelude.{ℕ, ◌*◌, ◌-◌, ◌≤◌, ◌<◌, min, ◌≡◌, ◌⊎◌, false, leb}
use Rattle.base.specs.Pick.{pick}
use Rattle.state_parts.specs.Pins.{vchg_of}
use Rattle.laws_account.specs.History.{Run, Since, count}
use Rattle.laws_account.specs.Held.{profile_of, sample_of, vchg, ichg, overridden, cells_of}
use Rattle.laws_account.specs.Valued.{setting_of}
use Rattle.laws_account.specs.Judged.{low_ends}

-- "VIN ok from 2,900 up, lost below 2,350;"
abbrev pub InputOk : Run → Type 0
InputOk = Since (λ m. 2350 ≤ (sample_of m).input) (λ m. 2900 ≤ (sample_of m).input)

-- "VIN over from 36,300, cleared below 34,500."
abbrev pub InputOver : Run → Type 0
InputOver = Since (λ m. 34500 ≤ (sample_of m).input) (λ m. 36300 ≤ (sample_of m).input)

-- "Input good: ok and not over."
abbrev pub InputGood : Run → Type 0
InputGood r = InputOk r × (¬ InputOver r)

-- "Pin fault: CELL_PIN 0; vchg or ichg code 0 without its override."
abbrev pub PinFault : Run → Type 0
PinFault r =
    ((cells_of r ≡ 0) ⊎ (((profile_of r).vchg ≡ 0) × (overridden vchg r ≡ false))) ⊎ (((profile_of r).ichg ≡ 0) × (overridden ichg r ≡ false))

-- "Under a pin fault and at power-on: short, low, not over."
abbrev pub FaultOrOn : Run → Type 0
FaultOrOn m = (count m ≡ 0) ⊎ PinFault m

-- "the pack clamp, which is vchg x cells or, with VCHG override, ceiling x cells"
abbrev pub clamp : Run → ℕ
clamp m = pick (overridden vchg m) (profile_of m).ceiling (vchg_of (profile_of m)).0 * cells_of m

-- "Base voltage: lower of VREG and the pack clamp"
abbrev pub base : Run → ℕ
base m = min (setting_of 1 m) (clamp m)

-- a point of 1-2 cells and of 3-7, per cell, in the pack
abbrev pub point : ℕ → ℕ → Run → ℕ
point few many m = pick (leb (cells_of m) 2) few many * cells_of m

-- "Short ends at 2,150 per cell, returns below 1,850 (1-2 cells); 2,200 and 2,000 (3-7)."
abbrev pub Short : Run → Type 0
Short = Since (λ m. (sample_of m).pack < point 2150 2200 m) (λ m. FaultOrOn m ⊎ ((sample_of m).pack < point 1850 2000 m))

-- "Low ends at 30, 55, 66.7, 71.4% of base by VBAT_LOWV 0-3, returns 5 points lower." "All compared in whole numbers": in thousandths
abbrev pub Low : Run → Type 0
Low =
    Since (λ m. (sample_of m).pack * 1000 < base m * low_ends m) (λ m. FaultOrOn m ⊎ ((sample_of m).pack * 1000 < base m * (low_ends m - 50)))

-- "Battery over from 104%, cleared below 102%."
abbrev pub PackOver : Run → Type 0
PackOver =
    Since (λ m. (¬ FaultOrOn m) × (base m * 1020 ≤ (sample_of m).pack * 1000)) (λ m. (¬ FaultOrOn m) × (base m * 1040 ≤ (sample_of m).pack * 1000))
