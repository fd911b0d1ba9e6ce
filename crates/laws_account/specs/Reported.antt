-- The account, what is reported after a run.
use Rattle.std.specs.Prelude.{ℕ, ◌*◌, ◌/◌, min, Bool, not, ◌&&◌, leb, ltb, eqb}
use Rattle.base.specs.Pick.{pick}
use Rattle.base.specs.Volts.{pack_of}
use Rattle.base.specs.declared.units.PackMv.{PackMv}
use Rattle.report_state.specs.declared.answer.Report.{Report}
use Rattle.laws_account.specs.History.{Run}
use Rattle.laws_account.specs.Held.{profile_of}
use Rattle.laws_account.specs.Valued.{setting_of, enabled}
use Rattle.laws_account.specs.Judged.{charge_clamp, share_in, charge_voltage}
use Rattle.laws_account.specs.Bands.{band_at}
use Rattle.laws_account.specs.Cycles.{number_at, phase_at}

-- "else the lower of ICHG and clamp, times 20, 40, 100% in cool (ISETC 1-3), 40 or 100% in warm"
unfoldable pub fast_at : Run → ℕ
fast_at r = min (setting_of 2 r) (charge_clamp r) * share_in (band_at r) r / 100

-- "Input limit: IINDPM, or with EN_EXTILIM and ohms above 0 the lower of it and floor(3,333,000/ohms)."
unfoldable pub limit_at : Run → ℕ
limit_at r = pick (enabled 12 r && ltb 0 (profile_of r).ohms) (min (setting_of 5 r) (3333000 / (profile_of r).ohms)) (setting_of 5 r)

-- "Phases 1-4 report current and voltage, others zeros."
abbrev pub reports : Run → Bool
reports r = leb 1 (number_at phase_at r) && leb (number_at phase_at r) 4

-- "Current: 100; IPRECHG; else .."
unfoldable pub current_at : Run → ℕ
current_at r = pick (not (reports r)) 0 (pick (eqb (number_at phase_at r) 1) 100 (pick (eqb (number_at phase_at r) 2) (setting_of 3 r) (fast_at r)))

unfoldable pub voltage_at : Run → PackMv
voltage_at r = pick (reports r) (charge_voltage r) (pack_of 0)

unfoldable pub report_at : Run → Report
report_at r = record { phase = phase_at r; current = current_at r; voltage = voltage_at r; limit = limit_at r }
