-- The account, what looking at the model shows and doesn't change: the report, STAT, and a register's byte.
use Rattle.std.specs.Prelude.{ℕ, ◌*◌, ◌/◌, ◌%◌, ◌≡◌, ◌&&◌, [], ◌∷◌, leb, get_or}
use Rattle.base.specs.Pick.{pick, bit_of}
use Rattle.base.specs.Told.{Told, accepted, refused}
use Rattle.report_state.specs.declared.answer.Stat.{Stat}
use Rattle.report_state.specs.declared.answer.Stat.TheVariants.{Low, Blinking, High}
use Rattle.report_state.specs.Report.{report_of}
use Rattle.report_state.specs.Stats.{stat_of}
use Rattle.state_parts.specs.Numbers.{band_number}
use Rattle.settle_permission.specs.Bits.{iindpm_of, vindpm_of, thermal_of, shutdown_of}
use Rattle.state_settings.specs.Numbered.{held_of}
use Rattle.state_table.specs.Rows.{Field}
use Rattle.state_table.specs.declared.Access.{Access}
use Rattle.state_table.specs.declared.Access.TheVariants.{Reserved, Fixed, Status, Flag, Stored, Setting, Mask, Counted, Pin, Acts}
use Rattle.report_registers.specs.Reads.{charge_stat, any_of, all_of, pin_of, byte_by, read_register_of}
use Rattle.laws_account.specs.History.{Run}
use Rattle.laws_account.specs.Held.{profile_of, sample_of, expired, cells_of, field_at}
use Rattle.laws_account.specs.Valued.{setting_of, enabled}
use Rattle.laws_account.specs.Judged.{input_good, input_over, pack_over}
use Rattle.laws_account.specs.Bands.{band_at}
use Rattle.laws_account.specs.Cycles.{number_at, limit_reached, phase_at}
use Rattle.laws_account.specs.Reported.{report_at}
use Rattle.laws_account.specs.Refused.{Past, none, some}
use Rattle.laws_account.specs.States.{settings_at, flags_at, state_of, model_of}
use Rattle.laws_account.specs.Runs.{Lawful}

-- "STAT: low in 1-4, blinking in 6-7, else high; high if disabled."
unfoldable pub stat_at : Run → Stat
stat_at r =
    let phase = number_at phase_at r in
    pick (enabled 13 r) High (pick (leb 1 phase && leb phase 4) Low (pick (leb 6 phase && leb phase 7) Blinking High))

-- Each status of the table, by its number, from what has happened: "Status fields are read from the model's phase and flags"
unfoldable pub status_at : Run → ℕ → ℕ
status_at r number =
    get_or (
    charge_stat (number_at phase_at r)
    ∷ bit_of (expired r)
    ∷ bit_of (thermal_of (sample_of r))
    ∷ bit_of (vindpm_of (sample_of r))
    ∷ bit_of (iindpm_of (sample_of r))
    ∷ bit_of (input_good r)
    ∷ band_number (band_at r)
    ∷ bit_of (shutdown_of (sample_of r))
    ∷ bit_of (limit_reached phase_at r)
    ∷ bit_of (pack_over r) * 2
    ∷ bit_of (input_over r)
    ∷ [])
    (number % 11) 0

-- the code that a field reads as
abbrev pub code_in : Access → Run → Field → ℕ
code_in Reserved r f = 0
code_in (Fixed value) r f = value
code_in (Status number) r f = status_at r number
code_in (Flag first count) r f = any_of first count (flags_at phase_at r)
code_in Stored r f = field_at f r
code_in (Setting number step) r f = held_of (settings_at r) number / step
code_in (Mask first count) r f = all_of first count (setting_of 14 r)
code_in Counted r f = cells_of r
code_in (Pin number) r f = pin_of (profile_of r) number
code_in (Acts number) r f = 0

-- "Reads of any address: 6 before a power-on, else a byte; 0xFF outside the map."
unfoldable pub register_at : Past → ℕ → Told ℕ
register_at none address = refused 6
register_at (some r) address = accepted (byte_by (profile_of r) (λ (f : Field). code_in f.access r f) address)

-- after every history the model shows what the account says
abbrev pub ReportIsModel : Type 0
ReportIsModel = (r : Run) → report_of (state_of r) ≡ report_at r

abbrev pub StatIsModel : Type 0
StatIsModel = (r : Run) → stat_of (state_of r) ≡ stat_at r

abbrev pub RegisterIsModel : Type 0
RegisterIsModel = (h : Past) → Lawful h → (address : ℕ) → read_register_of (model_of h) address ≡ register_at h address
