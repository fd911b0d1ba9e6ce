-- 02, R-3: what one register of a run takes. "01's start values, limits and watchdog stand, other fields are only stored."
use Rattle.std.specs.Prelude.{ℕ, ◌-◌, ◌*◌, ◌^◌, Bool, false, not, ◌||◌, eqb}
use Rattle.base.specs.Pick.{pick}
use Rattle.state_parts.specs.declared.profile.Profile.{Profile}
use Rattle.state_parts.specs.declared.registers.Registers.{Registers}
use Rattle.state_parts.specs.declared.settings.Settings.{Settings}
use Rattle.state_settings.specs.Numbered.{store_of}
use Rattle.state_settings.specs.Ranges.{may_hold}
use Rattle.state_table.specs.Rows.{Field, fields_of, over, digit_of, cell_pin}
use Rattle.state_table.specs.declared.Access.{Access}
use Rattle.state_table.specs.declared.Access.TheVariants.{Reserved, Fixed, Status, Flag, Stored, Setting, Mask, Counted, Pin, Acts}
use Rattle.state_fields.specs.Words.{put_at}
use Rattle.state_fields.specs.Held.{taken_by}
use Rattle.state_registers.specs.Writes.{count_taken, recounted}
use Rattle.state_runs.specs.declared.registers.Kept.{Kept}

-- "PG_MASK .. a write sets both": all of the mask's bits are 1, or all 0
abbrev pub masked : ℕ → ℕ → ℕ → ℕ → ℕ
masked first count code masks = put_at first count (pick (eqb code 0) 0 (2 ^ count - 1)) masks

-- a field that is a setting: "value = code x 20 (VREG x 10; bits and codes x 1)"; masks are bits of setting 14
abbrev pub setting_by : Access → ℕ → Settings → Settings
setting_by Reserved code t = t
setting_by (Fixed value) code t = t
setting_by (Status number) code t = t
setting_by (Flag first count) code t = t
setting_by Stored code t = t
setting_by (Setting number step) code t = store_of t number (code * step)
setting_by (Mask first count) code t = store_of t 14 (masked first count code t.masks)
setting_by Counted code t = t
setting_by (Pin number) code t = t
setting_by (Acts number) code t = t

-- the settings of a register that is written, field by field
unfoldable pub settings_taken : Profile → ℕ → ℕ → Settings → Settings
settings_taken p address value t =
    over (λ (f : Field). eqb f.address address) (λ (u : Settings) (f : Field). setting_by f.access (digit_of f value) u) (fields_of p) t

-- "a field value that its setting can't hold"
abbrev pub bad_by : Profile → Access → ℕ → Bool
bad_by p Reserved code = false
bad_by p (Fixed value) code = false
bad_by p (Status number) code = false
bad_by p (Flag first count) code = false
bad_by p Stored code = false
bad_by p (Setting number step) code = not (may_hold p number (code * step))
bad_by p (Mask first count) code = false
bad_by p Counted code = false
bad_by p (Pin number) code = false
bad_by p (Acts number) code = false

unfoldable pub bad_register : Profile → ℕ → ℕ → Bool
bad_register p address value =
    over (λ (f : Field). eqb f.address address) (λ (bad : Bool) (f : Field). bad || bad_by p f.access (digit_of f value)) (fields_of p) false

-- what a register that takes a value leaves: its settings, its stored fields and, at CELL_PIN, the count, by the override and count of before the run
unfoldable pub register_taken : Profile → Registers → ℕ → ℕ → Kept → Kept
register_taken p before address value k =
    let count = count_taken before address value in
    let settings = settings_taken p address value k.settings in
    record {
      settings = pick count (recounted p (digit_of cell_pin value) settings) settings;
      words = taken_by p address value k.words;
      cells = pick count (digit_of cell_pin value) k.cells;
    }
