-- The account, the settings: each by its number, 1 to 14, as a run's events leave it.
use Rattle.std.specs.Prelude.{ℕ, ◌+◌, ◌-◌, ◌*◌, Bool, not, ◌&&◌, ◌||◌, List, [], ◌∷◌, get_or, eqb}
use Rattle.base.specs.Pick.{pick}
use Rattle.base.specs.Units.{in_pack}
use Rattle.base.specs.Volts.{millivolts_of}
use Rattle.state_parts.specs.Pins.{vchg_of, ichg_of}
use Rattle.state_parts.specs.declared.profile.Profile.{Profile}
use Rattle.log_raw.specs.Raw.{byte_of}
use Rattle.log_raw.specs.Struct.{raw_of}
use Rattle.log_raw.specs.declared.RawBytes.{RawBytes}
use Rattle.state_table.specs.Rows.{Field, fields_of, over, digit_of, cell_pin}
use Rattle.state_table.specs.declared.Access.{Access}
use Rattle.state_table.specs.declared.Access.TheVariants.{Reserved, Fixed, Status, Flag, Stored, Setting, Mask, Counted, Pin, Acts}
use Rattle.state_runs.specs.Bytes.{value_in, stepwise}
use Rattle.state_runs.specs.Registers.{masked}
use Rattle.state_runs.specs.Runs.{resets}
use Rattle.laws_account.specs.History.{Run, powered, ◌▸◌}
use Rattle.step_turns.specs.declared.later.Later.TheVariants.{Set, Write, TakeFlags, Observe, Service, Reset, WriteRun, ReadFlags}
use Rattle.laws_account.specs.Held.{profile_of, vchg, ichg, overridden, takes, cells_of}

-- "Pin fault: CELL_PIN 0; vchg or ichg code 0 without its override."
unfoldable pub pin_fault : Run → Bool
pin_fault r =
    eqb (cells_of r) 0 || (eqb (profile_of r).vchg 0 && not (overridden vchg r)) || (eqb (profile_of r).ichg 0 && not (overridden ichg r))

-- 01, "Settings (start values are house)": setting 1's and those after it, from codes and CELL_PIN
abbrev pub start_values : Profile → ℕ → List ℕ
start_values p cells =
    pick (eqb p.vchg 0 || eqb cells 0) 2400 (millivolts_of (in_pack (vchg_of p) cells))  -- "1 VREG .. starts at vchg x cells (either code 0: 2,400)."
    ∷ pick (eqb p.ichg 0) 40 (ichg_of p)  -- "2 ICHG .. starts at its pin (code 0: 40)."
    ∷ 120  -- "3 IPRECHG, 4 ITERM .. start 120, 60."
    ∷ 60
    ∷ 3300  -- "5 IINDPM .. starts 3,300."
    ∷ pick (eqb cells 0) 3000 (pick (eqb cells 1) 3500 (millivolts_of (in_pack (record { 0 = 3100 }) cells)))  -- "6 VSYSMIN .. starts 3,100 x cells (one cell 3,500; code 0: 3,000)."
    ∷ 3  -- "7 VBAT_LOWV, 8 VRECHG 0-3, start 3."
    ∷ 3
    ∷ 1  -- "9 EN_CHG, 10 EN_TERM, 12 EN_EXTILIM 0-1, start 1. 11 EN_HIZ, 13 DIS_STAT_PIN 0-1, start 0."
    ∷ 1
    ∷ 0
    ∷ 1
    ∷ 0
    ∷ 0  -- "14 masks 0-4,095, starts 0."
    ∷ []

-- and by the setting's number
unfoldable pub start_value : Profile → ℕ → ℕ → ℕ
start_value p cells number = get_or (start_values p cells) (number - 1) 0

-- a count that was taken: "Then VSYSMIN takes its start value and VREG becomes vchg x count (unchanged if vchg is 0)."
abbrev pub recounted : Profile → ℕ → ℕ → ℕ → ℕ
recounted p cells number held =
    pick (eqb number 6) (start_value p cells 6)
    (pick (eqb number 1 && not (eqb p.vchg 0)) (millivolts_of (in_pack (vchg_of p) cells)) held)

-- a pin fault "forces EN_CHG 0", and nothing but a set, a run or a reset makes it 1 again
abbrev pub forced : Run → ℕ → ℕ → ℕ
forced r number value = pick (eqb number 9 && pin_fault r) 0 value

-- a field of a run that is a setting: "value = code x 20 (VREG x 10; bits and codes x 1)"; a mask sets its bits of setting 14
abbrev pub field_gives : ℕ → Access → ℕ → ℕ → ℕ
field_gives number Reserved code held = held
field_gives number (Fixed value) code held = held
field_gives number (Status which) code held = held
field_gives number (Flag first count) code held = held
field_gives number Stored code held = held
field_gives number (Setting n step) code held = pick (eqb n number) (code * step) held
field_gives number (Mask first count) code held = pick (eqb number 14) (masked first count code held) held
field_gives number Counted code held = held
field_gives number (Pin which) code held = held
field_gives number (Acts which) code held = held

-- one register of a run: its fields, and the count where one is taken
abbrev pub register_gives : ℕ → Run → ℕ → ℕ → ℕ → ℕ
register_gives number r address value held =
    let given = over (λ (f : Field). eqb f.address address) (λ (h : ℕ) (f : Field). field_gives number f.access (digit_of f value) h) (fields_of (profile_of r)) held in
    pick (takes r (cells_of r) address value) (recounted (profile_of r) (digit_of cell_pin value) number given) given

-- "Registers are taken in ascending order"
unfoldable pub run_gives : ℕ → Run → ℕ → RawBytes → ℕ → ℕ
run_gives number r first raw held = stepwise (λ (h : ℕ) (i : ℕ). register_gives number r (first + i) (value_in (byte_of (raw_of raw)) i) h) raw.length held

-- the value that the last event gives a setting or leaves it, before EN_CHG is forced; `held` is the value before
abbrev pub given_by : ℕ → Run → ℕ → ℕ
given_by number (powered p) held = start_value p p.cell number
given_by number (r ▸ Set n value) held = pick (eqb n number) value held
given_by number (r ▸ Write address byte) held =
    pick (takes r (cells_of r) address byte) (recounted (profile_of r) (digit_of cell_pin byte) number held) held
given_by number (r ▸ TakeFlags) held = held
given_by number (r ▸ Observe x) held = held
given_by number (r ▸ Service) held = held
given_by number (r ▸ Reset) held = start_value (profile_of r) (cells_of r) number
given_by number (r ▸ WriteRun first raw) held =
    pick (resets first (raw_of raw)) (start_value (profile_of r) (cells_of (r ▸ WriteRun first raw)) number) (run_gives number r first raw held)
given_by number (r ▸ ReadFlags address) held = held

unfoldable pub setting_of : ℕ → Run → ℕ
setting_of number (powered p) = forced (powered p) number (given_by number (powered p) 0)
setting_of number (r ▸ e) = forced (r ▸ e) number (given_by number (r ▸ e) (setting_of number r))

-- a setting of 0 or 1
abbrev pub enabled : ℕ → Run → Bool
enabled number r = eqb (setting_of number r) 1
