-- The account, what a run's events leave held: profile, sample, time, the watchdog, overrides, CELL_PIN and stored fields.
use Rattle.std.specs.Prelude.{ℕ, ◌+◌, ◌-◌, ◌*◌, ◌%◌, ◌^◌, Bool, true, false, not, ◌&&◌, ◌||◌, leb, eqb, pos}
use Rattle.base.specs.Pick.{pick}
use Rattle.log_raw.specs.Raw.{byte_of}
use Rattle.log_raw.specs.Struct.{raw_of}
use Rattle.log_raw.specs.declared.RawBytes.{RawBytes}
use Rattle.state_parts.specs.declared.profile.Profile.{Profile}
use Rattle.state_parts.specs.declared.sample.Sample.{Sample}
use Rattle.state_table.specs.Rows.{Field, bit_of, digit_of, vchg_override, cell_override, cell_pin, ichg_override}
use Rattle.state_runs.specs.Bytes.{value_in, is_written, written_code}
use Rattle.state_runs.specs.Runs.{resets, serves}
use Rattle.settle_permission.specs.Bits.{iindpm_of, vindpm_of, thermal_of}
use Rattle.laws_account.specs.History.{Run, powered, ◌▸◌, sum_after}
use Rattle.step_turns.specs.declared.later.Later.TheVariants.{Set, Write, TakeFlags, Observe, Service, Reset, WriteRun, ReadFlags}

unfoldable pub profile_of : Run → Profile
profile_of (powered p) = p
profile_of (r ▸ e) = profile_of r

-- "3. The new sample stands." "Other accepted events settle on the held sample; before the first observation after a power-on it is TS 55,000 and zeros."
-- "the last stamp" is then the power-on's
unfoldable pub sample_of : Run → Sample
sample_of (powered p) = record { stamp = p.stamp; input = 0; pack = 0; ibat = pos 0; ts = 55000; secondts = 55000; bits = 0 }
sample_of (r ▸ Set number value) = sample_of r
sample_of (r ▸ Write address byte) = sample_of r
sample_of (r ▸ TakeFlags) = sample_of r
sample_of (r ▸ Observe x) = x
sample_of (r ▸ Service) = sample_of r
sample_of (r ▸ Reset) = sample_of r
sample_of (r ▸ WriteRun first raw) = sample_of r
sample_of (r ▸ ReadFlags address) = sample_of r

-- "while the old sample shows any regulation", "no regulation": IINDPM, VINDPM or thermal regulation of the sample held
abbrev pub regulated : Run → Bool
regulated r = iindpm_of (sample_of r) || vindpm_of (sample_of r) || thermal_of (sample_of r)

-- "Time since the last stamp", of the last event: only an observation brings any. "Stamps come from a counter that runs free and wraps at 2^32"
unfoldable pub elapsed : Run → ℕ
elapsed (powered p) = 0
elapsed (r ▸ Set number value) = 0
elapsed (r ▸ Write address byte) = 0
elapsed (r ▸ TakeFlags) = 0
elapsed (r ▸ Observe x) = (x.stamp + 2 ^ 32 - (sample_of r).stamp) % 2 ^ 32
elapsed (r ▸ Service) = 0
elapsed (r ▸ Reset) = 0
elapsed (r ▸ WriteRun first raw) = 0
elapsed (r ▸ ReadFlags address) = 0

-- what the last event was
unfoldable pub was_observed : Run → Bool
was_observed (powered p) = false
was_observed (r ▸ Set number value) = false
was_observed (r ▸ Write address byte) = false
was_observed (r ▸ TakeFlags) = false
was_observed (r ▸ Observe x) = true
was_observed (r ▸ Service) = false
was_observed (r ▸ Reset) = false
was_observed (r ▸ WriteRun first raw) = false
was_observed (r ▸ ReadFlags address) = false

-- 02, R-3: "Reset and service bits act as kinds 7 and 6"
unfoldable pub was_reset : Run → Bool
was_reset (powered p) = false
was_reset (r ▸ Set number value) = false
was_reset (r ▸ Write address byte) = false
was_reset (r ▸ TakeFlags) = false
was_reset (r ▸ Observe x) = false
was_reset (r ▸ Service) = false
was_reset (r ▸ Reset) = true
was_reset (r ▸ WriteRun first raw) = resets first (raw_of raw)
was_reset (r ▸ ReadFlags address) = false

-- "service or a reset zeroes it"
unfoldable pub was_served : Run → Bool
was_served (powered p) = false
was_served (r ▸ Set number value) = false
was_served (r ▸ Write address byte) = false
was_served (r ▸ TakeFlags) = false
was_served (r ▸ Observe x) = false
was_served (r ▸ Service) = true
was_served (r ▸ Reset) = true
was_served (r ▸ WriteRun first raw) = resets first (raw_of raw) || serves first (raw_of raw)
was_served (r ▸ ReadFlags address) = false

-- "2. The watchdog adds the time (a period 0 counts nothing); reaching its period expires it"
unfoldable pub unserved : Run → ℕ
unserved = sum_after was_served elapsed

unfoldable pub expired : Run → Bool
expired r = not (eqb (profile_of r).watchdog 0) && leb ((profile_of r).watchdog * 1000) (unserved r)

-- the three overrides, by their fields
pub data Pin : Type 0 where
  vchg cell ichg : Pin

abbrev pub override_of : Pin → Field
override_of vchg = vchg_override
override_of cell = cell_override
override_of ichg = ichg_override

abbrev pub is_override : Field → Bool
is_override f = eqb (bit_of f) (bit_of cell_override) || eqb (bit_of f) (bit_of vchg_override) || eqb (bit_of f) (bit_of ichg_override)

-- A stored field: "Resets: 00 E1 AA 95 D7 40; 0x1B and 0x1C start with pin codes, overrides 0." A write at its address brings its code. "reaching its period expires it: all three
-- overrides clear". "Register reset restores .. the resets above, clears overrides ..; it leaves .. 0x19 bit 7": what the sheet marks is restored, and what it doesn't stands.
unfoldable pub field_at : Field → Run → ℕ
field_at f (powered p) = f.reset
field_at f (r ▸ Set number value) = field_at f r
field_at f (r ▸ Write address byte) = pick (eqb f.address address) (digit_of f byte) (field_at f r)
field_at f (r ▸ TakeFlags) = field_at f r
field_at f (r ▸ Observe x) = pick (is_override f && (not (expired r) && expired (r ▸ Observe x))) 0 (field_at f r)
field_at f (r ▸ Service) = field_at f r
field_at f (r ▸ Reset) = pick f.restored f.reset (field_at f r)
-- a run brings the code of every field that it writes, and then its reset bit acts
field_at f (r ▸ WriteRun first raw) =
    let written = pick (is_written first raw.length f) (written_code (byte_of (raw_of raw)) first f) (field_at f r) in
    pick (resets first (raw_of raw) && f.restored) f.reset written
field_at f (r ▸ ReadFlags address) = field_at f r

abbrev pub overridden : Pin → Run → Bool
overridden k r = eqb (field_at (override_of k) r) 1

-- "CELL_PIN takes a written count only if CELL_PIN_OVERRIDE stood before the write, the count is 1-7 and it differs."; `cells` is the count held before
abbrev pub takes : Run → ℕ → ℕ → ℕ → Bool
takes r cells address byte = eqb address cell_pin.address && overridden cell r && not (eqb (digit_of cell_pin byte) 0) && not (eqb (digit_of cell_pin byte) cells)

-- of a run: the override is that of before the run, and only the byte at 0x1B says a count
abbrev pub run_takes : Run → ℕ → ℕ → RawBytes → Bool
run_takes r cells first raw = is_written first raw.length cell_pin && takes r cells cell_pin.address (value_in (byte_of (raw_of raw)) (cell_pin.address - first))

-- the CELL_PIN held: a register reset "leaves pin codes"
unfoldable pub cells_of : Run → ℕ
cells_of (powered p) = p.cell
cells_of (r ▸ Set number value) = cells_of r
cells_of (r ▸ Write address byte) = pick (takes r (cells_of r) address byte) (digit_of cell_pin byte) (cells_of r)
cells_of (r ▸ TakeFlags) = cells_of r
cells_of (r ▸ Observe x) = cells_of r
cells_of (r ▸ Service) = cells_of r
cells_of (r ▸ Reset) = cells_of r
cells_of (r ▸ WriteRun first raw) = pick (run_takes r (cells_of r) first raw) (written_code (byte_of (raw_of raw)) first cell_pin) (cells_of r)
cells_of (r ▸ ReadFlags address) = cells_of r
