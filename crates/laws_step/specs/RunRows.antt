-- 02, R-3: what the rows of a run of bytes speak of, as statements.
use Rattle.std.specs.Prelude.{ℕ, ◌+◌, ◌*◌, ◌%◌, ◌≤◌, ◌<◌, ◌≡◌, ◌⊎◌}
use Rattle.log_raw.specs.Raw.{byte_of}
use Rattle.log_raw.specs.Promises.{Sound}
use Rattle.log_raw.specs.Struct.{raw_of}
use Rattle.log_raw.specs.declared.RawBytes.{RawBytes}
use Rattle.state_parts.specs.declared.profile.Profile.{Profile}
use Rattle.state_table.specs.Rows.{Field, fsw}
use Rattle.state_table.specs.Packed.{field_at}
use Rattle.state_table.specs.declared.Access.TheVariants.{Setting}
use Rattle.state_runs.specs.Bytes.{written_code}
use Rattle.laws_step.specs.Ranged.{ValueIn}

-- "An event of another length, or with a byte past its length that isn't zero, has no spelling"
abbrev pub Spelled : RawBytes → Type 0
Spelled raw = Sound (raw_of raw)

-- every address of the run is one of 0x00 to 0x26
abbrev pub InMap : ℕ → RawBytes → Type 0
InMap first raw = first + raw.length ≤ 39

-- the upper half of a register that has "sixteen bits at 00 02 04 06 08 0A 0C 24"
abbrev pub UpperHalf : ℕ → Type 0
UpperHalf address = ((address ≤ 0x0D) × (address % 2 ≡ 1)) ⊎ (address ≡ 0x25)

-- the run has half of one: it starts there, or what follows it does
abbrev pub HasHalf : ℕ → RawBytes → Type 0
HasHalf first raw = UpperHalf first ⊎ UpperHalf (first + raw.length)

-- a field's register is among those that the run writes
abbrev pub Written : ℕ → RawBytes → Field → Type 0
Written first raw f = (first ≤ f.address) × (f.address < first + raw.length)

abbrev pub code_written : ℕ → RawBytes → Field → ℕ
code_written first raw f = written_code (byte_of (raw_of raw)) first f

-- "FSW .. written 0 or 7"
abbrev pub NoFrequency : ℕ → RawBytes → Type 0
NoFrequency first raw = Written first raw fsw × ((code_written first raw fsw ≡ 0) ⊎ (code_written first raw fsw ≡ 7))

-- "a field value that its setting can't hold"
pub record Unheld (p : Profile) (first : ℕ) (raw : RawBytes) : Type 0 where
  pub field : ℕ
  pub number : ℕ
  pub step : ℕ
  pub setting : (field_at field).access ≡ Setting number step
  pub there : Written first raw (field_at field)
  pub outside : ¬ ValueIn p number (code_written first raw (field_at field) * step)
