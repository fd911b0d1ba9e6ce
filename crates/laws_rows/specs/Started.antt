-- What registers read when a power-on begins: 01's "Resets: 00 E1 AA 95 D7 40" from 0x15 on, and for the other registers the data sheet's own resets, as the headings of its section 6.5
-- have them, with 01's start values where those differ (IPRECHG 120, ITERM 60, VRECHG 3). The table of fields has them field by field.
use Rattle.std.specs.Prelude.{ℕ, ◌+◌, ◌≡◌, Bool, true, List, [], ◌∷◌, eqb}
use Rattle.state_parts.specs.declared.profile.Profile.{Profile}
use Rattle.state_parts.specs.declared.state.State.{State}
use Rattle.state_start.specs.Values.{start_state}
use Rattle.state_table.specs.Packed.{field_at}
use Rattle.state_table.specs.declared.Access.{Access}
use Rattle.state_table.specs.declared.Access.TheVariants.{Reserved, Fixed, Status, Flag, Stored, Setting, Mask, Counted, Pin, Acts}
use Rattle.report_registers.specs.Reads.{read_of}

-- a state reads these bytes, from an address on
abbrev pub ReadsFrom : State → ℕ → List ℕ → Type 0
ReadsFrom s address [] = Unit {0}
ReadsFrom s address (byte ∷ bytes) = (read_of s address ≡ byte) × ReadsFrom s (1 + address) bytes

-- 0x06 to 0x1A: IINDPM, VINDPM, IIN_REV and VIN_REV of sixteen bits each, then a byte to a register
abbrev pub start_bytes : List ℕ
start_bytes =
    0x50 ∷ 0x0A ∷ 0x10 ∷ 0x09 ∷ 0x50 ∷ 0x0A ∷ 0xA0 ∷ 0x0F ∷ 0x06 ∷ 0x03 ∷ 0x3F ∷ 0x1D ∷ 0x80 ∷ 0xA0 ∷ 0x28 ∷ 0x00 ∷ 0xE1 ∷ 0xAA ∷ 0x95 ∷ 0xD7 ∷ 0x40 ∷ []

-- 0x22 to 0x27: the masks, ICO_IINDPM, the part's information, and the first address past the map
abbrev pub last_bytes : List ℕ
last_bytes = 0x00 ∷ 0x00 ∷ 0x50 ∷ 0x0A ∷ 0x05 ∷ 0xFF ∷ []

abbrev pub StartsAsTheSheet : Type 0
StartsAsTheSheet = (p : Profile) → ReadsFrom (start_state p) 0x06 start_bytes × ReadsFrom (start_state p) 0x22 last_bytes

-- "what 01 has no word of read their sheet resets": a field that always reads one value reads its reset
abbrev pub reads_reset : Access → ℕ → Bool
reads_reset Reserved reset = eqb 0 reset
reads_reset (Fixed value) reset = eqb value reset
reads_reset (Status number) reset = true
reads_reset (Flag first count) reset = true
reads_reset Stored reset = true
reads_reset (Setting number step) reset = true
reads_reset (Mask first count) reset = true
reads_reset Counted reset = true
reads_reset (Pin number) reset = true
reads_reset (Acts number) reset = eqb 0 reset

abbrev pub FixedReadResets : Type 0
FixedReadResets = (number : ℕ) → reads_reset (field_at number).access (field_at number).reset ≡ true
