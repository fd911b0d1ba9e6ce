-- 02, R-3: "Reads outside the map return 0xFF, not 10." "Status fields are read from the model's phase and flags."
use Rattle.std.specs.Prelude.{ℕ, ◌+◌, ◌-◌, ◌*◌, ◌/◌, ◌%◌, ◌^◌, Bool, not, ◌||◌, List, [], ◌∷◌, get_or, leb, eqb, Result, Ok, Err}
use Rattle.base.specs.Pick.{pick, bit_of}
use Rattle.base.specs.Refusals.{refusal_number}
use Rattle.base.specs.declared.refusal.Refusal.{Refusal}
use Rattle.base.specs.Told.{Told, accepted, refused}
use Rattle.state_table.specs.Rows.{Field, fields_of, map_size, over, shifted}
use Rattle.state_table.specs.Packed.{upper_half}
use Rattle.state_table.specs.declared.Access.{Access}
use Rattle.state_table.specs.declared.Access.TheVariants.{Reserved, Fixed, Status, Flag, Stored, Setting, Mask, Counted, Pin, Acts}
use Rattle.state_fields.specs.Words.{bits_at}
use Rattle.state_fields.specs.Held.{field_of}
use Rattle.state_settings.specs.Numbered.{held_of}
use Rattle.state_parts.specs.declared.profile.Profile.{Profile}
use Rattle.state_parts.specs.declared.state.State.{State}
use Rattle.state_parts.specs.declared.state.Model.{Model}
use Rattle.state_parts.specs.declared.state.Model.TheVariants.{Off, On}
use Rattle.step_flags.specs.Edges.{seen_of}
use Rattle.step_flags.specs.declared.between.Seen.{Seen}

-- a read's answer in the paper's numbers
abbrev pub register_told : Result ℕ Refusal → Told ℕ
register_told (Ok byte) = accepted byte
register_told (Err refusal) = refused (refusal_number refusal)

-- CHARGE_STAT: the sheet numbers phases 1 to 4 as 01 does, and a charge that is done is 7
abbrev pub charge_stat : ℕ → ℕ
charge_stat phase = pick (leb phase 4) phase (pick (eqb phase 5) 7 0)

-- Each status by its number in the table: CHARGE_STAT, WD_STAT, TREG_STAT, VINDPM_STAT, IINDPM_STAT, PG_STAT, TS_STAT, TSHUT_STAT, CHG_TMR_STAT, BAT_FAULT_STAT, VIN_OVP_STAT.
-- They are what flags are edges of. In BAT_FAULT_STAT 2 is an over-voltage battery.
unfoldable pub statuses : Seen → List ℕ
statuses x =
    charge_stat x.phase
    ∷ bit_of x.expired
    ∷ bit_of x.thermal
    ∷ bit_of x.vindpm
    ∷ bit_of x.iindpm
    ∷ bit_of x.good
    ∷ x.band
    ∷ bit_of x.shutdown
    ∷ bit_of x.limit
    ∷ bit_of x.packover * 2
    ∷ bit_of x.inputover
    ∷ []

unfoldable pub status_of : Seen → ℕ → ℕ
status_of x number = get_or (statuses x) (number % 11) 0

-- one of some bits is 1; all of them are
abbrev pub any_of : ℕ → ℕ → ℕ → ℕ
any_of first count n = bit_of (not (eqb (bits_at first count n) 0))

abbrev pub all_of : ℕ → ℕ → ℕ → ℕ
all_of first count n = bit_of (eqb (bits_at first count n) (2 ^ count - 1))

-- a pin's code: VCHG, ICHG
abbrev pub pin_of : Profile → ℕ → ℕ
pin_of p number = pick (eqb number 0) p.vchg p.ichg

-- The code that a field reads as. A flag of several is 1 where one of them is held; a mask of several where all of them are masked.
abbrev pub code_by : Access → State → Field → ℕ
code_by Reserved s f = 0
code_by (Fixed value) s f = value
code_by (Status number) s f = status_of (seen_of s) number
code_by (Flag first count) s f = any_of first count s.flags
code_by Stored s f = field_of f s.registers
code_by (Setting number step) s f = held_of s.settings number / step
code_by (Mask first count) s f = all_of first count s.settings.masks
code_by Counted s f = s.registers.cells
code_by (Pin number) s f = pin_of s.profile number
code_by (Acts number) s f = 0

unfoldable pub code_of : State → Field → ℕ
code_of s f = code_by f.access s f

-- a register's value: its fields' codes, each at its place
unfoldable pub value_by : Profile → (Field → ℕ) → ℕ → ℕ
value_by p code address = over (λ (f : Field). eqb f.address address) (λ (n : ℕ) (f : Field). n + shifted f (code f)) (fields_of p) 0

-- "Sixteen-bit registers are little-endian"
unfoldable pub byte_by : Profile → (Field → ℕ) → ℕ → ℕ
byte_by p code address =
    pick (leb map_size address) 0xFF
    (pick (upper_half p address) (value_by p code (address - 1) / 256 % 256) (value_by p code address % 256))

-- what the host reads at an address
unfoldable pub read_of : State → ℕ → ℕ
read_of s address = byte_by s.profile (code_of s) address

-- the flag registers, "0x20 and 0x21": those that have a field of flags in the table (`FlagRegisters`)
abbrev pub flag_register : Profile → ℕ → Bool
flag_register p address = eqb address 0x20 || eqb address 0x21

abbrev pub flag_by : Access → ℕ → ℕ
flag_by Reserved flags = 0
flag_by (Fixed value) flags = 0
flag_by (Status number) flags = 0
flag_by (Flag first count) flags = any_of first count flags
flag_by Stored flags = 0
flag_by (Setting number step) flags = 0
flag_by (Mask first count) flags = 0
flag_by Counted flags = 0
flag_by (Pin number) flags = 0
flag_by (Acts number) flags = 0

-- the byte of a flag register while these flags are held
unfoldable pub flag_byte : Profile → ℕ → ℕ → ℕ
flag_byte p address flags = value_by p (λ (f : Field). flag_by f.access flags) address % 256

-- "6 before a power-on, else a byte"
unfoldable pub read_register_of : Model → ℕ → Told ℕ
read_register_of Off address = refused 6
read_register_of (On s) address = accepted (read_of s address)
