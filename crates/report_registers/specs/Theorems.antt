-- What is proved of the flag registers.
use Rattle.std.specs.Prelude.{ℕ, ◌≡◌, Bool, true, false, ◌||◌, eqb}
use Rattle.state_parts.specs.declared.profile.Profile.{Profile}
use Rattle.state_parts.specs.declared.state.State.{State}
use Rattle.state_table.specs.Rows.{Field, fields_of, over}
use Rattle.state_table.specs.declared.Access.{Access}
use Rattle.state_table.specs.declared.Access.TheVariants.{Reserved, Fixed, Status, Flag, Stored, Setting, Mask, Counted, Pin, Acts}
use Rattle.report_registers.specs.Reads.{flag_register, flag_byte, read_of}

-- the byte of a flag register is what is read there
abbrev pub FlagsAsRead : Type 0
FlagsAsRead = (s : State) (address : ℕ) → flag_register s.profile address ≡ true → flag_byte s.profile address s.flags ≡ read_of s address

abbrev pub is_flag : Access → Bool
is_flag Reserved = false
is_flag (Fixed value) = false
is_flag (Status number) = false
is_flag (Flag first count) = true
is_flag Stored = false
is_flag (Setting number step) = false
is_flag (Mask first count) = false
is_flag Counted = false
is_flag (Pin number) = false
is_flag (Acts number) = false

-- and the flag registers are those of the table's fields of flags
abbrev pub FlagRegisters : Type 0
FlagRegisters = (p : Profile) (address : ℕ) → over (λ (f : Field). eqb f.address address) (λ (some : Bool) (f : Field). some || is_flag f.access) (fields_of p) false ≡ flag_register p address
