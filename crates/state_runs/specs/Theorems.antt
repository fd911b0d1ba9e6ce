-- What is proved of the table's sixteen-bit registers.
use Rattle.std.specs.Prelude.{ℕ, ◌%◌, ◌≡◌, ◌&&◌, ◌||◌, leb, eqb}
use Rattle.state_parts.specs.declared.profile.Profile.{Profile}
use Rattle.state_runs.specs.Runs.{in_middle}

-- "sixteen bits at 00 02 04 06 08 0A 0C 24": the addresses in a register's middle are the next ones
abbrev pub MiddlesListed : Type 0
MiddlesListed = (p : Profile) (address : ℕ) → in_middle p address ≡ ((leb address 0x0D && eqb (address % 2) 1) || eqb address 0x25)
