-- The table as the code has it: a row for each field, by its place.
use Rattle.std.specs.Prelude.{◌≡◌, ◌≤◌, ℕ, ◌*◌, ◌+◌, ◌%◌, leb, eqb, ltb, get_or, Bool, true, false, ◌&&◌, List, [], ◌∷◌}
use Rattle.base.specs.Pick.{pick}
use Rattle.state_parts.specs.declared.profile.Profile.{Profile}
use Rattle.state_table.specs.Rows.{Field, row, fields, fields_of, bit_of}
use Rattle.state_table.specs.declared.Access.{Access}
use Rattle.state_table.specs.declared.Access.TheVariants.{Reserved, Fixed, Status, Flag, Stored, Setting, Mask, Counted, Pin, Acts}
use Rattle.state_table.specs.declared.Row.{Row}

-- the kind of an access, and the numbers that it carries
abbrev pub kind_of : Access → ℕ
kind_of Reserved = 0
kind_of (Fixed value) = 1
kind_of (Status number) = 2
kind_of (Flag first count) = 3
kind_of Stored = 4
kind_of (Setting number step) = 5
kind_of (Mask first count) = 6
kind_of Counted = 7
kind_of (Pin number) = 8
kind_of (Acts number) = 9

abbrev pub first_of : Access → ℕ
first_of Reserved = 0
first_of (Fixed value) = value
first_of (Status number) = number
first_of (Flag first count) = first
first_of Stored = 0
first_of (Setting number step) = number
first_of (Mask first count) = first
first_of Counted = 0
first_of (Pin number) = number
first_of (Acts number) = number

abbrev pub second_of : Access → ℕ
second_of Reserved = 0
second_of (Fixed value) = 0
second_of (Status number) = 0
second_of (Flag first count) = count
second_of Stored = 0
second_of (Setting number step) = step
second_of (Mask first count) = count
second_of Counted = 0
second_of (Pin number) = 0
second_of (Acts number) = 0

-- what the code has of a field
abbrev pub row_of : Field → Row
row_of f = record { address = f.address; low = f.low; width = f.width; access = f.access }

-- the field of a number, counted from 0; the numbers go round
abbrev pub field_count : ℕ
field_count = 147

abbrev pub no_field : Field
no_field = row 0 0 0 Reserved 0 false

unfoldable pub field_at : ℕ → Field
field_at number = get_or fields (number % field_count) no_field

-- how many fields stand before the first one of an address
abbrev pub below : ℕ → List Field → ℕ
below address [] = 0
below address (f ∷ fs) = pick (ltb f.address address) (1 + below address fs) 0

-- "Sixteen-bit registers are little-endian": an address that no field has is the upper half of the register before it
abbrev pub upper_half : Profile → ℕ → Bool
upper_half p address = eqb (below address (fields_of p)) (below (address + 1) (fields_of p))

-- what the code needs of an access: a setting has a step, and flags and masks are bits of a number of 32
abbrev pub fits_access : Access → Bool
fits_access Reserved = true
fits_access (Fixed value) = true
fits_access (Status number) = true
fits_access (Flag first count) = leb (first + count) 31
fits_access Stored = true
fits_access (Setting number step) = leb 1 step
fits_access (Mask first count) = leb (first + count) 31
fits_access Counted = true
fits_access (Pin number) = true
fits_access (Acts number) = true

-- and of a field: one word holds it, and no number of its access is above 255
unfoldable pub fits : Field → Bool
fits f =
    leb f.address 38 && leb f.low 15 && leb f.width 16 && leb (bit_of f % 64 + f.width) 64 && leb (first_of f.access) 255
    && leb (second_of f.access) 255 && fits_access f.access

-- what the code needs of a row, and every row has
pub record FitsRow (r : Row) : Type 0 where
  pub address : r.address ≤ 38
  pub low : r.low ≤ 15
  pub width : r.width ≤ 16
  pub one_word : (r.address * 8 + r.low) % 64 + r.width ≤ 64
  pub second : second_of r.access ≤ 255
  pub access : fits_access r.access ≡ true
