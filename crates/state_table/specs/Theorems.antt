-- What is proved of the table, by tests that the checker computes over it.
use Rattle.std.specs.Prelude.{ℕ, ◌+◌, ◌*◌, ◌^◌, ◌<◌, ◌≡◌, ◌&&◌, List, [], ◌∷◌, leb, ltb}
use Rattle.base.specs.Pick.{bit_of}
use Rattle.state_table.specs.Rows.{Field, fields, map_size}
use Rattle.state_table.specs.Rows as rows
use Rattle.state_table.specs.Packed.{field_at}

-- how many fields have this bit of the map
abbrev pub fields_with : List Field → ℕ → ℕ
fields_with [] bit = 0
fields_with (f ∷ fs) bit = bit_of (leb (rows.bit_of f) bit && ltb bit (rows.bit_of f + f.width)) + fields_with fs bit

-- every bit of every address has exactly one row
abbrev pub OneRow : Type 0
OneRow = (bit : ℕ) → bit < map_size * 8 → fields_with fields bit ≡ 1

-- every reset fits its field
abbrev pub ResetsFit : Type 0
ResetsFit = (number : ℕ) → (field_at number).reset < 2 ^ (field_at number).width
