-- The code's rows are the table's fields.
use Rattle.std.proofs.Common.{◌≡◌, ℕ, ◌%◌, refl, ap, ◌∙◌, List, map, get_or}
use Rattle.std.proofs.Math.ListN.{get_or-map}
use Rattle.state_table.specs.Rows.{fields}
use Rattle.state_table.specs.Packed.{row_of, no_field, field_at}
use Rattle.state_table.specs.declared.Row.{Row}
use Rattle.state_table.specs.declared.TheConstants.{ROWS}

pub listed : ROWS ≡ map row_of fields
unfolding fields
listed = refl

pub placed : (number : ℕ) → get_or ROWS (number % 147) (row_of no_field) ≡ row_of (field_at number)
unfolding field_at
placed number = ap (λ (rows : List Row). get_or rows (number % 147) (row_of no_field)) listed ∙ get_or-map row_of fields (number % 147) no_field
