-- `field_at`: the bits at the row's place.
use Prim.Native.Nat.{◌+◌, ◌*◌, ◌/◌, ◌%◌}
use native.Mathlib.Omega.{arith}
use Rattle.state_table.proofs.Parts.{fits_row}
use Rattle.state_fields.specs.Words.{word_at}
use Rattle.state_fields.proofs.Puts.{bits-under}
use Rattle.state_fields.proofs.codes.field_at.Goals as goal

pub overflow_mul-row : goal.overflow_mul-row
overflow_mul-row c = let f = fits_row c.row_at-row.result c.args.number c.row_at-row.ensures in record { fits = omega arith }

pub overflow_add-row : goal.overflow_add-row
overflow_add-row c = let f = fits_row c.row_at-row.result c.args.number c.row_at-row.ensures in record { fits = omega arith }

pub get-requires : goal.get-requires
get-requires c = let f = fits_row c.row_at-row.result c.args.number c.row_at-row.ensures in omega arith

pub overflow_cast-result : goal.overflow_cast-result
overflow_cast-result c =
    let r = c.row_at-row in
    let f = fits_row r.result c.args.number r.ensures in
    let at = r.result.address * 8 + r.result.low in
    record { fits = rw c.get.ensures (bits-under (at % 64) r.result.width (word_at c.args.w (at / 64)) 32 (omega arith)) }
