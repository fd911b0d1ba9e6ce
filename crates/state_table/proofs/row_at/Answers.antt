-- `row_at`: the row of the field at its place.
use Rattle.state_table.proofs.Listed.{placed}
use Rattle.state_table.proofs.row_at.Goals as goal

pub returns : goal.returns
returns c = placed c.args.number
