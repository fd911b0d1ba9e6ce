-- `width`: a digit more than the tens have, and ten digits at the most.
use Rattle.std.proofs.Common.{arith}
use Rattle.report_text.proofs.Decimals.{one-long, one-longer, ten-at-most}
use Rattle.report_text.proofs.decimal.+width.Goals as goal

pub returns-then-n-lt10 : goal.returns-then-n-lt10
returns-then-n-lt10 t c = omega (arith, one-long c.args.n (omega arith))

pub returns-else-n-lt10 : goal.returns-else-n-lt10
returns-else-n-lt10 t c = omega (arith, one-longer c.args.n (omega arith), ten-at-most c.args.n (omega arith))
