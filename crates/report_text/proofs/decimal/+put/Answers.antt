-- `put`: a lone digit, or the last digit after the text of the tens.
use Prim.Native.Nat.{◌/◌}
use native.Mathlib.Omega.{arith}
use Rattle.report_text.proofs.Decimals.{one-long, one-longer, ten-at-most, digit-put, last-put}
use Rattle.report_text.proofs.decimal.+put.Goals as goal

pub bounds-out-0 : goal.bounds-out-0
bounds-out-0 t c = omega (arith, one-long c.args.n (omega arith))

pub returns-then-n-lt10 : goal.returns-then-n-lt10
returns-then-n-lt10 t c = (omega (arith, one-long c.args.n (omega arith)), digit-put c.args.n c.args.out.now c.requires (omega arith))

pub put-tens-requires : goal.put-tens-requires
put-tens-requires t c = (omega arith, omega (arith, one-longer c.args.n (omega arith)))

pub bounds-out-tens : goal.bounds-out-tens
bounds-out-tens t c = omega (arith, one-longer c.args.n (omega arith), c.put-tens.ensures.0, c.put-tens.auto.out)

pub overflow_add-result : goal.overflow_add-result
overflow_add-result t c = omega (arith, c.put-tens.ensures.0, ten-at-most (c.args.n / 10) (omega arith))

pub returns : goal.returns
returns t c =
    let p = c.put-tens in
    (omega (arith, p.ensures.0, one-longer c.args.n (omega arith)), last-put c.args.n c.args.out.now c.requires (omega arith) p.result p.new.out p.ensures.0 p.ensures.1)
