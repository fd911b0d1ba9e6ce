-- `put_one`: the byte stands after the number's text.
use native.Mathlib.Omega.{arith}
use mathlib.Core.Path.{ap, ◌∙◌}
use lib.ListN.{set}
use Rattle.report_text.specs.Decimal.{decimal}
use Rattle.report_text.proofs.Parts.{next-byte}
use Rattle.report_text.proofs.numbers.put_one.Goals as goal

pub returns : goal.returns
returns c =
    let p = c.put-digits in
    (omega (arith, p.ensures.0), ap (λ l. set l p.result c.args.next) p.ensures.1 ∙ next-byte (decimal c.args.n) c.args.out.now c.args.next p.result p.ensures.0 c.requires)
