-- `width`: a number's digits and the byte after it, summed over the line.
use Rattle.std.proofs.Common.{◌≡◌, ◌+◌, length, sum_by, rules, arith, ◌∙◌}
use Rattle.report_text.specs.Decimal.{decimal}
use Rattle.report_text.proofs.Sizes.{line-sum, line-at-most}
use Rattle.report_text.proofs.numbers.width.Goals as goal

pub returns : goal.returns
returns c =
    let ns = c.args.numbers.now in
    let sum : c.sum.result ≡ sum_by (λ n. length (decimal n) + 1) ns = search rules in
    (sum ∙ line-sum ns, omega (arith, sum, line-sum ns, line-at-most ns (λ i. omega (arith, c.type_inv.numbers i))))
