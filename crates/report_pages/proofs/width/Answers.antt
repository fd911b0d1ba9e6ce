-- `width`: the lines' bytes, summed; no line has more than a line can have.
use Rattle.std.proofs.Common.{◌≡◌, length, min, sum_by, rules, arith, ◌∙◌}
use Rattle.report_text.specs.Text.{most_line}
use Rattle.report_pages.proofs.Writing.{line_of, lines-sum, lines-most}
use Rattle.report_pages.proofs.width.Goals as goal

pub returns : goal.returns
returns c =
    let ls = c.args.lines.now in
    let sum : c.sum.result ≡ sum_by (λ l. length (line_of l)) ls = search rules in
    let least : c.sum.result ≡ sum_by (λ l. min (length (line_of l)) most_line) ls = search rules in
    (sum ∙ lines-sum ls, omega (arith, least, lines-most ls))
