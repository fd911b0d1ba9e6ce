-- `width` ends: a number's tens are fewer.
use Rattle.report_text.proofs.decimal.+width.Given as goal

abbrev pub decreases-width : goal.decreases-width
decreases-width l = l.n
