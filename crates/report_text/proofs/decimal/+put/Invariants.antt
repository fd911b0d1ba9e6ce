-- `put` ends: a number's tens are fewer.
use Rattle.report_text.proofs.decimal.+put.Given as goal

abbrev pub decreases-put : goal.decreases-put
decreases-put l = l.n
