-- 01, "Two logs, one program, one host": what `runlog` prints of its input.
use Rattle.std.specs.Prelude.{ℕ, List, [], ◌∷◌, ◌++◌}
use Rattle.base.specs.Pick.{pick}
use Rattle.report_text.specs.Text.{end_text, too_long}
use Rattle.report_pages.specs.Text.{lines_text}
use Rattle.step_event.specs.Pages.{whole_of, end_of}

-- "For 13 it prints only `end 0 13 0`."
abbrev pub refused_text : List ℕ
refused_text = end_text (0 ∷ 13 ∷ 0 ∷ [])

-- "each record gives: number, kind, answer (0 or refusal), phase, current, voltage, input limit, pulse, flags". "Last: `end`, records read, code (0 or 1-4), offset of the
-- log's end or the unreadable record."
unfoldable pub run_text : List ℕ → List ℕ
run_text input = pick (too_long input) refused_text (lines_text (whole_of input).lines ++ end_text (end_of input))
