-- 01: "each record gives: number, kind, answer (0 or refusal), phase, current, voltage, input limit, pulse, flags, in decimal, one space apart."
use Rattle.std.specs.Prelude.{ℕ, ◌*◌, List, [], ◌∷◌, ◌++◌, take}
use Rattle.report_text.specs.Text.{line_text, most_line}
use Rattle.report_state.specs.declared.line.Line.{Line}

unfoldable pub numbers_of : Line → List ℕ
numbers_of l = l.number ∷ l.kind ∷ l.answer ∷ l.phase ∷ l.current ∷ l.voltage ∷ l.limit ∷ l.pulse ∷ l.flags ∷ []

unfoldable pub lines_text : List Line → List ℕ
lines_text [] = []
lines_text (l ∷ ls) = line_text (numbers_of l) ++ lines_text ls

-- how many lines a page has room for
abbrev pub page_count : ℕ
page_count = 16

-- the most bytes of a page
abbrev pub most_page : ℕ
most_page = page_count * most_line

-- a page's first lines
unfoldable pub page_text : ℕ → List Line → List ℕ
page_text most lines = lines_text (take most lines)
