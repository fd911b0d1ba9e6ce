-- What `runlog` prints, page by page: up to 16 lines, and the last line if the log ends behind them.
use Rattle.std.specs.Prelude.{ℕ, ◌+◌, ◌*◌, Bool, true, false, List, [], ◌∷◌, ◌++◌, Result, Ok, Err}
use Rattle.base.specs.Pick.{pick}
use Rattle.base.specs.Refusals.{refusal_number}
use Rattle.base.specs.declared.refusal.Refusal.{Refusal}
use Rattle.base.specs.Writing.{Wrote, written}
use Rattle.base.specs.Writing as writing
use Rattle.report_text.specs.Decimal.{most_digits}
use Rattle.report_text.specs.Text.{end_text, too_long, low32}
use Rattle.report_pages.specs.Text.{lines_text, most_page}
use Rattle.step_event.specs.Pages.{StopTold, full, end, unreadable, Passed, page_of}
use Rattle.step_event.specs.declared.walking.Walk.{Walk}
use Rattle.step_text.specs.Runs.{refused_text}
use Rattle.step_text.specs.declared.answer.Printed.{Printed}

-- "Last: `end`, records read, code (0 or 1-4), offset of the log's end or the unreadable record."
abbrev pub last_text : ℕ → ℕ → StopTold → List ℕ
last_text number place full = []
last_text number place end = end_text (number ∷ 0 ∷ low32 place ∷ [])
last_text number place (unreadable code start) = end_text (number ∷ code ∷ low32 start ∷ [])

abbrev pub is_over : StopTold → Bool
is_over full = false
is_over end = true
is_over (unreadable code start) = true

-- what is printed from a walk on: its text, the walk behind it, and whether nothing follows
pub record NextText : Type 0 where
  pub text : List ℕ
  pub walk : Walk
  pub over : Bool

abbrev pub passed_text : Passed → List ℕ
passed_text p = lines_text p.lines ++ last_text p.last.number p.last.place p.stop

abbrev pub text_of_page : Passed → NextText
text_of_page p = record { text = passed_text p; walk = p.last; over = is_over p.stop }

-- the next page; of an input that is too long there is one, with its only line
unfoldable pub next_text : List ℕ → Walk → NextText
next_text log w = pick (too_long log) (record { text = refused_text; walk = w; over = true }) (text_of_page (page_of 16 log w))

-- no text is longer: a page's lines, and the last line's word and three numbers
abbrev pub most_text : ℕ
most_text = most_page + (4 + 3 * (most_digits + 1))

-- What is answered, in the paper's numbers: how many bytes it has, the walk behind it and whether nothing follows; or a refusal's number and place.
pub data PrintTold : Type 0 where
  printed : ℕ → Walk → Bool → PrintTold
  refused : ℕ → ℕ → PrintTold

abbrev pub print_told : Result Printed Refusal → PrintTold
print_told (Ok p) = printed p.bytes p.walk p.over
print_told (Err r) = refused (refusal_number r) 0

-- 12 if it is longer than the room for it
abbrev pub told_by : Wrote → Walk → Bool → PrintTold
told_by (writing.wrote bytes) walk over = printed bytes walk over
told_by (writing.refused number place) walk over = refused number place

abbrev pub printed_in : NextText → List ℕ → PrintTold
printed_in t room = told_by (written t.text room) t.walk t.over
