-- What is promised of a program that prints pages until one is the last: the types of the theorems that proofs/ proves.
use Rattle.std.specs.Prelude.{ℕ, zero, suc, ◌≤◌, ◌≡◌, true, false, List, [], ◌∷◌, ◌++◌, length}
use Rattle.base.specs.Pick.{pick}
use Rattle.log_number.specs.Promises.{Bytes}
use Rattle.report_text.specs.Text.{end_text}
use Rattle.report_pages.specs.Text.{lines_text}
use Rattle.step_event.specs.Walks.{start_walk}
use Rattle.step_event.specs.Pages.{whole_of}
use Rattle.step_event.specs.Rests.{ended_of}
use Rattle.step_event.specs.declared.walking.Walk.{Walk}
use Rattle.step_text.specs.Runs.{run_text}
use Rattle.step_text.specs.Prints.{NextText, next_text}

-- a page's text, and what is printed from the walk behind it on, unless nothing follows
abbrev pub followed_by : NextText → (Walk → NextText) → NextText
followed_by t more = pick t.over t (record { text = t.text ++ (more t.walk).text; walk = (more t.walk).walk; over = (more t.walk).over })

-- the loop of `runlog`: pages one after the other, at most so many
unfoldable pub until_over : ℕ → List ℕ → Walk → NextText
until_over zero log w = record { text = []; walk = w; over = false }
until_over (suc most) log w = followed_by (next_text log w) (λ v. until_over most log v)

-- of every input, 4,097 pages are its whole text, and nothing follows the last of them
abbrev pub RunPrints : Type 0
RunPrints = (input : List ℕ) → Bytes input → ((until_over 4097 input start_walk).text ≡ run_text input) × ((until_over 4097 input start_walk).over ≡ true)

-- `replay` of the same log comes to the numbers of the last line, and to the walk and the model behind it
abbrev pub ReplayAgrees : Type 0
ReplayAgrees = (input : List ℕ) → Bytes input → length input ≤ 65536
    → (run_text input ≡ lines_text (whole_of input).lines ++ end_text ((ended_of input start_walk).walk.number ∷ (ended_of input start_walk).code ∷ (ended_of input start_walk).place ∷ []))
    × ((until_over 4097 input start_walk).walk ≡ (ended_of input start_walk).walk)
