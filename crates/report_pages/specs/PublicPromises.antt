-- What the calls that write a page promise, and that each promise allows one outcome.
use Rattle.std.specs.Prelude.{ℕ, ◌≤◌, ◌≡◌, List, length, Result}
use Rattle.base.specs.Outcomes.{One, OfTwo}
use Rattle.base.specs.Writing.{written_told, written, put}
use Rattle.base.specs.declared.refusal.Refusal.{Refusal}
use Rattle.report_state.specs.declared.line.Line.{Line}
use Rattle.report_pages.specs.Text.{most_page, page_text}

abbrev pub PageWidthPromise : ℕ → List Line → ℕ → Type 0
PageWidthPromise most lines r = (r ≡ length (page_text most lines)) × (r ≤ most_page)

-- as every writer's, with the most bytes that a page's text has
abbrev pub PagePromise : ℕ → List Line → List ℕ → Result ℕ Refusal → List ℕ → Type 0
PagePromise most lines part r after =
    (written_told r ≡ written (page_text most lines) part) × (after ≡ put (page_text most lines) part) × (length (page_text most lines) ≤ most_page)

-- "equal inputs allow one outcome"
pub record OneOutcome : Type 0 where
  pub page-width : (most : ℕ) (lines : List Line) → One (PageWidthPromise most lines)
  pub page : (most : ℕ) (lines : List Line) (part : List ℕ) → One (OfTwo (PagePromise most lines part))
