-- What the calls that write a line promise, and that each promise allows one outcome.
use Rattle.std.specs.Prelude.{ℕ, ◌≤◌, ◌≡◌, List, length, Result}
use Rattle.base.specs.Outcomes.{One, OfTwo}
use Rattle.base.specs.Writing.{WritingPromise}
use Rattle.base.specs.declared.refusal.Refusal.{Refusal}
use Rattle.report_text.specs.Decimal.{decimal, most_digits}
use Rattle.report_text.specs.Text.{line_text, most_line, headed_text, end_text}

abbrev pub WidthPromise : ℕ → ℕ → Type 0
WidthPromise n r = (r ≡ length (decimal n)) × (r ≤ most_digits)

abbrev pub LineWidthPromise : List ℕ → ℕ → Type 0
LineWidthPromise numbers r = (r ≡ length (line_text numbers)) × (r ≤ most_line)

abbrev pub LinePromise : List ℕ → List ℕ → Result ℕ Refusal → List ℕ → Type 0
LinePromise numbers part r after = WritingPromise (line_text numbers) part r after

-- of `one` and of `three`: a word, and so many numbers
abbrev pub HeadedPromise : List ℕ → List ℕ → List ℕ → Result ℕ Refusal → List ℕ → Type 0
HeadedPromise word numbers part r after = WritingPromise (headed_text word numbers) part r after

abbrev pub EndPromise : List ℕ → List ℕ → Result ℕ Refusal → List ℕ → Type 0
EndPromise numbers part r after = WritingPromise (end_text numbers) part r after

-- "equal inputs allow one outcome"
pub record OneOutcome : Type 0 where
  pub width : (n : ℕ) → One (WidthPromise n)
  pub line-width : (numbers : List ℕ) → One (LineWidthPromise numbers)
  pub line : (numbers part : List ℕ) → One (OfTwo (LinePromise numbers part))
  pub headed : (word numbers part : List ℕ) → One (OfTwo (HeadedPromise word numbers part))
  pub end : (numbers part : List ℕ) → One (OfTwo (EndPromise numbers part))
