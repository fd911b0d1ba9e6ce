-- 01's example, byte by byte, and the ends of the range.
use mathlib.Core.Path.{◌≡◌, refl}
use mathlib.Core.List.{[], ◌∷◌}
use Rattle.report_text.specs.Decimal.{decimal_by, decimal}
use Rattle.report_text.specs.Text.{line_text, headed_text, end_text}

-- "1 1 0 0 0 0 3300 1 32"
pub first-line : line_text (1 ∷ 1 ∷ 0 ∷ 0 ∷ 0 ∷ 0 ∷ 3300 ∷ 1 ∷ 32 ∷ []) ≡ 49 ∷ 32 ∷ 49 ∷ 32 ∷ 48 ∷ 32 ∷ 48 ∷ 32 ∷ 48 ∷ 32 ∷ 48 ∷ 32 ∷ 51 ∷ 51 ∷ 48 ∷ 48 ∷ 32 ∷ 49 ∷ 32 ∷ 51 ∷ 50 ∷ 10 ∷ []
unfolding line_text decimal decimal_by
first-line = refl

-- "2 5 0 3 1500 8400 3300 1 97"
pub second-line : line_text (2 ∷ 5 ∷ 0 ∷ 3 ∷ 1500 ∷ 8400 ∷ 3300 ∷ 1 ∷ 97 ∷ []) ≡ 50 ∷ 32 ∷ 53 ∷ 32 ∷ 48 ∷ 32 ∷ 51 ∷ 32 ∷ 49 ∷ 53 ∷ 48 ∷ 48 ∷ 32 ∷ 56 ∷ 52 ∷ 48 ∷ 48 ∷ 32 ∷ 51 ∷ 51 ∷ 48 ∷ 48 ∷ 32 ∷ 49 ∷ 32 ∷ 57 ∷ 55 ∷ 10 ∷ []
unfolding line_text decimal decimal_by
second-line = refl

-- "end 2 0 28"
pub last-line : end_text (2 ∷ 0 ∷ 28 ∷ []) ≡ 101 ∷ 110 ∷ 100 ∷ 32 ∷ 50 ∷ 32 ∷ 48 ∷ 32 ∷ 50 ∷ 56 ∷ 10 ∷ []
unfolding end_text headed_text line_text decimal decimal_by
last-line = refl

-- "For 13 it prints only `end 0 13 0`."
pub too-long : end_text (0 ∷ 13 ∷ 0 ∷ []) ≡ 101 ∷ 110 ∷ 100 ∷ 32 ∷ 48 ∷ 32 ∷ 49 ∷ 51 ∷ 32 ∷ 48 ∷ 10 ∷ []
unfolding end_text headed_text line_text decimal decimal_by
too-long = refl

-- the largest number that is printed
pub largest : decimal 4294967295 ≡ 52 ∷ 50 ∷ 57 ∷ 52 ∷ 57 ∷ 54 ∷ 55 ∷ 50 ∷ 57 ∷ 53 ∷ []
unfolding decimal decimal_by
largest = refl
