-- What `width` and the loop of `page` ask: a page's lines are pieces, each a line's text.
use Rattle.std.proofs.Common.{◌≡◌, refl, sym, ap, ◌∙◌, ℕ, ◌*◌, ◌≤◌, ◌<◌, min, List, [], ◌∷◌, ◌++◌, length, take, take_all, sum_by, arith, length-append}
use Rattle.std.proofs.lemmas.List.Sums.{sum_by-cons}
use native.Mathlib.Decide.{dec_lt}
use Rattle.base.proofs.Pieces.{joined, each}
use Rattle.report_text.specs.Text.{line_text, most_line}
use Rattle.report_state.specs.declared.line.Line.{Line}
use Rattle.report_pages.specs.Text.{numbers_of, lines_text, page_count}

abbrev pub line_of : Line → List ℕ
line_of l = line_text (numbers_of l)

abbrev pub pieces : List Line → List (List ℕ)
pieces lines = each line_of lines

pub lines-joined : (ls : List Line) → joined (pieces ls) ≡ lines_text ls
unfolding lines_text
lines-joined [] = refl
lines-joined (l ∷ ls) = ap (λ t. line_of l ++ t) (lines-joined ls)

pub lines-sum : (ls : List Line) → sum_by (λ l. length (line_of l)) ls ≡ length (lines_text ls)
unfolding lines_text
lines-sum [] = refl
lines-sum (l ∷ ls) = simp length-append (omega (arith, sum_by-cons (λ l. length (line_of l)) l ls, lines-sum ls))

-- no line has more bytes than a line can have
pub lines-most : (ls : List Line) → sum_by (λ l. min (length (line_of l)) most_line) ls ≤ length ls * most_line
lines-most [] = omega arith
lines-most (l ∷ ls) = omega (arith, sum_by-cons (λ l. min (length (line_of l)) most_line) l ls, lines-most ls)

-- a page's first lines are as many as are asked for, as far as there are more
pub first-lines : (most count : ℕ) (lines : List Line) → count ≡ min most page_count → length lines ≡ page_count → take count lines ≡ take most lines
first-lines most count lines e l = go (dec_lt most page_count)
  where
    go : Dec (most < page_count) → take count lines ≡ take most lines
    go (yes h) = let same : count ≡ most = omega arith in ap (λ n. take n lines) same
    go (no h) = take_all count lines (omega arith) ∙ sym (take_all most lines (omega arith))

-- a line of zeros, past the end of a list
abbrev pub none : Line
none = record { number = 0; kind = 0; answer = 0; phase = 0; current = 0; voltage = 0; limit = 0; pulse = 0; flags = 0 }
