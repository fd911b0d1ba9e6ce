-- `page`: the lines as pieces, one after the other.
use Rattle.std.proofs.Common.{◌≡◌, ap, ◌∙◌, ℕ, ◌-◌, ◌≤◌, ◌<◌, List, length, get_or, take, drop, Result, Ok, Err, arith}
use lib.Seq.{sets}
use Rattle.base.specs.Writing.{wrote, written, written_told}
use Rattle.base.specs.declared.refusal.Refusal.{Refusal}
use Rattle.base.proofs.Puts.{put-fits, put-short, written-fits, written-short}
use Rattle.base.proofs.Pieces.{Turn, first-turn, More, more, done, each_long, each_at}
use Rattle.report_text.specs.Text.{line_text}
use Rattle.report_state.specs.declared.line.Line.{Line}
use Rattle.report_pages.specs.Text.{numbers_of, lines_text, page_text}
use Rattle.report_pages.proofs.Writing.{line_of, pieces, lines-joined, none}
use Rattle.report_pages.proofs.page.Goals as goal

-- a page's text is that of its first lines
text-of : (most : ℕ) (lines ls : List Line) → ls ≡ take most lines → lines_text ls ≡ page_text most lines
unfolding page_text
text-of most lines ls e = ap lines_text e

-- ---- in a turn, where `out` is what the loop has, and `first` what it began with
module _ (ls : List Line) (first out : List ℕ) (at i : ℕ) (turn : Turn (pieces ls) first 0 out at i) (inside : i < length ls) where
  -- the next line
  abbrev next : List ℕ
  next = line_of (get_or ls i none)

  one : More turn next
  one = more turn (rw (each_long line_of ls) inside) next (each_at line_of ls none i inside)

  -- what the call of `text::line` did: the line is written whole
  put_whole : (numbers : List ℕ) (r : Result ℕ Refusal) → numbers ≡ numbers_of (get_or ls i none) → written_told r ≡ written (line_text numbers) (take (length out - at) (drop at out)) → written_told r ≡ wrote (length next)
  put_whole numbers r e h = one.whole (written_told r) (rw e at h)

-- no line is refused: its room was counted before
never : (r : Result ℕ Refusal) (k : ℕ) (why : Refusal) → written_told r ≡ wrote k → r ≡ Err why → ⊥
never r k why o e =
    let t = ap written_told e in
    let z : ◌≡◌ {A = ℕ} 0 1 = cc (o, t) in
    omega arith

-- how many bytes the line took
took : (r : Result ℕ Refusal) (k n : ℕ) → written_told r ≡ wrote k → r ≡ Ok n → k ≡ n
took r k n o e = let t = ap written_told e in cc (o, t)

pub returns-then-out-width : goal.returns-then-out-width
returns-then-out-width c =
    let a = c.args in
    let text = text-of a.most a.lines c.first-lines.result.now c.first-lines.ensures.0 in
    let long = ap length text in
    let short : length a.out.now < length (page_text a.most a.lines) = omega (arith, long, c.width.ensures.0) in
    (written-short (page_text a.most a.lines) a.out.now short, put-short (page_text a.most a.lines) a.out.now short, omega (arith, long, c.width.ensures.0, c.width.ensures.1))

pub loop-line-init : goal.loop-line-init
loop-line-init c = first-turn _ _ 0 (omega (arith, ap length (lines-joined c.first-lines.result.now), c.width.ensures.0))

pub returns-in_err-bytes : goal.returns-in_err-bytes
returns-in_err-bytes c =
    let l = c.loop-line in
    absurd (never _ _ _ (put_whole _ _ _ _ _ l.invariant c.loop-line-test.true _ _ c.numbers_of.ensures c.line.ensures.0) c.in_err-bytes.was)

pub overflow_add-at : goal.overflow_add-at
overflow_add-at c =
    let l = c.loop-line in
    let long = took _ _ _ (put_whole _ _ _ _ _ l.invariant c.loop-line-test.true _ _ c.numbers_of.ensures c.line.ensures.0) c.in_ok-bytes.was in
    let room = one _ _ _ _ _ l.invariant c.loop-line-test.true in
    omega (arith, long, room.fits, l.invariant.long)

pub loop-line-preserved : goal.loop-line-preserved
loop-line-preserved c =
    let l = c.loop-line in
    let long = took _ _ _ (put_whole _ _ _ _ _ l.invariant c.loop-line-test.true _ _ c.numbers_of.ensures c.line.ensures.0) c.in_ok-bytes.was in
    (one _ _ _ _ _ l.invariant c.loop-line-test.true).next c.line.new.out _ (rw c.numbers_of.ensures at c.line.ensures.1) long

pub returns : goal.returns
returns c =
    let a = c.args in
    let ls = c.first-lines.result.now in
    let text = lines-joined ls ∙ text-of a.most a.lines ls c.first-lines.ensures.0 in
    let long = ap length text in
    let all = done c.loop-line.invariant (rw (each_long line_of ls) (omega (arith, c.loop-line-test.false))) in
    let enough : length (page_text a.most a.lines) ≤ length a.out.now = omega (arith, long, c.loop-line.invariant.room) in
    let bytes : c.loop-line.at ≡ length (page_text a.most a.lines) = omega (arith, all.place, long) in (
      ap wrote bytes ∙ written-fits (page_text a.most a.lines) a.out.now enough,
      all.same ∙ ap (λ t. sets a.out.now 0 t) text ∙ put-fits (page_text a.most a.lines) a.out.now enough,
      omega (arith, long, ap length (lines-joined ls), c.width.ensures.0, c.width.ensures.1),
    )
