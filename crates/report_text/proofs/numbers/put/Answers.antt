-- `put` meets its contract: the line's pieces, one after the other.
use Prim.Native.Nat.{ℕ, ◌+◌, ◌-◌, ◌≤◌, ◌<◌}
use mathlib.Core.Path.{◌≡◌, sym, ap, ◌∙◌}
use mathlib.Core.List.{List, [], ◌∷◌, ◌++◌}
use native.Mathlib.Omega.{arith}
use lib.ListN.{length, take, drop, get_or, length-append, length-take, length-drop}
use Rattle.base.proofs.Pieces.{joined, Turn, first-turn, More, more, done}
use Rattle.report_text.specs.Decimal.{decimal}
use Rattle.report_text.specs.Text.{byte_after}
use Rattle.report_text.specs.Writing.{over}
use Rattle.report_text.proofs.Parts.{stores}
use Rattle.report_text.proofs.Outcomes.{with-room}
use Rattle.report_text.proofs.Turns.{words, words_long, word, word_at, line-joined, after_is}
use Rattle.report_text.proofs.numbers.put.Goals as goal

-- a turn: `out` is what the loop has, `first` what it began with
module _ (numbers first out : List ℕ) (at i : ℕ) (turn : Turn (words numbers) first 0 out at i) (inside : i < length numbers) where
  -- the next number's text and the byte after it
  one : More turn (word numbers i)
  one = more turn (rw (words_long numbers) (omega arith)) (word numbers i) (word_at numbers i (omega arith))

  -- what a turn writes fits
  room : (at + (length (decimal (get_or numbers i 0)) + 1) ≤ length out) × (length out ≡ length first)
  room = (omega (arith, one.fits, length-append (decimal (get_or numbers i 0)) (byte_after (drop (i + 1) numbers) ∷ [])), turn.long)

pub loop-i-init : goal.loop-i-init
loop-i-init c = first-turn _ _ 0 (omega (arith, c.requires, ap length (line-joined c.args.numbers.now)))

pub put_one-at-requires : goal.put_one-at-requires
put_one-at-requires c = simp (length-take, length-drop) (omega (arith, room _ _ _ _ _ c.loop-i.invariant c.loop-i-test.true))

pub overflow_add-at : goal.overflow_add-at
overflow_add-at c = omega (arith, c.put_one-at.ensures.0, room _ _ _ _ _ c.loop-i.invariant c.loop-i-test.true)

pub loop-i-preserved : goal.loop-i-preserved
loop-i-preserved c =
    let ns = c.args.numbers.now in
    let i = c.loop-i.i in
    let p = c.put_one-at in
    let rest : List ℕ = take (length c.loop-i.out - c.loop-i.at) (drop c.loop-i.at c.loop-i.out) in
    let long : length (word ns i) ≡ p.result = length-append (decimal (get_or ns i 0)) (byte_after (drop (i + 1) ns) ∷ []) ∙ sym p.ensures.0 in
    let has : length (word ns i) ≤ length rest = rw long (simp (length-take, length-drop) (omega (arith, room _ _ _ _ _ c.loop-i.invariant c.loop-i-test.true, p.ensures.0))) in
    let put_is = p.ensures.1 ∙ ap (λ b. over (decimal (get_or ns i 0) ++ (b ∷ [])) rest) (c.after.ensures ∙ after_is ns i (omega arith)) in
    (one _ _ _ _ _ c.loop-i.invariant c.loop-i-test.true).next p.new.out p.result (with-room (word ns i) rest has p.result p.new.out (sym long) put_is).1 long

pub returns : goal.returns
returns c =
    let ns = c.args.numbers.now in
    (done c.loop-i.invariant (rw (words_long ns) (omega arith))).same
    ∙ stores (joined (words ns)) c.args.out.now (omega (arith, c.loop-i.invariant.room))
    ∙ ap (λ t. over t c.args.out.now) (line-joined ns)
