-- Pages one after the other are the whole of what is printed.
use Prim.Native.Nat.{ℕ, zero, suc, ◌+◌, ◌*◌, ◌≤◌}
use mathlib.Core.Path.{◌≡◌, refl, sym, ap, ◌∙◌}
use mathlib.Core.Bool.{Bool, true, false}
use mathlib.Core.Logic.{◌≢◌}
use mathlib.Core.List.{List, [], ◌∷◌, ◌++◌, append-nil, append_assoc}
use native.Mathlib.Omega.{arith}
use native.Mathlib.Nat.{suc-add}
use lib.ListN.{length}
use borrow.Author.Tests.{le-ltb, ltb-false}
use Rattle.log_number.specs.Promises.{Bytes}
use Rattle.report_state.specs.declared.line.Line.{Line}
use Rattle.report_text.specs.Text.{too_long}
use Rattle.report_pages.specs.Text.{lines_text}
use Rattle.step_event.specs.Walks.{WalkTold, met, unreadable, end, walk_of, start_walk}
use Rattle.step_event.specs.Pages.{StopTold, Passed, passed_by, page_of, whole_of}
use Rattle.step_event.specs.Pages as page
use Rattle.step_event.specs.Wholes.{behind}
use Rattle.step_event.specs.Rests.{ended_by, ended_of}
use Rattle.step_event.specs.declared.walking.Walk.{Walk}
use Rattle.step_event.proofs.Joining.{pages-join}
use Rattle.step_event.proofs.Moves.{rest-ends, enough-pages}
use Rattle.step_event.proofs.Resting.{same_end, last-line}
use Rattle.step_text.specs.Runs.{refused_text, run_text}
use Rattle.step_text.specs.Prints.{is_over, NextText, text_of_page, next_text}
use Rattle.step_text.specs.Promises.{followed_by, until_over, RunPrints, ReplayAgrees}
use Rattle.step_text.proofs.Places.{within, last-is}

-- ---- a page that isn't full has no more records
same_first : (first more : ℕ) (bytes : List ℕ) (w : Walk) → ((v : Walk) → (page_of first bytes v).stop ≢ page.full → page_of (first + more) bytes v ≡ page_of first bytes v)
    → (x : WalkTold) → (passed_by w x (λ v. page_of first bytes v)).stop ≢ page.full → passed_by w x (λ v. page_of (first + more) bytes v) ≡ passed_by w x (λ v. page_of first bytes v)
same_first first more bytes w ih (met m) h = ap (λ (p : Passed). behind (m.line ∷ []) p) (ih m.walk h)
same_first first more bytes w ih (unreadable n p m) h = refl
same_first first more bytes w ih end h = refl

no_more : (first more : ℕ) (bytes : List ℕ) (w : Walk) → (page_of first bytes w).stop ≢ page.full → page_of (first + more) bytes w ≡ page_of first bytes w
unfolding page_of
no_more zero more bytes w h = absurd (h refl)
no_more (suc first) more bytes w h = rw suc-add (same_first first more bytes w (λ v k. no_more first more bytes v k) (walk_of bytes w) h)

-- ---- the texts of lines one after the other
lines-append : (ls ms : List Line) → lines_text (ls ++ ms) ≡ lines_text ls ++ lines_text ms
unfolding lines_text
lines-append [] ms = refl
lines-append (l ∷ ls) ms = rw (lines-append ls ms, append_assoc)

module _ (bytes : List ℕ) (short : too_long bytes ≡ false) where
  next-is : (w : Walk) → next_text bytes w ≡ text_of_page (page_of 16 bytes w)
  unfolding next_text
  next-is w = rw short

  -- a page, and the pages behind it
  joined : (most : ℕ) (w : Walk) → ((v : Walk) → until_over most bytes v ≡ text_of_page (page_of (most * 16) bytes v)) → (s : StopTold) → (page_of 16 bytes w).stop ≡ s
      → followed_by (text_of_page (page_of 16 bytes w)) (λ v. until_over most bytes v) ≡ text_of_page (page_of (16 + most * 16) bytes w)
  joined most w ih page.full is =
      let here = pages-join 16 (most * 16) bytes w is in
      rw (here, is, append-nil, ih (page_of 16 bytes w).last, lines-append (page_of 16 bytes w).lines (page_of (most * 16) bytes (page_of 16 bytes w).last).lines, append_assoc)
  joined most w ih page.end is =
      let here = no_more 16 (most * 16) bytes w (λ f. let z : ◌≡◌ {A = ℕ} 0 1 = cc in omega arith) in
      rw (here, is)
  joined most w ih (page.unreadable n p) is =
      let here = no_more 16 (most * 16) bytes w (λ f. let z : ◌≡◌ {A = ℕ} 0 1 = cc in omega arith) in
      rw (here, is)

  none : (w : Walk) → until_over zero bytes w ≡ text_of_page (page_of zero bytes w)
  unfolding until_over page_of lines_text
  none w = refl

  one-more : (most : ℕ) (w : Walk) → ((v : Walk) → until_over most bytes v ≡ text_of_page (page_of (most * 16) bytes v)) → until_over (suc most) bytes w ≡ text_of_page (page_of (suc most * 16) bytes w)
  unfolding until_over
  one-more most w ih =
      let count : 16 + most * 16 ≡ suc most * 16 = omega arith in
      ap (λ (t : NextText). followed_by t (λ v. until_over most bytes v)) (next-is w) ∙ joined most w ih (page_of 16 bytes w).stop refl ∙ ap (λ n. text_of_page (page_of n bytes w)) count

  pages-are : (most : ℕ) (w : Walk) → until_over most bytes w ≡ text_of_page (page_of (most * 16) bytes w)
  pages-are zero w = none w
  pages-are (suc most) w = one-more most w (λ v. pages-are most v)

  -- 4,097 of them are the whole
  module _ (bs : Bytes bytes) where
    few : length bytes ≤ 65536
    few = ltb-false 65536 (length bytes) short

    ended : (whole_of bytes).stop ≢ page.full
    unfolding whole_of
    ended = rest-ends bytes bs start_walk

    pub all_are : until_over 4097 bytes start_walk ≡ text_of_page (whole_of bytes)
    unfolding whole_of
    all_are = pages-are 4097 start_walk ∙ ap text_of_page (same_end (4097 * 16) (suc (length bytes)) bytes start_walk (enough-pages bytes bs few start_walk) (rest-ends bytes bs start_walk))

    pub text-is : (text_of_page (whole_of bytes)).text ≡ run_text bytes
    unfolding whole_of run_text start_walk
    text-is = rw short (ap (λ t. lines_text (whole_of bytes).lines ++ t) (last-is (length bytes) few (whole_of bytes) (within bytes bs (suc (length bytes)) start_walk (omega arith)) ended))

    pub over-is : (text_of_page (whole_of bytes)).over ≡ true
    over-is = go (whole_of bytes).stop ended
      where
        go : (s : StopTold) → s ≢ page.full → is_over s ≡ true
        go page.full h = absurd (h refl)
        go page.end h = refl
        go (page.unreadable n p) h = refl

-- an input that is too long
long-pages : (most : ℕ) (bytes : List ℕ) (w : Walk) → too_long bytes ≡ true → until_over (suc most) bytes w ≡ record { text = refused_text; walk = w; over = true }
unfolding until_over next_text
long-pages most bytes w long = rw long

long-text : (bytes : List ℕ) → too_long bytes ≡ true → refused_text ≡ run_text bytes
unfolding run_text
long-text bytes long = rw long

pub run-prints : RunPrints
run-prints bytes bs = go (too_long bytes) refl
  where
    go : (t : Bool) → too_long bytes ≡ t → ((until_over 4097 bytes start_walk).text ≡ run_text bytes) × ((until_over 4097 bytes start_walk).over ≡ true)
    go true long = let all = long-pages 4096 bytes start_walk long in (ap (λ (t : NextText). t.text) all ∙ long-text bytes long, ap (λ (t : NextText). t.over) all)
    go false short =
        let all = all_are bytes short bs in
        (ap (λ (t : NextText). t.text) all ∙ text-is bytes short bs, ap (λ (t : NextText). t.over) all ∙ over-is bytes short bs)

-- `ended_of` keeps the walk
same-walk : (w : Walk) (s : StopTold) → (ended_by w s).walk ≡ w
same-walk w page.full = refl
same-walk w page.end = refl
same-walk w (page.unreadable n p) = refl

pub replay-agrees : ReplayAgrees
unfolding ended_of whole_of run_text
replay-agrees bytes bs few =
    let short : too_long bytes ≡ false = le-ltb 65536 (length bytes) few in
    (rw (short, last-line bytes), ap (λ (t : NextText). t.walk) (all_are bytes short bs) ∙ sym (same-walk (whole_of bytes).last (whole_of bytes).stop))

-- ---- what a loop over pages asks
-- a page that something follows leaves one page less
pub goes_on : (most : ℕ) (bytes : List ℕ) (w : Walk) → (next_text bytes w).over ≡ false → (until_over (suc most) bytes w).over ≡ true → (until_over most bytes (next_text bytes w).walk).over ≡ true
unfolding until_over
goes_on most bytes w more h = rw more at h

-- and the last is printed before none are left
pub not_none : (bytes : List ℕ) (w : Walk) → (until_over 0 bytes w).over ≡ true → ⊥
unfolding until_over
not_none bytes w h = let z : ◌≡◌ {A = ℕ} 0 1 = cc in omega arith
