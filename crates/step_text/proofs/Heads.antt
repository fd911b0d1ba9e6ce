-- A text behind the place of a head, and then the head: the two as one text, or 12 and no byte changed.
use Prim.Native.Nat.{ℕ, ◌+◌, ◌-◌, ◌≤◌}
use mathlib.Core.Path.{◌≡◌, refl, sym, ◌∙◌}
use mathlib.Core.List.{List, ◌++◌}
use native.Mathlib.Omega.{arith}
use lib.ListN.{length, take, drop, length-append}
use lib.Seq.{length-take-le}
use borrow.Rule.Slice.PartMut.{put_mid}
use Rattle.base.specs.Writing.{wrote, refused, written, put}
use Rattle.report_text.specs.Writing.{over}
use Rattle.report_text.proofs.Outcomes.{with-room, headed, headed-none}

-- a head that has the room is put over the start
put-over : (head part : List ℕ) → length head ≤ length part → put head part ≡ over head part
put-over head part h = sym (with-room head part h (length head) (over head part) refl refl).1

module _ (head text part : List ℕ) (start : ℕ) (is : start ≡ length head) (enough : start ≤ length part) where
  -- what is lent from the start on
  abbrev pub rest : List ℕ
  rest = take (length part - start) (drop start part)

  pub refuses : (number : ℕ) (left : List ℕ) → refused number 0 ≡ written text rest → left ≡ put text rest
      → (refused number 0 ≡ written (head ++ text) part) × (put_mid start (length part - start) part left ≡ put (head ++ text) part)
  refuses number left e f = rw is (headed-none head text part (rw is at enough) number left (rw is at e) (rw is at f))

  pub prints : (bytes : ℕ) (left out : List ℕ) → wrote bytes ≡ written text rest → left ≡ put text rest → out ≡ put head (put_mid start (length part - start) part left)
      → (wrote (bytes + start) ≡ written (head ++ text) part) × (out ≡ put (head ++ text) part)
  prints bytes left out e f g =
      let room : length head ≤ length (put_mid start (length part - start) part left) =
      rw length-append (omega (arith, is, length-take-le start part enough)) in
      let same = g ∙ put-over head (put_mid start (length part - start) part left) room in
      rw is (headed head text part (rw is at enough) bytes left out (rw is at e) (rw is at f) (rw is at same))
