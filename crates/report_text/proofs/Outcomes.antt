-- The two outcomes of a write: the text over the start of the part, or 12 and no byte changed.
use Prim.Native.Nat.{ℕ, ◌+◌, ◌-◌, ◌≤◌, ◌<◌}
use mathlib.Core.Path.{◌≡◌, refl, sym, ap, ◌∙◌}
use mathlib.Core.Bool.{Bool, true, false}
use mathlib.Core.List.{List, ◌++◌, append-nil}
use native.Mathlib.Omega.{arith}
use lib.Dec.{leb}
use lib.ListN.{length, take, drop, length-append, length-take, length-drop, drop_of_length-le, take-append-drop}
use lib.Seq.{drop_at, length-take-le}
use borrow.Author.Tests.{le-leb, lt-leb, leb-true, leb-false}
use borrow.Rule.Slice.PartMut.{put_mid}
use Rattle.base.specs.Pick.{pick}
use Rattle.base.specs.Writing.{wrote, refused, written, put}
use Rattle.report_text.specs.Writing.{over}
use Rattle.report_text.proofs.Parts.{rest-is, over-after}

module _ (text part : List ℕ) where
  pub no_room : length part < length text → (refused 12 0 ≡ written text part) × (part ≡ put text part)
  unfolding written put
  no_room h = (simp (lt-leb _ _ h), simp (lt-leb _ _ h))

  pub with-room : length text ≤ length part → (bytes : ℕ) (left : List ℕ) → bytes ≡ length text → left ≡ over text part
      → (wrote bytes ≡ written text part) × (left ≡ put text part)
  unfolding written put over
  with-room h bytes left e f = (simp (le-leb _ _ h) (ap wrote e), simp (le-leb _ _ h) f)

  -- what the answer tells of the room
  pub had-room : (bytes : ℕ) → wrote bytes ≡ written text part → (bytes ≡ length text) × (length text ≤ length part)
  unfolding written
  had-room bytes e = go (leb (length text) (length part)) refl e
    where
      go : (t : Bool) → leb (length text) (length part) ≡ t → wrote bytes ≡ pick t (wrote (length text)) (refused 12 0) → (bytes ≡ length text) × (length text ≤ length part)
      go true t e = (cc, leb-true _ _ t)
      go false t e = absurd (let z : ◌≡◌ {A = ℕ} 0 1 = cc in omega arith)

  pub had-none : (number : ℕ) → refused number 0 ≡ written text part → (number ≡ 12) × (length part < length text)
  unfolding written
  had-none number e = go (leb (length text) (length part)) refl e
    where
      go : (t : Bool) → leb (length text) (length part) ≡ t → refused number 0 ≡ pick t (wrote (length text)) (refused 12 0) → (number ≡ 12) × (length part < length text)
      go true t e = absurd (let z : ◌≡◌ {A = ℕ} 0 1 = cc in omega arith)
      go false t e = (cc, leb-false _ _ t)

-- a text in what follows the place of a head, then the head: the two as one text
module _ (head text part : List ℕ) (enough : length head ≤ length part) where
  abbrev rest : List ℕ
  rest = take (length part - length head) (drop (length head) part)

  rest-length : length rest ≡ length part - length head
  rest-length = simp (length-take, length-drop) (omega arith)

  -- what comes back as it was leaves the part as it was
  back : put_mid (length head) (length part - length head) part rest ≡ part
  back = rw (take-append-drop, take-append-drop)

  -- the head goes over what stood before the rest
  over-head : (left : List ℕ) → over head (put_mid (length head) (length part - length head) part left) ≡ head ++ left
  unfolding over
  over-head left =
      rw (
        drop_at (take (length head) part) (left ++ drop (length part - length head) (drop (length head) part)) (length head) (length-take-le (length head) part enough),
        drop_of_length-le (drop (length head) part) {i = length part - length head} (omega (arith, length-drop (length head) part)),
        append-nil,
      )

  pub headed-none : (number : ℕ) (left : List ℕ) → refused number 0 ≡ written text rest → left ≡ put text rest
      → (refused number 0 ≡ written (head ++ text) part) × (put_mid (length head) (length part - length head) part left ≡ put (head ++ text) part)
  headed-none number left e f =
      let n = had-none text rest number e in
      let none = no_room (head ++ text) part (simp length-append (omega (arith, n, rest-length))) in
      (ap (λ n. refused n 0) n.0 ∙ none.0, ap (put_mid (length head) (length part - length head) part) (f ∙ sym (no_room text rest n.1).1) ∙ back ∙ none.1)

  pub headed : (bytes : ℕ) (left out : List ℕ) → wrote bytes ≡ written text rest → left ≡ put text rest
      → out ≡ over head (put_mid (length head) (length part - length head) part left)
      → (wrote (bytes + length head) ≡ written (head ++ text) part) × (out ≡ put (head ++ text) part)
  headed bytes left out e f g =
      let n = had-room text rest bytes e in
      with-room (head ++ text) part (simp length-append (omega (arith, n, rest-length))) (bytes + length head) out (simp length-append (omega (arith, n)))
      (g ∙ over-head left ∙ ap (λ l. head ++ l) (f ∙ sym (with-room text rest n.1 bytes (over text rest) n.0 refl).1 ∙ ap (over text) (rest-is part (length head))) ∙ over-after head text part)
