-- Laws of a text written over the start of a part.
use Prim.Native.Nat.{ℕ, suc, ◌-◌, ◌≤◌, ◌<◌}
use mathlib.Core.Path.{◌≡◌, sym, ◌∙◌}
use mathlib.Core.List.{List, [], ◌∷◌, ◌++◌, append_assoc}
use native.Mathlib.Omega.{arith}
use native.Mathlib.Nat.{zero-add}
use native.Mathlib.Numerals.{add-one}
use lib.ListN.{length, take, drop, set, get_or, length-append, length-drop}
use lib.Seq.{sets, sets-eq, drop-cons, set_at, take_all, drop-drop}
use Rattle.report_text.specs.Writing.{over}

-- a run of stores from the start on
pub stores : (text part : List ℕ) → length text ≤ length part → sets part 0 text ≡ over text part
unfolding over
stores text part h = sets-eq text part 0 (omega arith) ∙ simp zero-add

-- one byte more after a text
pub next-byte : (text part : List ℕ) (b at : ℕ) → at ≡ length text → length text < length part → set (over text part) at b ≡ over (text ++ (b ∷ [])) part
unfolding over
next-byte text part b at e h =
    rw (drop-cons part (length text) 0 h) (set_at text (get_or part (length text) 0) (drop (suc (length text)) part) b at (sym e)
    ∙ simp (append_assoc, length-append, add-one))

-- what is lent from a place on, to the end, is all that follows the place
pub rest-is : (out : List ℕ) (at : ℕ) → take (length out - at) (drop at out) ≡ drop at out
rest-is out at = take_all (length out - at) (drop at out) (omega (arith, length-drop at out))

-- a text, and another over what follows it
pub over-after : (done text part : List ℕ) → done ++ over text (drop (length done) part) ≡ over (done ++ text) part
unfolding over
over-after done text part = simp (append_assoc, length-append, drop-drop)
