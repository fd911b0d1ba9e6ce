-- What `partlog` prints of two files: a line in which no number is too large for its 32 bits.
use Prim.Native.Nat.{ℕ, ◌≤◌, ◌<◌}
use mathlib.Core.Path.{◌≡◌, refl, sym, ap, ◌∙◌}
use mathlib.Core.Bool.{Bool, true, false}
use mathlib.Core.List.{List, [], ◌++◌}
use native.Mathlib.Omega.{arith}
use native.Mathlib.Decide.{dec_lt}
use lib.Dec.{ltb}
use lib.ListN.{length, length-append}
use borrow.Author.Tests.{lt-ltb, le-ltb}
use Rattle.base.specs.Pick.{pick}
use Rattle.log_number.specs.Promises.{Bytes}
use Rattle.log_event.specs.Kinds.{kinds}
use Rattle.log_event.specs.declared.Event.{Event}
use Rattle.log_pairs.specs.Comparing.{Answer, refused, compare_of, inputs_of}
use Rattle.log_pairs.specs.Text.{answer_text}
use Rattle.laws_format.specs.Format.{SpellsAll, no-events, event-then}
use Rattle.laws_format.proofs.Logs.{some_bytes}
use Rattle.laws_format.proofs.RecordsDecided.{record-within}
use Rattle.laws_pairs.specs.Compared.{SideBySide, second-is-start, first-is-start, first-unreadable, second-unreadable, different}
use Rattle.laws_pairs.specs.Files.{longest, FilesCompared, first-too-long, second-too-long, both_read}
use Rattle.laws_pairs.specs.Ours.{our_compare}
use Rattle.laws_pairs.specs.OurText.{Within32, OurPrinted}
use Rattle.laws_pairs.proofs.Comparing.{our-compares, answer-is}
use Rattle.laws_pairs.proofs.Texts.{part-iff}

-- a record has a byte
few : {es : List Event} {bytes : List ℕ} → SpellsAll es bytes → length es ≤ length bytes
few no-events = omega arith
few (event-then e es s bytes p so) = omega (arith, few so, some_bytes p [], length-append s bytes, length-append s [])

small_by : {a b : List ℕ} {answer : Answer} → SideBySide a b answer → length a ≤ longest → length b ≤ longest → Within32 answer
small_by (second-is-start both start rest so) l m = omega (arith, length-append start rest)
small_by (first-is-start both start rest so more) l m = omega (arith, length-append start rest)
small_by (first-unreadable n place both start rest other so bad more) l m = let k = length-append start rest in (omega (arith, few so), omega (arith, (record-within bad).0))
small_by (second-unreadable n place both e start s rest other so p bad) l m = let k = length-append start other in (omega (arith, few so), omega (arith, (record-within bad).0))
small_by (different both e f start s rest t other so p q h) l m = let k = length-append start (s ++ rest) in (omega (arith, few so), omega arith)

module _ (a b : List ℕ) (ba : Bytes a) (bb : Bytes b) where
  inputs_are : {answer : Answer} → FilesCompared a b answer → inputs_of kinds a b ≡ answer
  inputs_are (first-too-long h) = simp (lt-ltb longest (length a) h)
  inputs_are (second-too-long h) = go (ltb longest (length a))
    where
      go : (t : Bool) → pick t (refused 13 0 0) (pick (ltb longest (length b)) (refused 13 0 0) (compare_of kinds a b)) ≡ refused 13 0 0
      go true = refl
      go false = simp (lt-ltb longest (length b) h)
  inputs_are (both_read answer la lb so) = simp (le-ltb longest (length a) la, le-ltb longest (length b) lb) (answer-is so ba bb)

  some-answer : (answer : Answer) × FilesCompared a b answer
  some-answer = by (dec_lt longest (length a)) (dec_lt longest (length b))
    where
      by : Dec (longest < length a) → Dec (longest < length b) → (answer : Answer) × FilesCompared a b answer
      by (yes long) u = (_, first-too-long long)
      by (no fits) (yes long) = (_, second-too-long long)
      by (no fits) (no fit) = (_, both_read (our_compare a b) (omega arith) (omega arith) (our-compares a b ba bb))

small : {a b : List ℕ} {answer : Answer} → FilesCompared a b answer → Within32 answer
small (first-too-long h) = (omega arith, omega arith)
small (second-too-long h) = (omega arith, omega arith)
small (both_read answer la lb so) = small_by so la lb

pub our-printed : OurPrinted
our-printed a b ba bb text =
    let k = some-answer a b ba bb in (
      λ p. (part-iff p.answer (small p.compared) text).0 p.line ∙ ap answer_text (sym (inputs_are a b ba bb p.compared)),
      λ e. record { answer = k.0; compared = k.1; line = (part-iff k.0 (small k.1) text).1 (e ∙ ap answer_text (inputs_are a b ba bb k.1)) },
    )
