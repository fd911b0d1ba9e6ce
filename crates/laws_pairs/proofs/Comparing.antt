-- This product's comparison is what the paper says of every two byte strings, and no other is.
use Prim.Native.Nat.{ℕ, suc, ◌+◌}
use mathlib.Core.Path.{◌≡◌, refl, sym, ◌∙◌, subst}
use mathlib.Core.List.{List, [], ◌++◌, append-nil}
use mathlib.Core.Option.{none}
use native.Mathlib.Omega.{arith}
use lib.ListN.{length}
use Rattle.log_number.specs.Promises.{Bytes}
use Rattle.log_event.specs.Kinds.{kinds}
use Rattle.log_event.specs.declared.Event.{Event}
use Rattle.log_record.specs.Records.{Met, met, end, record_at}
use Rattle.log_record.specs.Records as log
use Rattle.log_pairs.specs.Comparing.{Answer, first, second, refused, shared, stopped, stop_at}
use Rattle.log_pairs.proofs.Passing.{at-end, bytes-are}
use Rattle.log_pairs.proofs.Stopping.{stops-there}
use Rattle.log_pairs.proofs.Differing.{unlike, alike}
use Rattle.laws_format.specs.Format.{SpellsAll}
use Rattle.laws_format.proofs.Keeping.{our-reads}
use Rattle.laws_format.proofs.Logs.{some_bytes}
use Rattle.laws_pairs.specs.Compared.{SideBySide, second-is-start, first-is-start, first-unreadable, second-unreadable, different}
use Rattle.laws_pairs.specs.Ours.{our_compare, OurCompares, OneCompared, OnlyComparer}
use Rattle.laws_pairs.proofs.Starting.{all_read, all-spelled, bad-bytes, After, event, unreadable, over, after, refused-there, not-over}

-- ---- what this product answers is what the paper says
module _ {both : List Event} {start : List ℕ} (so : SpellsAll both start) where
  abbrev Says : List ℕ → List ℕ → Met → Met → Type 0
  Says rest other x y = SideBySide (start ++ rest) (start ++ other) (stopped (suc (length both)) (length start) x y)

  says : {rest other : List ℕ} {x y : Met} → After (length start) rest x → After (length start) other y → shared x y ≡ none → Says rest other x y
  says (event e n s r p) over apart = rw append-nil (second-is-start both start (s ++ r) so)
  says (unreadable n p rest bad) over apart = rw append-nil (second-is-start both start rest so)
  says over over apart = rw append-nil (subst (λ l. SideBySide l start (first (length start))) (append-nil start) (second-is-start both start [] so))
  says over (event f m t o q) apart = rw append-nil (first-is-start both start (t ++ o) so (omega (arith, some_bytes q o)))
  says over (unreadable n p other bad) apart = rw append-nil (first-is-start both start other so (omega (arith, bad-bytes bad)))
  says (unreadable n p rest bad) (event f m t o q) apart = first-unreadable n p both start rest (t ++ o) so bad (omega (arith, some_bytes q o))
  says (unreadable n p rest bad) (unreadable m q other worse) apart = first-unreadable n p both start rest other so bad (omega (arith, bad-bytes worse))
  says (event e n s r p) (unreadable m q other bad) apart = second-unreadable m q both e start s r other so p bad
  says (event e n s r p) (event f m t o q) apart = different both e f start s r t o so p q (alike e f n m apart)

  pub said : (a b rest other : List ℕ) (at : ℕ) → a ≡ start ++ rest → b ≡ start ++ other → at ≡ length start → Bytes a → Bytes b
      → shared (record_at kinds a at) (record_at kinds b at) ≡ none → SideBySide a b (stop_at kinds a b (suc (length both)) at)
  said a b rest other at ea eb there ba bb apart =
      rw (ea, eb, there) (says (after start rest (subst Bytes ea ba)) (after start other (subst Bytes eb bb)) (rw (ea, eb, there) at apart))

  -- ---- and what the paper says is what it answers
  pub stop : (a b rest other : List ℕ) → a ≡ start ++ rest → b ≡ start ++ other → Bytes a → Bytes b → (x y : Met)
      → record_at kinds a (length start) ≡ x → record_at kinds b (length start) ≡ y → shared x y ≡ none → our_compare a b ≡ stopped (suc (length both)) (length start) x y
  stop a b rest other ea eb ba bb x y fx fy apart =
      (stops-there a b ba bb _).1 (record {
        both = both;
        at = length start;
        in-first = all_read so [] rest 0 (length start) a refl (omega arith) ea;
        in-second = all_read so [] other 0 (length start) b refl (omega arith) eb;
        apart = rw (fx, fy) apart;
        told = rw (fx, fy);
      })

pub our-compares : OurCompares
our-compares a b ba bb =
    let s = (stops-there a b ba bb (our_compare a b)).0 refl in
    let k = all-spelled a ba 0 s.both s.at s.in-first in
    rw s.told (said k.0 a b _ _ s.at (bytes-are a ba 0 s.both s.at s.in-first) (bytes-are b bb 0 s.both s.at s.in-second) (omega (arith, k.1)) ba bb s.apart)

second-over : (number at : ℕ) (x : Met) → (shared x end ≡ none) × (stopped number at x end ≡ first at)
second-over number at (met e next) = (refl, refl)
second-over number at (log.refused n place) = (refl, refl)
second-over number at end = (refl, refl)

-- the first log is at its end, or unreadable there, and the second has more
second_more : (number at : ℕ) (y : Met) → ¬ (y ≡ end) → (stopped number at end y ≡ second at) × ((n place : ℕ) → stopped number at (log.refused n place) y ≡ refused n number place)
second_more number at (met e next) h = (refl, λ n place. refl)
second_more number at (log.refused m p) h = (refl, λ n place. refl)
second_more number at end h = absurd (h refl)

pub answer-is : {a b : List ℕ} {x : Answer} → SideBySide a b x → Bytes a → Bytes b → our_compare a b ≡ x
answer-is (second-is-start both start rest so) ba bb =
    let o = second-over (suc (length both)) (length start) (record_at kinds (start ++ rest) (length start)) in
    stop so _ _ rest [] refl (sym (append-nil start)) ba bb _ end refl (at-end start (length start) (omega arith)) o.0 ∙ o.1
answer-is (first-is-start both start rest so more) ba bb =
    stop so _ _ [] rest (sym (append-nil start)) refl ba bb end _ (at-end start (length start) (omega arith)) refl refl
    ∙ (second_more (suc (length both)) (length start) _ (not-over start rest bb more)).0
answer-is (first-unreadable n place both start rest other so bad more) ba bb =
    stop so _ _ rest other refl refl ba bb (log.refused n (length start + place)) _ (refused-there start rest ba n place bad) refl refl
    ∙ (second_more (suc (length both)) (length start) _ (not-over start other bb more)).1 n (length start + place)
answer-is (second-unreadable n place both e start s rest other so p bad) ba bb =
    stop so _ _ _ other refl refl ba bb (met e (length start + length s)) (log.refused n (length start + place)) (our-reads.back e s p start rest) (refused-there start other bb n place bad) refl
answer-is (different both e f start s rest t other so p q h) ba bb =
    stop so _ _ _ _ refl refl ba bb (met e (length start + length s)) (met f (length start + length t)) (our-reads.back e s p start rest) (our-reads.back f t q start other) (unlike e f (length start + length s) (length start + length t) h)

pub one-compared : OneCompared
one-compared a b ba bb x y p q = sym (answer-is p ba bb) ∙ answer-is q ba bb

pub only-comparer : OnlyComparer
only-comparer compare d a b ba bb = sym (answer-is (d a b ba bb) ba bb)
