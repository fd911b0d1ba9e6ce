-- What is handed back of two lent logs is exactly the part that the paper says.
use Prim.Native.Nat.{ℕ, ◌≤◌}
use mathlib.Core.Path.{◌≡◌, refl, sym, ap, ◌∙◌}
use mathlib.Core.List.{List}
use native.Mathlib.Omega.{arith}
use lib.ListN.{length, take, drop, length-append, take-append-drop}
use lib.Seq.{drop-append_seam, length-take-le}
use borrow.Author.Tests.{le-leb}
use denote.Ref.{Bor}
use Rattle.log_number.specs.Promises.{Bytes}
use Rattle.log_reader.specs.Parts.{part_from}
use Rattle.log_pairs.specs.Comparing.{Answer, first, second, refused}
use Rattle.log_pairs.specs.Rests.{rest_by}
use Rattle.laws_pairs.specs.Compared.{SideBySide, second-is-start, first-is-start, first-unreadable, second-unreadable, different}
use Rattle.laws_pairs.specs.Handed.{PartFrom, HandedBack, of-first, of-second, of-neither}
use Rattle.laws_pairs.specs.Ours.{our_compare, OurRest}
use Rattle.laws_pairs.proofs.Comparing.{our-compares, answer-is}

part-is : (log : Bor (List ℕ)) (at : ℕ) (part : List ℕ × (ℕ × ℕ)) → PartFrom log at part → part ≡ part_from log at
part-is log at part p =
    let whole = ap length p.bytes ∙ length-append p.before part.0 in
    let rest : drop at log.now ≡ part.0 = ap (λ n. drop n log.now) (sym p.long) ∙ ap (drop (length p.before)) p.bytes ∙ drop-append_seam p.before part.0 in
    rw (le-leb at (length log.now) (omega (arith, p.long)), rest, ← p.block, ← p.offset)

part_of : (log : Bor (List ℕ)) (at : ℕ) → at ≤ length log.now → PartFrom log at (part_from log at)
part_of log at h = record {
  before = take at log.now;
  long = length-take-le at log.now h;
  bytes = sym (take-append-drop at log.now);
  block = refl;
  offset = rw (le-leb at (length log.now) h);
}

-- a rest starts within its log
abbrev Within : List ℕ → List ℕ → Answer → Type 0
Within a b (first at) = at ≤ length a
Within a b (second at) = at ≤ length b
Within a b (refused n number place) = Unit {0}

within : {a b : List ℕ} {x : Answer} → SideBySide a b x → Within a b x
within (second-is-start both start rest so) = omega (arith, length-append start rest)
within (first-is-start both start rest so more) = omega (arith, length-append start rest)
within (first-unreadable n place both start rest other so bad more) = tt
within (second-unreadable n place both e start s rest other so p bad) = tt
within (different both e f start s rest t other so p q h) = tt

module _ (a b : Bor (List ℕ)) (ba : Bytes a.now) (bb : Bytes b.now) where
  handed-by : (x : Answer) → SideBySide a.now b.now x → HandedBack a b (rest_by x a b)
  handed-by (first at) p = of-first at p (part_of a at (within p))
  handed-by (second at) p = of-second at p (part_of b at (within p))
  handed-by (refused n number place) p = of-neither n number place p (part_of a (length a.now) (omega arith))

  is-rest : {x : Answer} (part : List ℕ × (ℕ × ℕ)) → SideBySide a.now b.now x → part ≡ rest_by x a b → part ≡ rest_by (our_compare a.now b.now) a b
  is-rest part p e = e ∙ ap (λ x. rest_by x a b) (sym (answer-is p ba bb))

  handed-is : (part : List ℕ × (ℕ × ℕ)) → HandedBack a b part → part ≡ rest_by (our_compare a.now b.now) a b
  handed-is part (of-first at p t) = is-rest part p (part-is a at part t)
  handed-is part (of-second at p t) = is-rest part p (part-is b at part t)
  handed-is part (of-neither n number place p t) = is-rest part p (part-is a (length a.now) part t)

pub our-rest : OurRest
our-rest a b ba bb part = (handed-is a b ba bb part, λ e. rw e (handed-by a b ba bb _ (our-compares a.now b.now ba bb)))
