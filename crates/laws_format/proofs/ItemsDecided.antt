-- Bytes that start with no number or raw bytes of a record: which of them decide that, and how those that only end too early go on.
use Prim.Native.Nat.{ℕ, zero, suc, ◌-◌, ◌^◌, ◌≤◌, ◌<◌}
use mathlib.Core.Path.{◌≡◌, refl, sym, ap, ◌∙◌, subst}
use mathlib.Core.List.{List, [], ◌∷◌, ◌++◌, append_assoc}
use mathlib.Core.Logic.{◌≢◌, inr}
use native.Mathlib.Omega.{arith}
use borrow.Author.Rules.{rules}
use lib.ListN.{length, take, get_or, length-append}
use lib.Seq.{take-length, drop-append_seam}
use Rattle.log_number.specs.Promises.{Bytes}
use Rattle.log_number.proofs.Strings.{bytes-each, bytes_drop, bytes-both}
use Rattle.log_number.proofs.Spellings.{limit}
use Rattle.c_words.specs.Words.{words_in}
use Rattle.c_words.proofs.WordLaws.{length-words}
use Rattle.log_raw.specs.Raw.{held_by}
use Rattle.log_event.specs.Items.{Shape, number, bytes, Item, num, raw, shape_of}
use Rattle.laws_format.specs.Format.{Groups, last, more, Stand, one, run}
use Rattle.laws_format.specs.Unreadable.{cut_off, NoRaw, no_length, other-length, cut-bytes, NoItem, of_number, of-raw}
use Rattle.laws_format.proofs.Raws.{holds-words}
use Rattle.laws_format.proofs.NumbersDecided.{number-among, number-within, number-ends, number-fifth, number-enough, number_cut, cut_high, high-but-last, number-zero, number-grows}

pub some-groups : {n : ℕ} {groups : List ℕ} → Groups n groups → 0 < length groups
some-groups (last n h) = omega arith
some-groups (more low n groups h p g) = omega arith

-- ---- which numbers there are, and where the place is
raw-among : {most n p : ℕ} {s : List ℕ} → NoRaw most n s p → (1 ≤ n) × (n ≤ 5) × (n ≢ 4)
raw-among (no_length n place s bad) = let k = number-among bad in (k.0, omega (arith, k.1), λ e. omega (arith, k.1))
raw-among (other-length n groups rest h g out) = (omega arith, omega arith, λ e. omega arith)
raw-among (cut-bytes n groups held h g some most short) = (omega arith, omega arith, λ e. omega arith)

pub item-among : {h : Shape} {n p : ℕ} {s : List ℕ} → NoItem h n s p → (1 ≤ n) × (n ≤ 5) × (n ≢ 4)
item-among (of_number n p s bad) = let k = number-among bad in (k.0, omega (arith, k.1), λ e. omega (arith, k.1))
item-among (of-raw k n p s bad) = raw-among bad

raw-within : {most n p : ℕ} {s : List ℕ} → NoRaw most n s p → (p ≤ length s) × (n ≢ 1 → p < length s)
raw-within (no_length n place s bad) = number-within bad
raw-within (other-length n groups rest h g out) = let l = length-append groups rest in (omega arith, λ e. omega (arith, some-groups g))
raw-within (cut-bytes n groups held h g some most short) = let l = length-append groups held in (omega arith, λ e. absurd (e refl))

pub item-within : {h : Shape} {n p : ℕ} {s : List ℕ} → NoItem h n s p → (p ≤ length s) × (n ≢ 1 → p < length s)
item-within (of_number n p s bad) = number-within bad
item-within (of-raw k n p s bad) = raw-within bad

raw-ends : {most n p : ℕ} {s : List ℕ} → NoRaw most n s p → n ≡ 1 → p ≡ length s
raw-ends (no_length n place s bad) e = number-ends bad e
raw-ends (other-length n groups rest h g out) e = absurd (omega arith)
raw-ends (cut-bytes n groups held h g some most short) e = sym (length-append groups held)

pub item-ends : {h : Shape} {n p : ℕ} {s : List ℕ} → NoItem h n s p → n ≡ 1 → p ≡ length s
item-ends (of_number n p s bad) e = number-ends bad e
item-ends (of-raw k n p s bad) e = raw-ends bad e

raw-fifth : {most n p : ℕ} {s : List ℕ} → NoRaw most n s p → n ≡ 3 → p ≡ 4
raw-fifth (no_length n place s bad) e = number-fifth bad e
raw-fifth (other-length n groups rest h g out) e = absurd (omega arith)
raw-fifth (cut-bytes n groups held h g some most short) e = absurd (omega arith)

pub item-fifth : {h : Shape} {n p : ℕ} {s : List ℕ} → NoItem h n s p → n ≡ 3 → p ≡ 4
item-fifth (of_number n p s bad) e = number-fifth bad e
item-fifth (of-raw k n p s bad) e = raw-fifth bad e

raw-zero : {most n p : ℕ} {s : List ℕ} → NoRaw most n s p → n ≡ 2 → (0 < p) × (get_or s p 1 ≡ 0) × (128 ≤ get_or s (p - 1) 0)
raw-zero (no_length n place s bad) e = number-zero bad e
raw-zero (other-length n groups rest h g out) e = absurd (omega arith)
raw-zero (cut-bytes n groups held h g some most short) e = absurd (omega arith)

pub item-zero : {h : Shape} {n p : ℕ} {s : List ℕ} → NoItem h n s p → n ≡ 2 → (0 < p) × (get_or s p 1 ≡ 0) × (128 ≤ get_or s (p - 1) 0)
item-zero (of_number n p s bad) e = number-zero bad e
item-zero (of-raw k n p s bad) e = raw-zero bad e

-- ---- the bytes up to and including it are enough, and without it the item is cut off
raw-enough : {most n p : ℕ} {s : List ℕ} → NoRaw most n s p → n ≢ 1 → n ≢ 5 → (rest : List ℕ) → NoRaw most n (take (suc p) s ++ rest) p
raw-enough (no_length n place s bad) other far rest = no_length n place _ (number-enough bad other rest)
raw-enough (other-length n groups tail h g out) other far rest = absurd (far refl)
raw-enough (cut-bytes n groups held h g some most short) other far rest = absurd (other refl)

pub item-enough : {h : Shape} {n p : ℕ} {s : List ℕ} → NoItem h n s p → n ≢ 1 → n ≢ 5 → (rest : List ℕ) → NoItem h n (take (suc p) s ++ rest) p
item-enough (of_number n p s bad) other far rest = of_number n p _ (number-enough bad other rest)
item-enough (of-raw k n p s bad) other far rest = of-raw k n p _ (raw-enough bad other far rest)

raw-cut : {most n p : ℕ} {s : List ℕ} → NoRaw most n s p → NoRaw most 1 (take p s) p
raw-cut (no_length n place s bad) = no_length 1 place _ (number_cut bad)
raw-cut (other-length n groups rest h g out) = no_length 1 0 [] (cut_off [] tt (omega arith))
raw-cut (cut-bytes n groups held h g some most short) = rw (← length-append groups held, take-length (groups ++ held)) (rw (length-append groups held) (cut-bytes n groups held h g some most short))

pub item-cut : {h : Shape} {n p : ℕ} {s : List ℕ} → NoItem h n s p → NoItem h 1 (take p s) p
item-cut (of_number n p s bad) = of_number 1 p _ (number_cut bad)
item-cut (of-raw k n p s bad) = of-raw k 1 p _ (raw-cut bad)

-- ---- 5: the length's last group
pub record OtherLength (h : Shape) (s : List ℕ) (p : ℕ) : Type 0 where
  pub k : ℕ
  pub is-raw : h ≡ bytes k
  pub value : ℕ
  pub groups : List ℕ
  pub spelled : Groups value groups
  pub some : 0 < length groups
  pub rest : List ℕ
  pub stands : s ≡ groups ++ rest
  pub first : p ≡ 0
  -- whatever follows it
  pub enough : (tail : List ℕ) → NoItem h 5 (groups ++ tail) 0
  -- and without it the length is cut off
  pub cut : NoItem h 1 (take (length groups - 1) groups) (length groups - 1)

few-groups : {n : ℕ} {groups : List ℕ} → Groups n groups → (k : ℕ) → n < limit k → length groups ≤ suc k
few-groups (last n h) k l = omega arith
few-groups (more low n groups h p g) zero l = absurd (omega arith)
few-groups (more low n groups h p g) (suc k) l = omega (arith, few-groups g k (omega arith))

raw-length : (k : ℕ) {n p : ℕ} {s : List ℕ} → NoRaw (held_by k) n s p → n ≡ 5 → OtherLength (bytes k) s p
raw-length k (no_length n place s bad) e = absurd (omega (arith, (number-among bad).1))
raw-length k (cut-bytes n groups held h g some most short) e = absurd (omega arith)
raw-length k (other-length n groups rest h g out) e =
    let some = some-groups g in
    let few = few-groups g 4 (omega arith) in
    let one : length groups ≡ suc (length groups - 1) = omega arith in
    record {
      k = k;
      is-raw = refl;
      value = n;
      groups = groups;
      spelled = g;
      some = some;
      rest = rest;
      stands = refl;
      first = refl;
      enough = λ tail. of-raw k 5 0 _ (other-length n groups tail h g out);
      cut = of-raw k 1 _ _ (no_length 1 _ _ (cut_high (length groups - 1) groups (high-but-last g (length groups - 1) one) (omega arith) (omega arith)));
    }

pub item-length : {h : Shape} {n p : ℕ} {s : List ℕ} → NoItem h n s p → n ≡ 5 → OtherLength h s p
item-length (of_number n p s bad) e = absurd (omega (arith, (number-among bad).1))
item-length (of-raw k n p s bad) e = raw-length k bad e

-- ---- 1: how it goes on
-- a length of 1 to the most is one group
abbrev pub Roomy : Shape → Type 0
Roomy number = Unit {0}
Roomy (bytes k) = (1 ≤ k) × (held_by k < 128)

pub data ItemGoesOn (h : Shape) (s more : List ℕ) : Type 0 where
  to-an-item : (i : Item) → shape_of i ≡ h → ((is : List Item) (tail : List ℕ) → Stand is tail → Stand (i ∷ is) ((s ++ more) ++ tail)) → ItemGoesOn h s more
  to-a-length : 0 < length s → ((rest : List ℕ) → NoItem h 5 ((s ++ more) ++ rest) 0) → ItemGoesOn h s more

abbrev zeros : ℕ → List ℕ
zeros zero = []
zeros (suc k) = 0 ∷ zeros k

zeros-long : (k : ℕ) → length (zeros k) ≡ k
zeros-long zero = refl
zeros-long (suc k) = ap suc (zeros-long k)

zeros-bytes : (k : ℕ) → Bytes (zeros k)
zeros-bytes zero i = omega arith
zeros-bytes (suc k) zero = omega arith
zeros-bytes (suc k) (suc i) = zeros-bytes k i

-- raw bytes with their length
run-there : (k : ℕ) (groups held : List ℕ) → Bytes held → Groups (length held) groups → 1 ≤ length held → length held ≤ held_by k → length held < 2 ^ 32
    → (i : Item) × (shape_of i ≡ bytes k) × ((is : List Item) (tail : List ℕ) → Stand is tail → Stand (i ∷ is) ((groups ++ held) ++ tail))
run-there k groups held bs g some most low = (
  raw (record { count = length held; words = words_in k held }),
  ap bytes (length-words k held),
  λ is tail so. rw (append_assoc groups held tail) (run _ is groups held tail (holds-words k held bs some low most) g so),
)

more-groups : {n : ℕ} {b : ℕ} {groups : List ℕ} → Groups n (b ∷ groups) → 0 < length groups → 128 ≤ n
more-groups (last n h) l = absurd (omega arith)
more-groups (more low n groups h p g) l = omega arith

raw-grows : (k : ℕ) → Roomy (bytes k) → {n p : ℕ} {s : List ℕ} → NoRaw (held_by k) n s p → n ≡ 1 → Bytes s → (tail : List ℕ) × Bytes tail × ItemGoesOn (bytes k) s tail
raw-grows k room (other-length n groups rest h g out) e bs = absurd (omega arith)
raw-grows k room (cut-bytes n groups held h g some most short) e bs =
    let lacks : ℕ = n - length held in
    let whole : List ℕ = held ++ zeros lacks in
    let long : length whole ≡ n = length-append held (zeros lacks) ∙ omega (arith, zeros-long lacks) in
    let in_held : Bytes held = subst Bytes (drop-append_seam groups held) (bytes_drop (length groups) (groups ++ held) bs) in
    let r = run-there k groups whole (bytes-both held (zeros lacks) in_held (zeros-bytes lacks)) (subst (λ (m : ℕ). Groups m groups) (sym long) g) (omega arith) (omega arith) (omega arith) in
    (zeros lacks, zeros-bytes lacks, to-an-item r.0 r.1 (λ is tail so. rw (append_assoc groups held (zeros lacks)) (r.2 is tail so)))
raw-grows k room (no_length n place [] bad) e bs =
    let r = run-there k (1 ∷ []) (0 ∷ []) (bytes-each (0 ∷ []) (search rules)) (last 1 (omega arith)) (omega arith) (omega (arith, room.0)) (omega arith) in
    (1 ∷ 0 ∷ [], bytes-each (1 ∷ 0 ∷ []) (search rules), to-an-item r.0 r.1 r.2)
raw-grows k room (no_length n place (b ∷ s) bad) e bs =
    let g = number-grows bad e bs in
    let long : 0 < length (s ++ 1 ∷ []) = omega (arith, length-append s (1 ∷ [])) in
    (1 ∷ [], bytes-each (1 ∷ []) (search rules), to-a-length (omega arith) (λ rest. of-raw k 5 0 _ (other-length g.0 ((b ∷ s) ++ 1 ∷ []) rest (omega (arith, g.2)) g.3 (inr (omega (arith, room.1, more-groups g.3 long))))))

pub item-grows : {h : Shape} → Roomy h → {n p : ℕ} {s : List ℕ} → NoItem h n s p → n ≡ 1 → Bytes s → (tail : List ℕ) × Bytes tail × ItemGoesOn h s tail
item-grows room (of_number n p s bad) e bs =
    let g = number-grows bad e bs in
    (1 ∷ [], bytes-each (1 ∷ []) (search rules), to-an-item (num g.0) refl (λ is tail so. one g.0 is (s ++ 1 ∷ []) tail (omega (arith, g.2)) g.3 so))
item-grows room (of-raw k n p s bad) e bs = raw-grows k room bad e bs

-- some item of a shape, and its bytes
pub some-spelled : (h : Shape) → Roomy h → (i : Item) × (shape_of i ≡ h) × ((tail : List ℕ) × Bytes tail × ((is : List Item) (rest : List ℕ) → Stand is rest → Stand (i ∷ is) (tail ++ rest)))
some-spelled number room = (num 1, refl, (1 ∷ [], bytes-each (1 ∷ []) (search rules), λ is tail so. one 1 is (1 ∷ []) tail (omega arith) (last 1 (omega arith)) so))
some-spelled (bytes k) room =
    let r = run-there k (1 ∷ []) (0 ∷ []) (bytes-each (0 ∷ []) (search rules)) (last 1 (omega arith)) (omega arith) (omega (arith, room.0)) (omega arith) in
    (r.0, r.1, (1 ∷ 0 ∷ [], bytes-each (1 ∷ 0 ∷ []) (search rules), r.2))
