-- This product reads raw bytes, or gives 1, 2, 3 or 5, exactly when the rows say so.
use Prim.Native.Nat.{ℕ, ◌+◌, ◌≤◌, ◌<◌}
use mathlib.Core.Path.{◌≡◌, refl, sym, ap, ◌∙◌}
use mathlib.Core.Bool.{Bool, true, false}
use mathlib.Core.List.{List, ◌++◌}
use mathlib.Core.Logic.{◌⊎◌, inl, inr}
use native.Mathlib.Omega.{arith}
use native.Mathlib.Decide.{dec_lt, ℕ_discrete}
use lib.ListN.{length, take, drop, length-append}
use lib.Dec.{leb}
use borrow.Author.Tests.{le-leb, lt-leb, leb-false}
use Rattle.base.specs.Pick.{pick}
use Rattle.base.specs.Found.{Found, found, refused}
use Rattle.log_number.specs.Promises.{Bytes}
use Rattle.c_words.specs.Words.{words_in}
use Rattle.log_raw.specs.Raw.{held_by, in_room, other_length, after_length, read_raw}
use Rattle.log_raw.proofs.Soundness.{within}
use Rattle.laws_format.specs.Format.{Groups, largest}
use Rattle.laws_format.specs.Unreadable.{NoRaw, no_length, other-length, cut-bytes}
use Rattle.laws_format.proofs.Formats.{number_read}
use Rattle.laws_format.proofs.NumbersRefused.{Numbered, value, no_number, numbered, refused-number}

-- ---- the test of the length
in-room : (k n : ℕ) → 1 ≤ n → n ≤ held_by k → in_room k n ≡ true
in-room k n some most = simp (le-leb 1 n some, le-leb n (held_by k) most)

not-in-room : (k n : ℕ) → (n ≡ 0) ⊎ (held_by k < n) → in_room k n ≡ false
not-in-room k n (inl none) = simp (lt-leb 1 n (omega arith))
not-in-room k n (inr above) = simp (le-leb 1 n (omega arith), lt-leb n (held_by k) above)

other : (k n : ℕ) → in_room k n ≡ false → (n ≡ 0) ⊎ (held_by k < n)
other k n e = go (ℕ_discrete n 0) (dec_lt (held_by k) n)
  where
    go : Dec (n ≡ 0) → Dec (held_by k < n) → (n ≡ 0) ⊎ (held_by k < n)
    go (yes z) d = inl z
    go (no z) (yes d) = inr d
    go (no z) (no d) = absurd (let t : true ≡ false = sym (in-room k n (omega arith) (omega arith)) ∙ e in let y : ◌≡◌ {A = ℕ} 0 1 = cc in omega arith)

-- ---- what is refused has its row
pub raw-refused : (k : ℕ) (s : List ℕ) → Bytes s → (n p : ℕ) → read_raw k s ≡ refused n p → NoRaw (held_by k) n s p
unfolding read_raw
raw-refused k s bs n p e = go (numbered s bs) e
  where
    read_length : (m : ℕ) (groups rest : List ℕ) (t u : Bool) → m ≤ largest → Groups m groups → in_room k m ≡ t → leb (length groups + m) (length (groups ++ rest)) ≡ u
        → pick t (pick u (found (record { count = m; words = words_in k (take m (drop (length groups) (groups ++ rest))) }) (length groups + m)) (refused 1 (length (groups ++ rest)))) other_length ≡ refused n p
        → NoRaw (held_by k) n (groups ++ rest) p
    read_length m groups rest false u h g et eu e =
        let en : 5 ≡ n = cc in
        let ep : 0 ≡ p = cc in
        rw (← en, ← ep) (other-length m groups rest h g (other k m et))
    read_length m groups rest true true h g et eu e = absurd (let z : ◌≡◌ {A = ℕ} 0 1 = cc in omega arith)
    read_length m groups rest true false h g et eu e =
        let en : 1 ≡ n = cc in
        let ep : length (groups ++ rest) ≡ p = cc in
        let room = within k m et in
        let long = length-append groups rest in
        let there : length groups + length rest ≡ p = omega arith in
        rw (← en, ← there) (cut-bytes m groups rest h g room.some (omega (arith, room.most)) (omega (arith, leb-false (length groups + m) (length (groups ++ rest)) eu)))

    go : {t : List ℕ} {x : Found ℕ} → Numbered t x → after_length k t x ≡ refused n p → NoRaw (held_by k) n t p
    go (value m groups rest h g) e = read_length m groups rest (in_room k m) (leb (length groups + m) (length (groups ++ rest))) h g refl refl e
    go (no_number m q t bad) e =
        let en : m ≡ n = cc in
        let ep : q ≡ p = cc in
        rw (← en, ← ep) (no_length m q t bad)

-- ---- each row gives its number
pub refused-raw : (k : ℕ) {n p : ℕ} {s : List ℕ} → NoRaw (held_by k) n s p → read_raw k s ≡ refused n p
unfolding read_raw
refused-raw k (no_length n place s bad) = simp (refused-number bad)
refused-raw k (other-length n groups rest h g out) = simp (number_read n groups rest h g, not-in-room k n out)
refused-raw k (cut-bytes n groups held h g some most short) =
    let long = length-append groups held in
    rw (number_read n groups held h g) (simp (in-room k n some most, lt-leb (length groups + n) (length (groups ++ held)) (omega arith)) (ap (λ q. refused 1 q) long))
