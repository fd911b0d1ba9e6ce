-- Whoever keeps the format tells, with each refusal, the place that decided it, and no other place did.
use Prim.Native.Nat.{ℕ, suc, ◌+◌, ◌-◌, ◌≤◌, ◌<◌}
use mathlib.Core.Path.{◌≡◌, refl, sym, ap, ◌∙◌, subst}
use mathlib.Core.List.{List, [], ◌∷◌, ◌++◌, append_assoc, append-nil}
use mathlib.Core.Logic.{◌≢◌}
use native.Mathlib.Omega.{arith}
use native.Mathlib.Decide.{ℕ_discrete}
use lib.ListN.{length, take, drop, get_or, length-append, length-drop, drop_of_length-le}
use lib.Seq.{length-take-le, drop-append-le, drop-append_seam, drop_at, take-add, take-append_seam, drop-drop, get_or-drop}
use Rattle.log_number.specs.Promises.{Bytes}
use Rattle.log_number.proofs.Strings.{bytes_take, bytes_drop, bytes-both}
use Rattle.log_record.specs.Records.{refused, end}
use Rattle.laws_format.specs.Unreadable.{NoRecord, LogRow}
use Rattle.laws_format.specs.Readers.{Reader, Reads}
use Rattle.laws_format.specs.Ours.{our_read}
use Rattle.laws_format.specs.Deciding.{Decided, by_byte, by_end, refused_with, number_by, NumberStarts, LengthDecides, GoesOn, to-a-record, to-a-length, FormatDecides, OnlyPlaces}
use Rattle.laws_format.proofs.Keeping.{our-reads}
use Rattle.laws_format.proofs.Only.{stands}
use Rattle.laws_format.proofs.OnePlace.{one-decided, same_numbers}
use Rattle.laws_format.proofs.RecordsDecided.{Starts, record-within, record-ends, record-starts, record-enough, record-cut, record-zero, record-fifth, record-length}
use Rattle.laws_format.proofs.RecordsBegun.{Begins, a-record, a-length, record-begins}

from-there : (log : List ℕ) (at m : ℕ) (rest : List ℕ) → at ≤ length log → drop at (take (at + m) log ++ rest) ≡ take m (drop at log) ++ rest
from-there log at m rest h =
    ap (λ l. drop at (l ++ rest)) (take-add at m log) ∙ ap (drop at) (append_assoc (take at log) (take m (drop at log)) rest)
    ∙ drop_at (take at log) (take m (drop at log) ++ rest) at (length-take-le at log h)

module _ (read : Reader) (d : Reads read) (log : List ℕ) (bs : Bytes log) (at n place : ℕ) (told : read log at ≡ refused n place) where
  row : LogRow n log at place
  row = (d.refuses log bs at n place).0 told

  inside : at < length log
  inside = omega (arith, (record-within row.row).2, length-drop at log)

  before-end : (place ≤ length log) × (n ≢ 1 → place < length log)
  before-end =
      let k = record-within row.row in
      (omega (arith, k.0, row.counts, length-drop at log), λ other. omega (arith, k.1 other, row.counts, length-drop at log))

  end-for-one : n ≡ 1 → place ≡ length log
  end-for-one is = let k = record-ends row.row is in omega (arith, inside, row.counts, length-drop at log)

  one-at-end : place ≡ length log → n ≡ 1
  one-at-end e = go (ℕ_discrete n 1)
    where
      go : Dec (n ≡ 1) → n ≡ 1
      go (yes is) = is
      go (no other) = absurd (omega (arith, before-end.1 other))

  start-for-four : n ≡ 4 → place ≡ at
  start-for-four is = omega (arith, row.counts, record-starts row.row is)

  same-refusal : n ≢ 1 → n ≢ 5 → (rest : List ℕ) → Bytes rest → read (take (suc place) log ++ rest) at ≡ refused n place
  same-refusal other far rest br =
      let behind : suc place ≡ at + suc row.after = omega (arith, row.counts) in
      let there : drop at (take (suc place) log ++ rest) ≡ take (suc row.after) (drop at log) ++ rest =
      ap (λ k. drop at (take k log ++ rest)) behind ∙ from-there log at (suc row.after) rest (omega (arith, inside)) in
      let bytes = bytes-both (take (suc place) log) rest (bytes_take (suc place) log bs) br in
      (d.refuses _ bytes at n place).1 (record {
        after = row.after;
        row = subst (λ l. NoRecord n l row.after) (sym there) (record-enough row.row other far rest);
        counts = row.counts;
      })

  cut-off-before : n ≢ 4 → read (take place log) at ≡ refused 1 place
  cut-off-before other =
      let there : drop at (take place log) ≡ take row.after (drop at log) =
      ap (λ l. drop at l) (ap (λ k. take k log) row.counts ∙ sym (append-nil (take (at + row.after) log)))
      ∙ from-there log at row.after [] (omega (arith, inside)) ∙ append-nil (take row.after (drop at log)) in
      (d.refuses _ (bytes_take place log bs) at 1 place).1 (record {
        after = row.after;
        row = subst (λ l. NoRecord 1 l row.after) (sym there) (record-cut row.row other);
        counts = row.counts;
      })

  grows : n ≡ 1 → (more : List ℕ) × Bytes more × GoesOn read log more at
  grows is =
      let b = record-begins row.row is (bytes_drop at log bs) in
      (b.0, b.1, go b.0 b.1 b.2)
    where
      go : (more : List ℕ) → Bytes more → Begins (drop at log) more → GoesOn read log more at
      go more bm (a-record e spells) =
          let spelling : List ℕ = drop at log ++ more in
          let next : ℕ = length (log ++ more) in
          let far : next ≡ at + length spelling = omega (arith, inside, length-append log more, length-append (drop at log) more, length-drop at log) in
          let whole : drop at (log ++ more) ≡ spelling = drop-append-le at log more (omega (arith, inside)) in
          let over : drop next (log ++ more) ≡ [] = drop_of_length-le (log ++ more) {i = next} (omega arith) in
          let start : drop at (log ++ more) ≡ spelling ++ drop next (log ++ more) = whole ∙ sym (ap (λ l. spelling ++ l) over ∙ append-nil spelling) in
          to-a-record e (stands read d (log ++ more) at e next (record { spelling = spelling; spells = spells; long = far; start = start }))
      go more bm (a-length p before bad) =
          let whole : drop at (log ++ more) ≡ drop at log ++ more = drop-append-le at log more (omega (arith, inside)) in
          to-a-length (at + p) (omega (arith, length-drop at log)) ((d.refuses (log ++ more) (bytes-both log more bs bm) at 5 (at + p)).1 (record {
            after = p;
            row = subst (λ l. NoRecord 5 l p) (sym whole) bad;
            counts = refl;
          }))

  zero-byte : n ≡ 2 → (get_or log place 1 ≡ 0) × (128 ≤ get_or log (place - 1) 0)
  zero-byte is =
      let k = record-zero row.row is in
      let before-it : place - 1 ≡ at + (row.after - 1) = omega (arith, k.0, row.counts) in
      (ap (λ p. get_or log p 1) row.counts ∙ sym (get_or-drop at log row.after 1) ∙ k.1, rw (before-it, ← get_or-drop at log (row.after - 1) 0) k.2)

  -- a number of the record, or a length, by its place in the log
  starts-there : (k : Starts (drop at log)) (start : ℕ) → start ≡ at + suc (length k.bytes) → NumberStarts log at start
  starts-there k start e =
      let left : drop start log ≡ k.left =
      ap (λ i. drop i log) e ∙ sym (drop-drop (suc (length k.bytes)) at log) ∙ ap (drop (suc (length k.bytes))) k.stands ∙ drop-append_seam k.bytes k.left in
      record {
        event = k.event;
        kind = k.kind;
        early = k.early;
        next = k.next;
        later = k.later;
        listed = k.listed;
        bytes = k.bytes;
        spelled = k.spelled;
        stands = k.stands ∙ ap (λ l. k.kind ∷ (k.bytes ++ l)) (sym left);
        counts = e;
      }

  fifth-byte : n ≡ 3 → (start : ℕ) × NumberStarts log at start × (place ≡ start + 4)
  fifth-byte is =
      let k = record-fifth row.row is in
      let start : ℕ = at + suc (length k.starts.bytes) in
      (start, starts-there k.starts start refl, omega (arith, row.counts, k.counts))

  number_is : number_by read at log ≡ n
  number_is = ap refused_with told

  -- what goes on isn't refused with 1
  not-one : {more : List ℕ} → GoesOn read log more at → number_by read at (log ++ more) ≡ 1 → ⊥
  not-one (to-a-record e m) one = let z : ◌≡◌ {A = ℕ} 0 1 = sym (ap refused_with m) ∙ one in omega arith
  not-one (to-a-length p before m) one = let z : ◌≡◌ {A = ℕ} 5 1 = sym (ap refused_with m) ∙ one in omega arith

  -- without the byte another number is given: 1; and for 4, none
  needed : n ≢ 1 → number_by read at (take place log) ≢ number_by read at log
  needed other same = go (ℕ_discrete n 4)
    where
      go : Dec (n ≡ 4) → ⊥
      go (no far) = other (sym number_is ∙ sym same ∙ ap refused_with (cut-off-before far))
      go (yes is) =
          let long : length (take place log) ≡ place = length-take-le place log before-end.0 in
          let over : read (take place log) at ≡ end = (d.ends (take place log) (bytes_take place log bs) at).1 (omega (arith, start-for-four is)) in
          let none : n ≡ 0 = sym number_is ∙ sym same ∙ ap refused_with over in
          omega arith

  decided-there : n ≢ 5 → Decided (number_by read at) log place
  decided-there far = go (ℕ_discrete n 1)
    where
      go : Dec (n ≡ 1) → Decided (number_by read at) log place
      go (yes is) =
          let g = grows is in
          by_end (end-for-one is) g.0 g.1 (λ same. not-one g.2 (same ∙ number_is ∙ is))
      go (no other) =
          by_byte (before-end.1 other) (λ rest br. ap refused_with (same-refusal other far rest br) ∙ sym number_is) (needed other)

  -- for 5: the length's last group
  length-there : n ≡ 5 → LengthDecides read log at place
  unfolding starts-there
  length-there is =
      let k = record-length row.row is in
      let last : ℕ = place + length k.groups - 1 in
      let first : place ≡ at + suc (length k.starts.bytes) = omega (arith, row.counts, k.counts) in
      let begins = starts-there k.starts place first in
      let behind : suc last ≡ place + length k.groups = omega (arith, k.some) in
      let left : drop place log ≡ k.groups ++ k.rest =
      ap (λ i. drop i log) first ∙ sym (drop-drop (suc (length k.starts.bytes)) at log) ∙ ap (drop (suc (length k.starts.bytes))) k.starts.stands
      ∙ drop-append_seam k.starts.bytes k.starts.left ∙ k.there in
      let within : last < length log = omega (arith, ap length left, length-drop place log, length-append k.groups k.rest, k.some) in
      let enough : (rest : List ℕ) → Bytes rest → read (take (suc last) log ++ rest) at ≡ refused 5 place = λ rest br.
      let there : drop at (take (suc last) log ++ rest) ≡ take (row.after + length k.groups) (drop at log) ++ rest =
      ap (λ j. drop at (take j log ++ rest)) (let z : suc last ≡ at + (row.after + length k.groups) = omega (arith, row.counts) in z) ∙ from-there log at (row.after + length k.groups) rest (omega (arith, inside)) in
      (d.refuses _ (bytes-both (take (suc last) log) rest (bytes_take (suc last) log bs) br) at 5 place).1 (record {
        after = row.after;
        row = subst (λ l. NoRecord 5 l row.after) (sym there) (k.enough rest);
        counts = row.counts;
      }) in
      let before : ℕ = row.after + length k.groups - 1 in
      let cut : read (take last log) at ≡ refused 1 last =
      let there : drop at (take last log) ≡ take before (drop at log) =
      ap (λ l. drop at l) (ap (λ j. take j log) (let z : last ≡ at + before = omega (arith, row.counts, k.some) in z) ∙ sym (append-nil (take (at + before) log)))
      ∙ from-there log at before [] (omega (arith, inside)) ∙ append-nil (take before (drop at log)) in
      (d.refuses _ (bytes_take last log bs) at 1 last).1 (record {
        after = before;
        row = subst (λ l. NoRecord 1 l before) (sym there) (k.cut before refl);
        counts = omega (arith, row.counts, k.some);
      }) in
      record {
        starts = begins;
        held = k.held;
        is-raw = k.is-raw;
        value = k.value;
        groups = k.groups;
        spelled = k.spelled;
        last = last;
        behind = behind;
        stands = ap (take (length k.groups)) left ∙ take-append_seam k.groups k.rest;
        same = enough;
        cut = cut;
        decided = by_byte within (λ rest br. ap refused_with (enough rest br) ∙ sym (number_is ∙ is))
            (λ same. let z : ◌≡◌ {A = ℕ} 1 5 = sym (ap refused_with cut) ∙ same ∙ number_is ∙ is in omega arith);
      }

pub format-decides : FormatDecides
format-decides read d = record {
  decided = λ log bs at n place told. decided-there read d log bs at n place told;
  ends = λ log bs at n place told. (end-for-one read d log bs at n place told, one-at-end read d log bs at n place told);
  goes_on = λ log bs at place told. grows read d log bs at 1 place told refl;
  zero = λ log bs at place told. zero-byte read d log bs at 2 place told refl;
  fifth = λ log bs at place told. fifth-byte read d log bs at 3 place told refl;
  start = λ log bs at place told. start-for-four read d log bs at 4 place told refl;
  first = λ log bs at place told. length-there read d log bs at 5 place told refl;
  same = λ log bs at n place told. same-refusal read d log bs at n place told;
  cut = λ log bs at n place told. cut-off-before read d log bs at n place told;
}

pub only-places : OnlyPlaces
only-places read are decide log bs at n p q far mine ours =
    one-decided (number_by our_read at) log bs p q
    (same_numbers (number_by read at) (number_by our_read at) (λ l bl. are l bl at) log p bs (decide log bs at n p mine far))
    ((format-decides our_read our-reads).decided log bs at n q ours far)
