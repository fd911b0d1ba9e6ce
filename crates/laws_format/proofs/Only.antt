-- Whoever keeps the format reads and writes as this product does, so the format says one thing at each place.
use Prim.Native.Nat.{ℕ, zero, suc, ◌+◌, ◌≤◌, ◌<◌}
use mathlib.Core.Path.{◌≡◌, refl, sym, ap, ◌∙◌, subst}
use mathlib.Core.List.{List, [], ◌∷◌, ◌++◌}
use native.Mathlib.Omega.{arith}
use native.Mathlib.Decide.{dec_lt}
use lib.ListN.{length, take, drop, length-append, length-drop}
use lib.Seq.{length-take-le}
use Rattle.log_number.specs.Promises.{Bytes}
use Rattle.log_event.specs.declared.Event.{Event}
use Rattle.log_record.specs.Records.{Met, met, refused, end}
use Rattle.log_record.proofs.RecordLaws.{some-long}
use Rattle.laws_format.specs.Readers.{Reader, SpelledAt, Reads}
use Rattle.laws_format.specs.Ours.{our_read, our_write, OnlyReader, OnlyWriter, OnlyRefuser, AnswerAt, event, unreadable, over, OneAnswerAt}
use Rattle.laws_format.proofs.Formats.{spells-are}
use Rattle.laws_format.proofs.Keeping.{our-reads, our_writes}

split : {A : Type 0} (n : ℕ) (l : List A) → take n l ++ drop n l ≡ l
split zero l = refl
split (suc n) [] = refl
split (suc n) (a ∷ l) = ap (λ t. a ∷ t) (split n l)

-- a record has a byte, and stands within the log
pub ahead : {bytes : List ℕ} {at : ℕ} {e : Event} {next : ℕ} → SpelledAt bytes at e next → (at < next) × (next ≤ length bytes)
ahead {bytes} {at} {e} {next} k =
    let some = subst (λ l. 0 < length l) (sym (spells-are k.spells).0) (some-long e) in
    let long = ap length k.start ∙ length-append k.spelling (drop next bytes) in
    let far = k.long in
    (omega arith, omega (arith, length-drop at bytes, length-drop next bytes))

-- what stands at a place is read there
pub stands : (read : Reader) → Reads read → (bytes : List ℕ) (at : ℕ) (e : Event) (next : ℕ) → SpelledAt bytes at e next → read bytes at ≡ met e next
stands read d bytes at e next k =
    let long : length (take at bytes) ≡ at = length-take-le at bytes (omega (arith, ahead k)) in
    let whole : take at bytes ++ (k.spelling ++ drop next bytes) ≡ bytes = ap (λ l. take at bytes ++ l) (sym k.start) ∙ split at bytes in
    let there : read (take at bytes ++ (k.spelling ++ drop next bytes)) (length (take at bytes)) ≡ met e (length (take at bytes) + length k.spelling) =
    d.back e k.spelling k.spells (take at bytes) (drop next bytes) in
    rw (whole, long, ← k.long) at there

-- and so is whatever the format says
answer-is : (read : Reader) → Reads read → (bytes : List ℕ) → Bytes bytes → (at : ℕ) {x : Met} → AnswerAt bytes at x → read bytes at ≡ x
answer-is read d bytes bs at (event e next k) = stands read d bytes at e next k
answer-is read d bytes bs at (unreadable n place row) = (d.refuses bytes bs at n place).1 row
answer-is read d bytes bs at (over late) = (d.ends bytes bs at).1 late

answered : (bytes : List ℕ) → Bytes bytes → (at : ℕ) → AnswerAt bytes at (our_read bytes at)
answered bytes bs at = by (our_read bytes at) refl
  where
    by : (x : Met) → our_read bytes at ≡ x → AnswerAt bytes at x
    by (met e next) m = event e next (our-reads.only bytes bs at e next m)
    by (refused n place) m = unreadable n place ((our-reads.refuses bytes bs at n place).0 m)
    by end m = over ((our-reads.ends bytes bs at).0 m)

pub one_answer : OneAnswerAt
one_answer = record {
  some = λ bytes bs at. (our_read bytes at, answered bytes bs at);
  one = λ bytes bs at x y a b. sym (answer-is our_read our-reads bytes bs at a) ∙ answer-is our_read our-reads bytes bs at b;
}

pub only-reader : OnlyReader
only-reader read d bytes bs at = answer-is read d bytes bs at (answered bytes bs at)

pub only-writer : OnlyWriter
only-writer write d e spelling sp buffer = by (dec_lt (length buffer) (length spelling))
  where
    by : Dec (length buffer < length spelling) → write e buffer ≡ our_write e buffer
    by (yes short) = d.no_room e spelling sp buffer short ∙ sym (our_writes.no_room e spelling sp buffer short)
    by (no fit) = d.written e spelling sp buffer (omega arith) ∙ sym (our_writes.written e spelling sp buffer (omega arith))

pub only-refuser : OnlyRefuser
only-refuser write d e small none buffer = d.no-spelling e small none buffer ∙ sym (our_writes.no-spelling e small none buffer)
