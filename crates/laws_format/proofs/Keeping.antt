-- This product's reader and writer keep the format.
use Prim.Native.Nat.{ℕ, ◌+◌, ◌≤◌, ◌<◌}
use mathlib.Core.Path.{◌≡◌, refl, sym, ap, ◌∙◌, subst}
use mathlib.Core.Bool.{Bool, true, false}
use mathlib.Core.List.{List, [], ◌++◌}
use native.Mathlib.Omega.{arith}
use lib.ListN.{length, drop, length-drop, drop_of_length-le}
use lib.Seq.{drop-append_seam}
use borrow.Author.Tests.{le-leb, lt-leb}
use Rattle.base.specs.Writing.{Wrote, wrote, written, put}
use Rattle.base.specs.Writing as writing
use Rattle.log_number.specs.Promises.{Bytes}
use Rattle.log_number.proofs.Strings.{bytes_drop}
use Rattle.log_event.specs.Items.{Item, values, all_sound}
use Rattle.log_event.specs.Kinds.{kind_byte, kinds}
use Rattle.log_event.specs.Events.{kind_of, items_of}
use Rattle.log_event.specs.declared.Event.{Event}
use Rattle.log_event.proofs.Values.{words-fit}
use Rattle.log_record.specs.Records.{spell_event, event_written, event_put, Met, met, refused, end, placed, read_record, record_at}
use Rattle.log_record.specs.Promises.{Spellable}
use Rattle.log_record.proofs.RecordLaws.{reads-back, one-spelling, no-spelling}
use Rattle.laws_format.specs.Unreadable.{NoRecord, LogRow}
use Rattle.laws_format.specs.Readers.{SpelledAt}
use Rattle.laws_format.specs.Format.{Listed, Spells, AllSmall}
use Rattle.laws_format.specs.Ours.{our_read, our_write, OurReads, OurWrites}
use Rattle.laws_format.proofs.Formats.{listed, spells-are, spelled, small-words}
use Rattle.laws_format.proofs.RecordsRefused.{Recorded, a-record, no_record, no_byte, recorded, refused-record}

only : (bytes : List ℕ) → Bytes bytes → (at : ℕ) (e : Event) (next : ℕ) → our_read bytes at ≡ met e next → SpelledAt bytes at e next
only bytes bs at e next m =
    let k = one-spelling bytes bs at e next m in
    record { spelling = spell_event e; spells = spelled e k.spellable; long = k.long; start = k.start }

row_of : (at n place : ℕ) {s : List ℕ} {x : Met} → Recorded s x → placed at x ≡ refused n place → (after : ℕ) × NoRecord n s after × (place ≡ at + after)
row_of at n place (a-record s e c) m = absurd (let z : ◌≡◌ {A = ℕ} 0 1 = cc in omega arith)
row_of at n place (no_record k after s row) m =
    let same : k ≡ n = cc in
    let there : at + after ≡ place = cc in
    (after, subst (λ (j : ℕ). NoRecord j s after) same row, sym there)
row_of at n place no_byte m = absurd (let z : ◌≡◌ {A = ℕ} 0 1 = cc in omega arith)

none_left : (at : ℕ) {s : List ℕ} {x : Met} → Recorded s x → placed at x ≡ end → s ≡ []
none_left at (a-record s e c) m = absurd (let z : ◌≡◌ {A = ℕ} 0 1 = cc in omega arith)
none_left at (no_record k after s row) m = absurd (let z : ◌≡◌ {A = ℕ} 0 1 = cc in omega arith)
none_left at no_byte m = refl

module _ (bytes : List ℕ) (bs : Bytes bytes) (at : ℕ) where
  here : Recorded (drop at bytes) (read_record kinds (drop at bytes))
  here = recorded (drop at bytes) (bytes_drop at bytes bs)

  row : (n place : ℕ) → our_read bytes at ≡ refused n place → LogRow n bytes at place
  unfolding record_at
  row n place m = let k = row_of at n place here m in record { after = k.0; row = k.1; counts = k.2 }

  given : (n place : ℕ) → LogRow n bytes at place → our_read bytes at ≡ refused n place
  unfolding record_at
  given n place r = ap (placed at) (refused-record r.row) ∙ ap (λ p. refused n p) (sym r.counts)

  at-end : our_read bytes at ≡ end → length bytes ≤ at
  unfolding record_at
  at-end m = let k = ap length (none_left at here m) in omega (arith, length-drop at bytes)

  past_end : length bytes ≤ at → our_read bytes at ≡ end
  unfolding record_at read_record
  past_end h = rw (drop_of_length-le bytes h)

pub our-reads : OurReads
unfolding record_at
our-reads = record {
  back = λ e spelling sp before rest. let k = spells-are sp in rw k.0 (simp (drop-append_seam, reads-back e k.1 rest));
  only = only;
  refuses = λ bytes bs at n place. (row bytes bs _ _ _, given bytes bs _ _ _);
  ends = λ bytes bs at. (at-end bytes bs at, past_end bytes bs at);
}

write-all : (bytes buffer : List ℕ) → length bytes ≤ length buffer
    → ◌≡◌ {A = Wrote × List ℕ} (written bytes buffer, put bytes buffer) (wrote (length bytes), bytes ++ drop (length bytes) buffer)
unfolding written put
write-all bytes buffer room = simp (le-leb (length bytes) (length buffer) room)

write-none : (bytes buffer : List ℕ) → length buffer < length bytes → ◌≡◌ {A = Wrote × List ℕ} (written bytes buffer, put bytes buffer) (writing.refused 12 0, buffer)
unfolding written put
write-none bytes buffer short = simp (lt-leb (length bytes) (length buffer) short)

-- an event that has a spelling is written as its bytes are
as-spelled : (e : Event) → Spellable e → (buffer : List ℕ) → our_write e buffer ≡ (written (spell_event e) buffer, put (spell_event e) buffer)
unfolding event_written event_put
as-spelled e h buffer = simp h.sound

-- one that has none, and the numbers of a program's event
not-spelled : (e : Event) → ((kind : ℕ) (is : List Item) → Listed e kind is → AllSmall (values is)) → ((spelling : List ℕ) → ¬ Spells e spelling) → (buffer : List ℕ) → our_write e buffer ≡ (writing.refused 5 0, buffer)
not-spelled e small none buffer = go (all_sound (items_of e)) refl
  where
    go : (t : Bool) → all_sound (items_of e) ≡ t → our_write e buffer ≡ (writing.refused 5 0, buffer)
    go true et = absurd (none (spell_event e) (spelled e (record { fits = words-fit (items_of e) (small-words (values (items_of e)) (small (kind_byte (kind_of e)) (items_of e) (listed e))); sound = et })))
    go false et = let u = no-spelling e et in λ i. (u.five buffer i, u.kept buffer i)

pub our_writes : OurWrites
our_writes = record {
  written = λ e spelling sp buffer room. let k = spells-are sp in as-spelled e k.1 buffer ∙ rw (← k.0) (write-all spelling buffer (omega arith));
  no_room = λ e spelling sp buffer short. let k = spells-are sp in as-spelled e k.1 buffer ∙ rw (← k.0) (write-none spelling buffer (omega arith));
  no-spelling = not-spelled;
}
