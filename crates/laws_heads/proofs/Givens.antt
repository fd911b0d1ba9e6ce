-- The events that a call is given are those that this product reads.
use Prim.Native.Nat.{ℕ, zero, suc, ◌*◌, ◌-◌, ◌≤◌}
use mathlib.Core.Path.{◌≡◌, refl, sym, ap, ◌∙◌, subst}
use mathlib.Core.Bool.{Bool, true, false}
use mathlib.Core.List.{List, [], ◌∷◌}
use mathlib.Core.Logic.{◌≢◌}
use native.Mathlib.Omega.{arith}
use lib.Dec.{ltb}
use lib.ListN.{length}
use borrow.Author.Tests.{lt-ltb, le-ltb, ne_eqb}
use Rattle.base.specs.Pick.{pick}
use Rattle.base.specs.Told.{Told, accepted, refused}
use Rattle.log_number.specs.Promises.{Bytes}
use Rattle.log_event.specs.Items.{Item, values, spans, AllFit}
use Rattle.log_event.specs.Kinds.{kind_byte, shapes_of, kinds}
use Rattle.log_event.specs.Events.{kind_of}
use Rattle.log_event.specs.declared.Event.{Event}
use Rattle.log_event.proofs.Values.{words-fit}
use Rattle.log_event.proofs.Remaking.{row-of-its-own, count_of}
use Rattle.log_record.specs.Records.{met, record_at}
use Rattle.log_record.specs.Records as log
use Rattle.step_event.specs.Wholes.{event_by, events_of}
use Rattle.c_words.specs.Words.{bytes_of}
use Rattle.c_event.specs.Given.{given_of}
use Rattle.c_event.proofs.Answers.{every_given}
use Rattle.laws_format.specs.Format.{Listed, NoKind, AllSmall}
use Rattle.laws_format.specs.Readers.{SpelledAt}
use Rattle.laws_format.specs.Ours.{our_read}
use Rattle.laws_format.proofs.Formats.{listed-is, small-words}
use Rattle.laws_format.proofs.RecordsRefused.{no_row}
use Rattle.laws_format.proofs.Keeping.{our-reads}
use Rattle.laws_format.proofs.Only.{ahead, stands}
use Rattle.laws_heads.specs.Given.{shown_bytes, EventGives, given, no_room, no_kind, not-as-many, NoRecordAt, unreadable, at-end, PlayGives, played, no-room-shown, no_record, Ending, ReplayGives, stops, goes_on}

-- ---- an event outside a log
module _ {e : Event} {kind : ℕ} {is : List Item} (l : Listed e kind is) where
  pub is-given : AllSmall (values is) → given_of kind (bytes_of (values is)) ≡ accepted e
  is-given h = rw (listed-is l).0 (ap (λ js. given_of (kind_byte (kind_of e)) (bytes_of (values js))) (listed-is l).1 ∙ every_given e (subst AllFit (listed-is l).1 (words-fit is (small-words (values is) h))))

  pub not-given : (words : List ℕ) → length words ≢ length (values is) * 4 → given_of kind words ≡ refused 5
  unfolding given_of
  not-given words h =
      let long : spans (shapes_of (kind_of e)) ≡ length (values is) = count_of e ∙ ap (λ js. length (values js)) (sym (listed-is l).1) in
      rw ((listed-is l).0, row-of-its-own (kind_of e), long, ne_eqb (length words) (length (values is) * 4) h)

pub unknown : (kind : ℕ) (words : List ℕ) → NoKind kind → given_of kind words ≡ refused 4
unfolding given_of
unknown kind words h = rw (no_row kind h)

-- a test chooses between nothing and nothing
same_none : (t : Bool) → pick {A = List Event} t [] [] ≡ []
same_none true = refl
same_none false = refl

abbrev pub given_list : Told Event → List Event
given_list (accepted e) = e ∷ []
given_list (refused n) = []

pub event-is : (kind : ℕ) (words : List ℕ) (room : ℕ) {new : List Event} → EventGives kind words room new → new ≡ pick (ltb room shown_bytes) [] (given_list (given_of kind words))
event-is kind words room (given e is l small same fits) = rw (same, is-given l small, le-ltb room shown_bytes fits)
event-is kind words room (no_room short) = rw (lt-ltb room shown_bytes short)
event-is kind words room (no_kind out) = rw (unknown kind words out, same_none (ltb room shown_bytes))
event-is kind words room (not-as-many e is l other) = rw (not-given l words other, same_none (ltb room shown_bytes))

-- ---- a log
pub met-there : {log : List ℕ} {place : ℕ} {e : Event} {next : ℕ} → SpelledAt log place e next → record_at kinds log place ≡ met e next
met-there {log} {place} {e} {next} k = stands our_read our-reads log place e next k

abbrev pub read_list : log.Met → List Event
read_list r = event_by r (λ next. [])

none-there : {log : List ℕ} {place number told : ℕ} → Bytes log → NoRecordAt log place number told → (more : ℕ → List Event) → event_by (record_at kinds log place) more ≡ []
none-there {log} {place} bs (unreadable n decided row) more = rw ((our-reads.refuses log bs place n decided).1 row)
none-there {log} {place} bs (at-end late) more = rw ((our-reads.ends log bs place).1 late)

pub play-is : {log : List ℕ} → Bytes log → (place room : ℕ) {new : List Event} → PlayGives log place room new → new ≡ pick (ltb room shown_bytes) [] (read_list (record_at kinds log place))
play-is bs place room (played e next k fits) = rw (met-there k, le-ltb room shown_bytes fits)
play-is bs place room (no-room-shown short) = rw (lt-ltb room shown_bytes short)
play-is bs place room (no_record number told stop) = rw (none-there bs stop (λ next. []), same_none (ltb room shown_bytes))

-- no more records than bytes are left
pub few : {log : List ℕ} {place : ℕ} {es : List Event} {ending : Ending} → ReplayGives log place es ending → length es ≤ length log - place
few (stops place code told h) = omega arith
few (goes_on place e next es ending k more) = omega (arith, ahead k, few more)

events-are : {log : List ℕ} → Bytes log → {place : ℕ} {es : List Event} {ending : Ending} (most : ℕ) → ReplayGives log place es ending → length es ≤ most → events_of most log place ≡ es
unfolding events_of
events-are {log} bs zero (stops place code told h) l = refl
events-are {log} bs (suc most) (stops place code told h) l = none-there bs h (λ next. events_of most log next)
events-are {log} bs zero (goes_on place e next es ending k more) l = absurd (omega arith)
events-are {log} bs (suc most) (goes_on place e next es ending k more) l = rw (met-there k) (ap (λ fs. e ∷ fs) (events-are bs most more (omega arith)))

pub all_read : {log : List ℕ} → Bytes log → {place : ℕ} {es : List Event} {ending : Ending} → ReplayGives log place es ending → events_of (suc (length log)) log place ≡ es
all_read {log} bs h = events-are bs (suc (length log)) h (omega (arith, few h))
