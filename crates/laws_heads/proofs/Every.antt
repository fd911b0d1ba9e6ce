-- Whatever bytes are lent give one list of events.
use Prim.Native.Nat.{ℕ, zero, suc, ◌+◌, ◌*◌, ◌/◌, ◌%◌, ◌≤◌, ◌<◌}
use mathlib.Core.Path.{◌≡◌, refl, sym, ap, ◌∙◌, subst}
use mathlib.Core.Bool.{Bool, true, false}
use mathlib.Core.List.{List, [], ◌∷◌, ◌++◌}
use mathlib.Core.Option.{Option, none, some}
use native.Mathlib.Omega.{arith}
use native.Mathlib.Decide.{dec_lt}
use lib.Dec.{eqb}
use lib.ListN.{length}
use borrow.Author.Tests.{eqb-true, eqb-false}
use Rattle.log_number.specs.Promises.{Bytes}
use Rattle.log_event.specs.Items.{Item, values, spans, items_from}
use Rattle.log_event.specs.Kinds.{kind_byte, shapes_of, KindRow, kinds, row_for}
use Rattle.log_event.specs.declared.Event.{Event}
use Rattle.state_parts.specs.declared.state.Model.TheVariants.{Off}
use Rattle.log_event.proofs.Table.{own_row}
use Rattle.log_event.proofs.Values.{values-from, shapes-from}
use Rattle.log_record.specs.Records.{Met}
use Rattle.step_event.specs.Walks.{start_walk}
use Rattle.c_words.specs.Words.{word_bytes, bytes_of, word_at, words_in}
use Rattle.c_words.specs.Promises.{AllWords}
use Rattle.c_words.proofs.WordLaws.{length-words}
use Rattle.laws_images.proofs.Loading.{all_words}
use Rattle.laws_format.specs.Format.{Listed, AllSmall}
use Rattle.laws_format.specs.Ours.{AnswerAt, event, unreadable, over}
use Rattle.laws_format.proofs.RecordsRefused.{none-listed, event-with}
use Rattle.laws_format.proofs.Only.{ahead, one_answer}
use Rattle.laws_heads.specs.Given.{shown_bytes, EventGives, given, no_room, no_kind, not-as-many, at-end, PlayGives, played, no-room-shown, no_record, Ending, ReplayGives, stops, goes_on, OneList, EveryInputGives}
use Rattle.laws_heads.specs.Given as gives
use Rattle.laws_heads.proofs.Givens.{event-is, play-is, all_read}
use Rattle.laws_heads.proofs.Replaying.{ended}

-- ---- words of bytes are the words of their numbers
four-back : (a b c d : ℕ) → a < 256 → b < 256 → c < 256 → d < 256 → word_bytes (a + b * 256 + c * 65536 + d * 16777216) ≡ a ∷ b ∷ c ∷ d ∷ []
four-back a b c d ha hb hc hd =
    let n : ℕ = a + b * 256 + c * 65536 + d * 16777216 in
    let second : n / 256 ≡ b + c * 256 + d * 65536 = omega arith in
    let third : n / 65536 ≡ c + d * 256 = omega arith in
    let fourth : n / 16777216 ≡ d = omega arith in
    let e1 : n % 256 ≡ a = omega arith in
    let e2 : (b + c * 256 + d * 65536) % 256 ≡ b = omega arith in
    let e3 : (c + d * 256) % 256 ≡ c = omega arith in
    let e4 : d % 256 ≡ d = omega arith in
    rw (second, third, fourth, e1, e2, e3, e4)

bytes_back : (k : ℕ) (s : List ℕ) → Bytes s → length s ≡ k * 4 → bytes_of (words_in k s) ≡ s
unfolding bytes_of words_in word_at
bytes_back zero [] bs e = refl
bytes_back zero (a ∷ s) bs e = absurd (omega arith)
bytes_back (suc k) [] bs e = absurd (omega arith)
bytes_back (suc k) (a ∷ []) bs e = absurd (omega arith)
bytes_back (suc k) (a ∷ (b ∷ [])) bs e = absurd (omega arith)
bytes_back (suc k) (a ∷ (b ∷ (c ∷ []))) bs e = absurd (omega arith)
bytes_back (suc k) (a ∷ (b ∷ (c ∷ (d ∷ s)))) bs e =
    ap (λ l. l ++ bytes_of (words_in k s)) (four-back a b c d (bs 0) (bs 1) (bs 2) (bs 3)) ∙ ap (λ l. a ∷ b ∷ c ∷ d ∷ l) (bytes_back k s (λ i. bs (suc (suc (suc (suc i))))) (omega arith))

small : (ns : List ℕ) → AllWords ns → AllSmall ns
small [] h = tt
small (n ∷ ns) h = (omega (arith, h.0), small ns h.1)

module _ (kind : ℕ) (words : List ℕ) (bs : Bytes words) (room : ℕ) (fits : shown_bytes ≤ room) where
  as_many : (e : Event) (is : List Item) → Listed e kind is → AllSmall (values is) → (length words ≡ length (values is) * 4 → words ≡ bytes_of (values is)) → (t : Bool)
      → eqb (length words) (length (values is) * 4) ≡ t → (new : List Event) × EventGives kind words room new
  as_many e is l h same true t = (e ∷ [], given e is l h (same (eqb-true (length words) (length (values is) * 4) t)) fits)
  as_many e is l h same false t = ([], not-as-many e is l (eqb-false (length words) (length (values is) * 4) t))

  by_row : (x : Option KindRow) → row_for kinds kind ≡ x → (new : List Event) × EventGives kind words room new
  by_row none o = ([], no_kind (none-listed kind o))
  by_row (some r) o =
      let own = own_row kind r o in
      let hs = shapes_of r.kind in
      let ns = words_in (spans hs) words in
      let long : length ns ≡ spans hs = length-words (spans hs) words in
      let is = items_from hs ns in
      let back : values is ≡ ns = values-from hs ns long in
      let made = event-with r.kind is (shapes-from hs ns (omega arith)) in
      let byte : kind_byte r.kind ≡ kind = ap (λ (q : KindRow). q.byte) (sym own.0) ∙ own.1 in
      as_many made.0 is (subst (λ b. Listed made.0 b is) byte made.2) (subst AllSmall (sym back) (small ns (all_words (spans hs) words bs)))
      (λ h. sym (ap bytes_of back ∙ bytes_back (spans hs) words bs (h ∙ ap (λ n. n * 4) (ap length back ∙ long)))) (eqb (length words) (length (values is) * 4)) refl

some-event : (kind : ℕ) (words : List ℕ) → Bytes words → (room : ℕ) → (new : List Event) × EventGives kind words room new
some-event kind words bs room = go (dec_lt room shown_bytes)
  where
    go : Dec (room < shown_bytes) → (new : List Event) × EventGives kind words room new
    go (yes short) = ([], no_room short)
    go (no enough) = by_row kind words bs room (omega arith) (row_for kinds kind) refl

-- ---- a log
module _ (log : List ℕ) (bs : Bytes log) where
  some-play : (place room : ℕ) → (new : List Event) × PlayGives log place room new
  some-play place room = go (dec_lt room shown_bytes) (one_answer.some log bs place).1
    where
      go : {x : Met} → Dec (room < shown_bytes) → AnswerAt log place x → (new : List Event) × PlayGives log place room new
      go (yes short) a = ([], no-room-shown short)
      go (no enough) (event e next k) = (e ∷ [], played e next k (omega arith))
      go (no enough) (unreadable n decided row) = ([], no_record n decided (gives.unreadable n decided row))
      go (no enough) (over late) = ([], no_record 0 place (at-end late))

  abbrev Given : ℕ → List Event → Type 0
  Given place new = (ending : Ending) × ReplayGives log place new ending

  some-replay : (most place : ℕ) → length log ≤ place + most → (new : List Event) × Given place new
  some-replay zero place h = ([], (_, stops place 0 place (at-end (omega arith))))
  some-replay (suc most) place h = go (one_answer.some log bs place).1 (some-replay most)
    where
      go : {x : Met} → AnswerAt log place x → ((next : ℕ) → length log ≤ next + most → (new : List Event) × Given next new) → (new : List Event) × Given place new
      go (event e next k) more = let rest = more next (omega (arith, ahead k, h)) in (e ∷ rest.0, (rest.1.0, goes_on place e next rest.0 rest.1.0 k rest.1.1))
      go (unreadable n decided row) more = ([], (_, stops place n decided (gives.unreadable n decided row)))
      go (over late) more = ([], (_, stops place 0 place (at-end late)))

-- what a walk over the log comes to has one ending
one-ending : (log : List ℕ) → Bytes log → {place : ℕ} {es fs : List Event} (a b : Ending) → ReplayGives log place es a → ReplayGives log place fs b → a ≡ b
one-ending log bs a b g h =
    let from = start_walk.came in
    let same = sym (ended log bs g Off from 0 (omega arith)) ∙ ended log bs h Off from 0 (omega arith) in
    λ i. record { code = (same i).code; told = (same i).place; next = (same i).walk.place }

-- two lists that are one thing are one
alone : {gives : List Event → Type 0} {is : List Event} → ((new : List Event) → gives new → new ≡ is) → (new : List Event) × gives new → OneList gives
alone one found = (found.0, (found.1, λ other g. one other g ∙ sym (one found.0 found.1)))

pub every-input-gives : EveryInputGives
every-input-gives = record {
  event = λ kind words bs room. alone (λ new g. event-is kind words room g) (some-event kind words bs room);
  play = λ log bs place room. alone (λ new g. play-is bs place room g) (some-play log bs place room);
  replay = λ log bs place. alone (λ new g. sym (all_read bs g.1)) (some-replay log bs (length log) place (omega arith));
  ends = λ log bs place es fs a b g h. one-ending log bs a b g h;
}
