-- Each wrong call breaks what is asked.
use Prim.Native.Nat.{ℕ}
use mathlib.Core.Path.{◌≡◌, refl, sym, ap, ◌∙◌, subst}
use mathlib.Core.List.{List, [], ◌∷◌}
use native.Mathlib.Omega.{arith}
use lib.IntN.{pos}
use lib.ListN.{get_or}
use borrow.Author.Rules.{rules}
use Rattle.log_number.specs.Promises.{Bytes}
use Rattle.log_number.specs.Number.{spell, groups}
use Rattle.log_number.proofs.Strings.{bytes-each}
use Rattle.state_parts.specs.declared.state.Model.TheVariants.{Off}
use Rattle.log_event.specs.declared.Event.{Event}
use Rattle.log_event.specs.declared.Event.TheVariants.{PowerOn, Set, Observe}
use Rattle.log_event.specs.Items.{nums}
use Rattle.log_record.specs.Items.{spell_items}
use Rattle.log_record.specs.Records.{spell_event}
use Rattle.log_record.specs.Logs.{spell_log}
use Rattle.step_turns.specs.Ranges.{profile_in_range, edition_in_range}
use Rattle.step_turns.specs.Turns.{turn_of}
use Rattle.c_image.specs.Images.{zeros, image_of}
use Rattle.c_image.proofs.ImageLaws.{loads-back}
use Rattle.c_calls.specs.Landing.{Left, Both, both, answered, ready_of}
use Rattle.c_calls.specs.Playing.{event_call_of}
use Rattle.c_calls.specs.Replaying.{replay_of}
use Rattle.c_calls.specs.Promises.{Calls, RefusalLeaves}
use Rattle.c_calls.specs.declared.answer.Answer.{Answer}
use Rattle.c_calls.specs.declared.answer.Replayed.{Replayed}
use Rattle.laws_format.specs.Format.{last, none as none_more, one, from_zero}
use Rattle.laws_format.specs.Format as format
use Rattle.laws_format.specs.Unreadable.{cut_off, of_number, stopped}
use Rattle.laws_format.specs.Readers.{SpelledAt}
use Rattle.laws_format.proofs.Formats.{spelled}
use Rattle.laws_format.proofs.Examples.{paper-bytes}
use Rattle.laws_account.specs.History.{Run}
use Rattle.laws_third.specs.Demand.{ran_by}
use Rattle.laws_account.specs.Refused.{none, some, next_of, past_of}
use Rattle.laws_heads.specs.Given.{unreadable, at-end, played, Ending, ReplayGives, stops, goes_on}
use Rattle.laws_heads.specs.Moved.{Moved, off, play, replay}
use Rattle.laws_heads.specs.Third.{ThirdOfImages}
use Rattle.laws_heads.specs.Growing.{CatchesUp}
use Rattle.laws_heads.specs.Wrong.{but_last, replays_but_last, plays_unstored, zeroed, zeroes_when_refused, goes_on_at_byte, HeadsRefuted}
use Rattle.laws_heads.proofs.Givens.{all_read}
use Rattle.laws_heads.proofs.Replaying.{replay-is}

-- the paper's power-on, and a log of it alone
abbrev power : Event
power = PowerOn (record { cell = 2; vchg = 5; ichg = 4; ohms = 0; stamp = 0; ceiling = 4500; trickle = 3600; precharge = 7200; fast = 36000; watchdog = 0 })

abbrev first : List ℕ
first = 0x01 ∷ 0x02 ∷ 0x05 ∷ 0x04 ∷ 0x00 ∷ 0x00 ∷ 0x94 ∷ 0x23 ∷ 0x90 ∷ 0x1C ∷ 0xA0 ∷ 0x38 ∷ 0xA0 ∷ 0x99 ∷ 0x02 ∷ 0x00 ∷ []

bytes-there : Bytes first
bytes-there = bytes-each first (search rules)

stands-there : SpelledAt first 0 power 16
stands-there = record { spelling = first; spells = paper-bytes.power_on; long = refl; start = refl }

left-none : past_of none [] ≡ none
unfolding past_of
left-none = refl

left-some : (r : Run) × (past_of none (power ∷ []) ≡ some r)
unfolding past_of next_of turn_of profile_in_range edition_in_range
left-some = (_, refl)

-- one image can't be left both by nothing and by a power-on
module _ (calls : Calls) (third : ThirdOfImages calls) (image : List ℕ) (by-none : Moved calls [] image) (by-power : Moved calls (power ∷ []) image) where
  clash : ⊥
  clash =
      let on = (third.report (power ∷ []) image by-power left-some.0 left-some.1 (zeros 24) (omega arith)).answers in
      let unpowered = ap (λ (l : Left Answer). l.answer.number) (third.before [] image by-none left-none (zeros 24) (omega arith)) in
      let z : ◌≡◌ {A = ℕ} 0 6 = sym on ∙ unpowered in
      omega arith

-- the image of a model that is off, and the log from its start on
module _ (calls : Calls) where
  abbrev start : List ℕ
  start = (calls.off (zeros 232)).bytes

  unstored : ¬ ThirdOfImages (plays_unstored calls)
  unstored third =
      clash (plays_unstored calls) third start (off (zeros 232) refl)
      (play [] start (off (zeros 232) refl) first bytes-there 0 (zeros 28) (power ∷ []) (played power 16 stands-there (omega arith)))

  abbrev at : ℕ → Ending
  at place = record { code = 0; told = place; next = place }

  one-record : ReplayGives first 0 (power ∷ []) (at 16)
  one-record = goes_on 0 power 16 [] (at 16) stands-there (stops 16 0 16 (at-end (omega arith)))

  no_record : ReplayGives [] 0 [] (at 0)
  no_record = stops 0 0 0 (at-end (omega arith))

  -- with or without its one record the log is replayed as an empty one
  cut : (log : List ℕ) (es : List Event) {ending : Ending} → Bytes log → ReplayGives log 0 es ending → but_last es ≡ [] → ((replays_but_last calls).replay start log 0).bytes ≡ (calls.replay start (spell_log []) 0).bytes
  cut log es bs g e = ap (λ fs. (calls.replay start (spell_log (but_last fs)) 0).bytes) (all_read bs g) ∙ ap (λ fs. (calls.replay start (spell_log fs) 0).bytes) e

  moved_by : (log : List ℕ) (es : List Event) {ending : Ending} → Bytes log → ReplayGives log 0 es ending → but_last es ≡ [] → Moved (replays_but_last calls) es (calls.replay start (spell_log []) 0).bytes
  moved_by log es bs g e = subst (λ image. Moved (replays_but_last calls) es image) (cut log es bs g e) (replay [] start (off (zeros 232) refl) log bs 0 es _ g)

  lost : ¬ ThirdOfImages (replays_but_last calls)
  lost third =
      clash (replays_but_last calls) third (calls.replay start (spell_log []) 0).bytes (moved_by [] [] (λ i. omega arith) no_record refl) (moved_by first (power ∷ []) bytes-there one-record refl)

-- an answer buffer of one byte is too short
too_short : event_call_of (image_of Off) 6 [] (1 ∷ []) ≡ both (answered 12) (image_of Off) (1 ∷ [])
unfolding event_call_of ready_of
too_short = rw (loads-back Off tt)

zeroed-there : zeroed (event_call_of (image_of Off) 6 [] (1 ∷ [])) ≡ both (answered 12) (image_of Off) (0 ∷ [])
zeroed-there = rw too_short

spills : (calls : Calls) → ¬ RefusalLeaves (zeroes_when_refused calls)
spills calls leaves =
    let number : (zeroed (event_call_of (image_of Off) 6 [] (1 ∷ []))).answer.number ≡ 12 = ap (λ (l : Both Answer). l.answer.number) zeroed-there in
    let kept = (leaves.event (image_of Off) 6 [] (1 ∷ []) (λ z. omega (arith, z, number))).shown in
    let z : ◌≡◌ {A = ℕ} 0 1 = ap (λ s. get_or s 0 0) (sym (ap (λ (l : Both Answer). l.shown) zeroed-there) ∙ kept) in
    omega arith

-- ---- the log 02 01, of a set whose value is still to come, and then 05
abbrev short : List ℕ
short = 0x02 ∷ 0x01 ∷ []

abbrev whole : List ℕ
whole = 0x02 ∷ 0x01 ∷ 0x05 ∷ []

cut_short : ReplayGives short 0 [] (record { code = 1; told = 2; next = 0 })
cut_short = stops 0 1 2 (unreadable 1 2 (record {
  after = 2;
  row = stopped 1 2 0 (Set 1 0) (nums (1 ∷ [])) [] _ (0x01 ∷ []) [] (format.set 1 0) (one 1 [] (0x01 ∷ []) [] (omega arith) (last 1 (omega arith)) none_more) (of_number 1 0 [] (cut_off [] tt (omega arith)));
  counts = refl;
}))

set-read : ReplayGives whole 0 (Set 1 5 ∷ []) (record { code = 0; told = 3; next = 3 })
unfolding spell_event spell_items spell groups
set-read = goes_on 0 (Set 1 5) 3 [] _ (record { spelling = whole; spells = spelled (Set 1 5) (search rules); long = refl; start = refl }) (stops 3 0 3 (at-end (omega arith)))

-- from the byte that decided on there is an observation that ends at once
from_byte : ReplayGives whole 2 [] (record { code = 1; told = 3; next = 2 })
from_byte = stops 2 1 3 (unreadable 1 3 (record {
  after = 1;
  row = stopped 1 5 0 (Observe _) [] _ _ [] [] (format.observe (record { stamp = 0; input = 0; pack = 0; ibat = pos 0; ts = 0; bits = 0 }) 0 (from_zero 0)) none_more (of_number 1 0 [] (cut_off [] tt (omega arith)));
  counts = refl;
}))

late : ¬ CatchesUp goes_on_at_byte
unfolding ran_by
late catches =
    let unpowered = loads-back Off tt in
    let some = bytes-each short (search rules) in
    let all = bytes-each whole (search rules) in
    let first = replay-is (image_of Off) Off unpowered short some cut_short in
    let code-then : (replay_of (replay_of (image_of Off) short 0).bytes whole (replay_of (image_of Off) short 0).answer.place).answer.code ≡ 1 =
    ap (λ (l : Left Replayed). (replay_of l.bytes whole l.answer.place).answer.code) first
    ∙ ap (λ (l : Left Replayed). l.answer.code) (replay-is (image_of Off) Off unpowered whole all from_byte) in
    let code-whole : (replay_of (image_of Off) whole 0).answer.code ≡ 0 = ap (λ (l : Left Replayed). l.answer.code) (replay-is (image_of Off) Off unpowered whole all set-read) in
    let z : ◌≡◌ {A = ℕ} 0 1 = sym code-whole ∙ (catches (image_of Off) short (0x05 ∷ []) some (bytes-each (0x05 ∷ []) (search rules)) 0).code ∙ code-then in
    omega arith

pub heads-refuted : HeadsRefuted
heads-refuted = record { last_record = lost; not_stored = unstored; spilled = spills; at_the_byte = late }
