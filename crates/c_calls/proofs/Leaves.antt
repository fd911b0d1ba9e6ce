-- "A refusal leaves every lent byte as it was."
use Prim.Native.Nat.{ℕ}
use mathlib.Core.Path.{◌≡◌, refl, ap}
use mathlib.Core.Bool.{Bool, true, false}
use mathlib.Core.List.{List, ◌++◌}
use mathlib.Core.Logic.{◌≢◌}
use lib.Dec.{leb, eqb}
use lib.ListN.{length, drop}
use Rattle.base.specs.Pick.{pick}
use Rattle.base.specs.Told.{Told, accepted, refused}
use Rattle.base.specs.Writing.{wrote, written, put}
use Rattle.base.specs.Writing as writing
use Rattle.state_parts.specs.declared.state.Model.{Model}
use Rattle.state_parts.specs.declared.state.Model.TheVariants.{Off, On}
use Rattle.log_event.specs.Items.{all_sound}
use Rattle.log_event.specs.Kinds.{kinds}
use Rattle.log_event.specs.Events.{items_of}
use Rattle.log_event.specs.declared.Event.{Event}
use Rattle.log_record.specs.Records.{Met, met, end, record_at, spell_event, event_written, event_put}
use Rattle.log_record.specs.Records as log
use Rattle.step_kinds.specs.Answers.{Outcome}
use Rattle.step_event.specs.Steps.{step_of}
use Rattle.c_event.specs.Given.{given_of}
use Rattle.c_image.specs.Images.{model_in, is_long}
use Rattle.c_calls.specs.Landing.{Left, Both, ready_of, land_of}
use Rattle.c_calls.specs.Playing.{off_of, play_ready, play_of, event_ready, event_call_of}
use Rattle.c_calls.specs.Replaying.{replay_in, replay_of}
use Rattle.c_calls.specs.declared.answer.Answer.{Answer}
use Rattle.c_calls.specs.Showing.{report_ready, report_call_of}
use Rattle.c_calls.specs.Writing.{put_told, write_given, write_call_of}
use Rattle.c_calls.specs.Promises.{our_calls, Untouched, RefusalLeaves}

picked : (t : Bool) (yes-case no-case : Both ℕ) → yes-case.answer ≡ 0 → (pick t yes-case no-case).answer ≢ 0 → pick t yes-case no-case ≡ no-case
picked true y n e h = absurd (h e)
picked false y n e h = refl

land-leaves : (o : Outcome) (image shown : List ℕ) → (land_of o image shown).answer ≢ 0 → Untouched image shown (land_of o image shown)
unfolding land_of
land-leaves o image shown h = let e = picked (eqb o.number 0) _ _ refl h in rw e (record { image = refl; shown = refl })

play-ready : (x : Told Model) (r : Met) (image : List ℕ) (place : ℕ) (shown : List ℕ) → (play_ready x r image place shown).answer.number ≢ 0 → Untouched image shown (play_ready x r image place shown)
play-ready (refused n) r image place shown h = record { image = refl; shown = refl }
play-ready (accepted m) (met e next) image place shown h = let l = land-leaves (step_of m e) image shown h in record { image = l.image; shown = l.shown }
play-ready (accepted m) (log.refused n at) image place shown h = record { image = refl; shown = refl }
play-ready (accepted m) end image place shown h = record { image = refl; shown = refl }

event-ready : (x : Told Model) (g : Told Event) (image shown : List ℕ) → (event_ready x g image shown).answer ≢ 0 → Untouched image shown (event_ready x g image shown)
event-ready (refused n) g image shown h = record { image = refl; shown = refl }
event-ready (accepted m) (refused n) image shown h = record { image = refl; shown = refl }
event-ready (accepted m) (accepted e) image shown h = land-leaves (step_of m e) image shown h

report-ready : (x : Told Model) (report : List ℕ) → (report_ready x report).answer.number ≢ 0 → (report_ready x report).bytes ≡ report
report-ready (refused n) report h = refl
report-ready (accepted Off) report h = refl
report-ready (accepted (On s)) report h = absurd (h refl)

not-put : (bytes out : List ℕ) → (put_told (written bytes out)).number ≢ 0 → put bytes out ≡ out
unfolding written put
not-put bytes out h = go (leb (length bytes) (length out)) h
  where
    go : (t : Bool) → (put_told (pick t (wrote (length bytes)) (writing.refused 12 0))).number ≢ 0 → pick t (bytes ++ drop (length bytes) out) out ≡ out
    go true h = absurd (h refl)
    go false h = refl

event-not-put : (e : Event) (out : List ℕ) → (put_told (event_written e out)).number ≢ 0 → event_put e out ≡ out
unfolding event_written event_put
event-not-put e out h = go (all_sound (items_of e)) h
  where
    go : (t : Bool) → (put_told (pick t (written (spell_event e) out) (writing.refused 5 0))).number ≢ 0 → pick t (put (spell_event e) out) out ≡ out
    go true h = not-put (spell_event e) out h
    go false h = refl

write-given : (g : Told Event) (out : List ℕ) → (write_given g out).answer.number ≢ 0 → (write_given g out).bytes ≡ out
write-given (refused n) out h = refl
write-given (accepted e) out h = event-not-put e out h

play-leaves : (image bytes : List ℕ) (place : ℕ) (shown : List ℕ) → (play_of image bytes place shown).answer.number ≢ 0 → Untouched image shown (play_of image bytes place shown)
unfolding play_of
play-leaves image bytes place shown h = play-ready (ready_of image (length shown) 28) (record_at kinds bytes place) image place shown h

event-leaves : (image : List ℕ) (kind : ℕ) (words shown : List ℕ) → (event_call_of image kind words shown).answer.number ≢ 0 → Untouched image shown (event_call_of image kind words shown)
unfolding event_call_of
event-leaves image kind words shown h =
    let l = event-ready (ready_of image (length shown) 28) (given_of kind words) image shown h in
    record { image = l.image; shown = l.shown }

off-picked : (t : Bool) (made kept : Left Answer) → made.answer.number ≡ 0 → (pick t made kept).answer.number ≢ 0 → pick t made kept ≡ kept
off-picked true made kept e h = absurd (h e)
off-picked false made kept e h = refl

off-leaves : (image : List ℕ) → (off_of image).answer.number ≢ 0 → (off_of image).bytes ≡ image
unfolding off_of
off-leaves image h = ap (λ (l : Left Answer). l.bytes) (off-picked (is_long image) _ _ refl h)

replay-ready : (x : Told Model) (image bytes : List ℕ) (place : ℕ) → (replay_in x image bytes place).answer.number ≢ 0 → (replay_in x image bytes place).bytes ≡ image
replay-ready (refused n) image bytes place h = refl
replay-ready (accepted m) image bytes place h = absurd (h refl)

replay-leaves : (image bytes : List ℕ) (place : ℕ) → (replay_of image bytes place).answer.number ≢ 0 → (replay_of image bytes place).bytes ≡ image
unfolding replay_of
replay-leaves image bytes place h = replay-ready (model_in image) image bytes place h

report-leaves : (image report : List ℕ) → (report_call_of image report).answer.number ≢ 0 → (report_call_of image report).bytes ≡ report
unfolding report_call_of
report-leaves image report h = report-ready (ready_of image (length report) 24) report h

write-leaves : (kind : ℕ) (words out : List ℕ) → (write_call_of kind words out).answer.number ≢ 0 → (write_call_of kind words out).bytes ≡ out
unfolding write_call_of
write-leaves kind words out h = write-given (given_of kind words) out h

pub refusal-leaves : RefusalLeaves our_calls
refusal-leaves =
    record { off = off-leaves; play = play-leaves; replay = replay-leaves; event = event-leaves; report = report-leaves; write = write-leaves }
