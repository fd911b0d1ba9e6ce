-- Whatever is answered, every lent part stays as long as it was.
use Prim.Native.Nat.{ℕ}
use mathlib.Core.Path.{◌≡◌, refl, sym, ◌∙◌}
use mathlib.Core.Bool.{Bool, true, false}
use mathlib.Core.List.{List, ◌++◌}
use native.Mathlib.Omega.{arith}
use lib.Dec.{leb, eqb}
use lib.ListN.{length, drop, length-append, length-drop}
use borrow.Author.Tests.{eqb-true}
use Rattle.base.specs.Pick.{pick}
use Rattle.base.specs.Told.{Told, accepted, refused}
use Rattle.base.specs.Writing.{put}
use Rattle.base.proofs.Tests.{leb-iff}
use Rattle.state_parts.specs.declared.state.Model.{Model}
use Rattle.state_parts.specs.declared.state.Model.TheVariants.{Off, On}
use Rattle.log_event.specs.Items.{all_sound}
use Rattle.log_event.specs.Kinds.{kinds}
use Rattle.log_event.specs.Events.{items_of}
use Rattle.log_event.specs.declared.Event.{Event}
use Rattle.log_record.specs.Records.{Met, met, end, record_at, spell_event, event_put}
use Rattle.log_record.specs.Records as log
use Rattle.step_kinds.specs.Answers.{Outcome}
use Rattle.step_event.specs.Steps.{step_of}
use Rattle.c_words.specs.Words.{bytes_of}
use Rattle.c_event.specs.Given.{given_of}
use Rattle.c_image.specs.Images.{image_length, image_of, model_in, is_long}
use Rattle.c_image.proofs.ImageLaws.{image-long, loaded-long}
use Rattle.c_calls.specs.Landing.{Left, left, both, answered, shown_numbers, ready_of, land_of}
use Rattle.c_calls.specs.Playing.{off_of, play_ready, play_of, event_ready, event_call_of}
use Rattle.c_calls.specs.Replaying.{replay_in, replay_of}
use Rattle.c_calls.specs.Showing.{report_ready, report_call_of}
use Rattle.c_calls.specs.Writing.{write_given, write_call_of}
use Rattle.c_calls.specs.declared.answer.Answer.{Answer}
use Rattle.c_calls.specs.Promises.{our_calls, AsLong, KeepsLengths}
use Rattle.c_calls.proofs.Lands.{ready_long}

put-long : (bytes out : List ℕ) → length (put bytes out) ≡ length out
unfolding put
put-long bytes out = go (leb (length bytes) (length out)) refl
  where
    go : (t : Bool) → leb (length bytes) (length out) ≡ t → length (pick t (bytes ++ drop (length bytes) out) out) ≡ length out
    go true e = omega (arith, (leb-iff (length bytes) (length out)).0 e, length-append bytes (drop (length bytes) out), length-drop (length bytes) out)
    go false e = refl

-- an image that loads is as long as any other
stored-long : (image : List ℕ) (m : Model) → length image ≡ image_length → length (image_of m) ≡ length image
stored-long image m e = image-long m ∙ sym e

lands : (o : Outcome) (image shown : List ℕ) → length image ≡ image_length → AsLong image shown (land_of o image shown)
unfolding land_of
lands o image shown e = go (eqb o.number 0)
  where
    go : (t : Bool) → AsLong image shown (pick t (both 0 (image_of o.model) (put (bytes_of (shown_numbers o.model o.pulse o.handed)) shown)) (both o.number image shown))
    go true = record { image = stored-long image o.model e; shown = put-long _ shown }
    go false = record { image = refl; shown = refl }

play-ready : (x : Told Model) (r : Met) (image : List ℕ) (place : ℕ) (shown : List ℕ) → ((m : Model) → accepted m ≡ x → length image ≡ image_length)
    → AsLong image shown (play_ready x r image place shown)
play-ready (refused n) r image place shown h = record { image = refl; shown = refl }
play-ready (accepted m) (met e next) image place shown h = let l = lands (step_of m e) image shown (h m refl) in record { image = l.image; shown = l.shown }
play-ready (accepted m) (log.refused n at) image place shown h = record { image = refl; shown = refl }
play-ready (accepted m) end image place shown h = record { image = refl; shown = refl }

event-ready : (x : Told Model) (g : Told Event) (image shown : List ℕ) → ((m : Model) → accepted m ≡ x → length image ≡ image_length) → AsLong image shown (event_ready x g image shown)
event-ready (refused n) g image shown h = record { image = refl; shown = refl }
event-ready (accepted m) (refused n) image shown h = record { image = refl; shown = refl }
event-ready (accepted m) (accepted e) image shown h = lands (step_of m e) image shown (h m refl)

off-long : (image : List ℕ) → length (off_of image).bytes ≡ length image
unfolding off_of
off-long image = go (is_long image) refl
  where
    go : (t : Bool) → is_long image ≡ t → length (pick {A = Left Answer} t (left (answered 0) (image_of Off)) (left (answered 5) image)).bytes ≡ length image
    go true e = stored-long image Off (eqb-true (length image) image_length e)
    go false e = refl

play-long : (image bytes : List ℕ) (place : ℕ) (shown : List ℕ) → AsLong image shown (play_of image bytes place shown)
unfolding play_of
play-long image bytes place shown = play-ready (ready_of image (length shown) 28) (record_at kinds bytes place) image place shown (ready_long image (length shown) 28)

event-long : (image : List ℕ) (kind : ℕ) (words shown : List ℕ) → AsLong image shown (event_call_of image kind words shown)
unfolding event_call_of
event-long image kind words shown =
    let l = event-ready (ready_of image (length shown) 28) (given_of kind words) image shown (ready_long image (length shown) 28) in
    record { image = l.image; shown = l.shown }

replay-long : (image bytes : List ℕ) (place : ℕ) → length (replay_of image bytes place).bytes ≡ length image
unfolding replay_of
replay-long image bytes place = go (model_in image) refl
  where
    go : (x : Told Model) → model_in image ≡ x → length (replay_in x image bytes place).bytes ≡ length image
    go (refused n) e = refl
    go (accepted m) e = stored-long image _ (loaded-long image m e)

report-ready : (x : Told Model) (report : List ℕ) → length (report_ready x report).bytes ≡ length report
report-ready (refused n) report = refl
report-ready (accepted Off) report = refl
report-ready (accepted (On s)) report = put-long _ report

report-long : (image report : List ℕ) → length (report_call_of image report).bytes ≡ length report
unfolding report_call_of
report-long image report = report-ready (ready_of image (length report) 24) report

event-put-long : (e : Event) (out : List ℕ) → length (event_put e out) ≡ length out
unfolding event_put
event-put-long e out = go (all_sound (items_of e))
  where
    go : (t : Bool) → length (pick t (put (spell_event e) out) out) ≡ length out
    go true = put-long (spell_event e) out
    go false = refl

write-given : (g : Told Event) (out : List ℕ) → length (write_given g out).bytes ≡ length out
write-given (refused n) out = refl
write-given (accepted e) out = event-put-long e out

write-long : (kind : ℕ) (words out : List ℕ) → length (write_call_of kind words out).bytes ≡ length out
unfolding write_call_of
write-long kind words out = write-given (given_of kind words) out

pub keeps-lengths : KeepsLengths our_calls
keeps-lengths = record { off = off-long; play = play-long; replay = replay-long; event = event-long; report = report-long; write = write-long }
