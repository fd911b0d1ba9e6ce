-- Demand 2 of a head's images, proved of this product's calls.
use Prim.Native.Nat.{ℕ, ◌≤◌}
use mathlib.Core.Path.{◌≡◌, sym, ap, ◌∙◌}
use mathlib.Core.List.{List, [], ◌∷◌, ◌++◌}
use lib.ListN.{length}
use Rattle.base.specs.Told.{Told, accepted}
use Rattle.base.specs.Volts.{millivolts_of}
use Rattle.base.specs.Writing.{put}
use Rattle.state_parts.specs.Numbers.{phase_number}
use Rattle.state_parts.specs.declared.state.Model.{Model}
use Rattle.state_parts.specs.declared.state.Model.TheVariants.{On}
use Rattle.log_number.specs.Promises.{Bytes}
use Rattle.log_event.specs.declared.Event.{Event}
use Rattle.report_state.specs.Stats.{stat_number}
use Rattle.c_words.specs.Words.{bytes_of}
use Rattle.c_image.specs.Images.{image_of, model_in}
use Rattle.c_calls.specs.Landing.{left, both, answered, land_of}
use Rattle.c_calls.specs.Playing.{unread, played_of, event_answered, play_of, event_call_of}
use Rattle.c_calls.specs.Replaying.{replay_of}
use Rattle.c_calls.specs.Showing.{byte_told, register_in, register_of, report_numbers, report_call_of}
use Rattle.c_calls.specs.Promises.{our_calls}
use Rattle.laws_account.specs.History.{Run}
use Rattle.laws_account.specs.Refused.{Past, none, some, past_of}
use Rattle.laws_account.specs.States.{state_by, state_of, model_of, outcome_of}
use Rattle.laws_account.specs.Looked.{register_at}
use Rattle.laws_account.specs.Runs.{Lawful}
use Rattle.laws_account.proofs.Agreeing.{outcome-is-step}
use Rattle.laws_account.proofs.Looking.{stat-is-model, register-is-model}
use Rattle.laws_account.proofs.Reports.{report-is-model}
use Rattle.laws_format.specs.Readers.{SpelledAt}
use Rattle.laws_format.proofs.Keeping.{our-reads}
use Rattle.laws_heads.specs.Given.{EventGives, given, NoRecordAt, unreadable, at-end, Ending, ReplayGives}
use Rattle.laws_heads.specs.Second.{reported_at, replayed_with, SecondOfImages}
use Rattle.laws_heads.proofs.Givens.{is-given, met-there}
use Rattle.laws_heads.proofs.Loads.{past_after, lawful, loads}
use Rattle.laws_heads.proofs.Replaying.{replay-is, ran-is}
use Rattle.laws_heads.proofs.Third.{ready}

-- the numbers of a report
reported : (r : Run) → report_numbers (state_of r) ≡ reported_at r
unfolding report_numbers state_by
reported r = λ i.
    let q = report-is-model r i in
    phase_number q.phase ∷ q.current ∷ millivolts_of q.voltage ∷ q.limit ∷ (state_of r).flags ∷ stat_number (stat-is-model r i) ∷ []

module _ (image : List ℕ) (h : Past) (l : model_in image ≡ accepted (model_of h)) where
  registers : Lawful h → (address : ℕ) → register_of image address ≡ byte_told (register_at h address)
  unfolding register_of
  registers before address = ap (λ (m : Told Model). byte_told (register_in m address)) l ∙ ap byte_told (register-is-model h before address)

  module _ (before : Lawful h) (e : Event) (shown : List ℕ) where
    event-is : (kind : ℕ) (words : List ℕ) → EventGives kind words (length shown) (e ∷ [])
        → event_call_of image kind words shown ≡ event_answered (land_of (outcome_of h e) image shown)
    unfolding event_call_of
    event-is kind words (given _ ns k small same room) =
        rw (same, is-given k small, ready image h (length shown) 28 l room, outcome-is-step h before e)

    play-is : (log : List ℕ) (place next : ℕ) → SpelledAt log place e next → 28 ≤ length shown
        → play_of image log place shown ≡ played_of e place next (land_of (outcome_of h e) image shown)
    unfolding play_of
    play-is log place next k room = rw (met-there k, ready image h (length shown) 28 l room, outcome-is-step h before e)

  unread-is : (log : List ℕ) → Bytes log → (place number told : ℕ) (shown : List ℕ) → NoRecordAt log place number told → 28 ≤ length shown
      → play_of image log place shown ≡ both (unread number told place) image shown
  unfolding play_of
  unread-is log bs place number told shown (unreadable n decided row) room = rw ((our-reads.refuses log bs place n decided).1 row, ready image h (length shown) 28 l room)
  unread-is log bs place number told shown (at-end late) room = rw ((our-reads.ends log bs place).1 late, ready image h (length shown) 28 l room)

replayed : (image : List ℕ) (es : List Event) → model_in image ≡ accepted (model_of (past_of none es)) → (log : List ℕ) → Bytes log → (place : ℕ) (new : List Event) (ending : Ending)
    → ReplayGives log place new ending → replay_of image log place ≡ left (replayed_with (length new) ending) (image_of (model_of (past_of none (es ++ new))))
replayed image es l log bs place new ending g =
    let after = ran-is new (past_of none es) (lawful es) ∙ ap model_of (sym (past_after es new none)) in
    replay-is image (model_of (past_of none es)) l log bs g ∙ ap (λ m. left (replayed_with (length new) ending) (image_of m)) after

report-is : (image part : List ℕ) (r : Run) → 24 ≤ length part → model_in image ≡ accepted (On (state_of r))
    → report_call_of image part ≡ left (answered 0) (put (bytes_of (reported_at r)) part)
unfolding report_call_of
report-is image part r room l = rw (ready image (some r) (length part) 24 l room, reported r)

pub second-of-images : SecondOfImages our_calls
second-of-images = record {
  event = λ es image v kind words shown e g. event-is image (past_of none es) (loads v) (lawful es) e shown kind words g;
  play = λ es image v log place shown e next k room. play-is image (past_of none es) (loads v) (lawful es) e shown log place next k room;
  nothing_read = λ es image v log bs place number told shown k room. unread-is image (past_of none es) (loads v) log bs place number told shown k room;
  replay = λ es image v log bs place new ending g. replayed image es (loads v) log bs place new ending g;
  report = λ es image v r p part room. report-is image part r room (loads v ∙ ap (λ h. accepted (model_of h)) p);
  register = λ es image v address. registers image (past_of none es) (loads v) (lawful es) address;
}
