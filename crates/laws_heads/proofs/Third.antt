-- Demand 3 of a head's images, proved of this product's calls.
use Prim.Native.Nat.{ℕ, ◌*◌, ◌≤◌}
use mathlib.Core.Path.{◌≡◌, refl, sym, ap, ◌∙◌, subst}
use mathlib.Core.Bool.{Bool, true, false}
use mathlib.Core.List.{List, [], ◌∷◌, ◌++◌}
use native.Mathlib.Omega.{arith}
use lib.Dec.{ltb}
use lib.ListN.{length, drop}
use borrow.Author.Tests.{le-ltb, le-leb}
use Rattle.base.specs.Pick.{pick}
use Rattle.base.specs.Told.{accepted, refused}
use Rattle.base.specs.Writing.{put}
use Rattle.state_parts.specs.declared.state.Model.TheVariants.{On}
use Rattle.log_event.specs.declared.Event.{Event}
use Rattle.report_state.specs.Report.{report_of}
use Rattle.step_event.specs.Steps.{step_of}
use Rattle.c_words.specs.Same.{same_bytes}
use Rattle.c_words.specs.Words.{bytes_of}
use Rattle.c_words.proofs.WordLaws.{length-bytes}
use Rattle.c_image.specs.Images.{image_of, model_from, model_in}
use Rattle.c_calls.specs.Landing.{left, answered, shown_numbers, with_room, ready_of, land_of}
use Rattle.c_calls.specs.Playing.{play_of, event_call_of}
use Rattle.c_calls.specs.Showing.{report_numbers, report_call_of}
use Rattle.c_calls.specs.Promises.{our_calls}
use Rattle.laws_account.specs.History.{Run}
use Rattle.laws_account.specs.Refused.{Accepted, Past, none, some, refusal_of, next_of, past_of}
use Rattle.laws_account.specs.States.{state_of, model_of, outcome_of}
use Rattle.laws_account.specs.Runs.{Lawful}
use Rattle.laws_account.proofs.Agreeing.{outcome-is-step}
use Rattle.laws_third.proofs.Third.{third_of}
use Rattle.laws_heads.specs.Given.{EventGives, given, PlayGives, played}
use Rattle.laws_heads.specs.Third.{Shows, ThirdOfImages}
use Rattle.laws_heads.proofs.Givens.{is-given, met-there}
use Rattle.laws_heads.proofs.Loads.{past_after, lawful, loads}

-- words are written where there is room for them
put-words : (ns part : List ℕ) → length ns * 4 ≤ length part → put (bytes_of ns) part ≡ bytes_of ns ++ drop (length ns * 4) part
unfolding put
put-words ns part h = rw (length-bytes ns, le-leb (length ns * 4) (length part) h)

pub ready : (image : List ℕ) (h : Past) (room wanted : ℕ) → model_in image ≡ accepted (model_of h) → wanted ≤ room → ready_of image room wanted ≡ accepted (model_of h)
unfolding ready_of
ready image h room wanted l k = rw (l, le-ltb room wanted k)

-- a call that is refused before it looks at what it is about has a number above the log's: 5 or 12
pub not-ready : (image : List ℕ) (room wanted number : ℕ) → ready_of image room wanted ≡ refused number → 5 ≤ number
unfolding ready_of model_in
not-ready image room wanted number e = by (same_bytes (image_of (model_from image)) image) e
  where
    by-room : (u : Bool) → pick u (refused 12) (accepted (model_from image)) ≡ refused number → 5 ≤ number
    by-room true e = let same : 12 ≡ number = cc in omega arith
    by-room false e = absurd (let z : ◌≡◌ {A = ℕ} 0 1 = cc in omega arith)

    by : (t : Bool) → with_room (pick t (accepted (model_from image)) (refused 5)) room wanted ≡ refused number → 5 ≤ number
    by true e = by-room (ltb room wanted) e
    by false e = let same : 5 ≡ number = cc in omega arith

-- ---- a report
module _ (image : List ℕ) (part : List ℕ) (room : 24 ≤ length part) where
  reports : (r : Run) → Accepted r → model_in image ≡ accepted (On (state_of r)) → Shows r 2 (report_call_of image part).answer.number part (report_call_of image part).bytes
  unfolding report_call_of report_numbers
  reports r a l =
      rw (ready image (some r) (length part) 24 l room)
      record { answers = refl; report = report_of (state_of r); third = third_of r a; others = _; many = refl; words = put-words (report_numbers (state_of r)) part room }

  nothing : model_in image ≡ accepted (model_of none) → report_call_of image part ≡ left (answered 6) part
  unfolding report_call_of
  nothing l = rw (ready image none (length part) 24 l room)

-- ---- what an accepted event shows
module _ (image shown : List ℕ) (h : Past) (before : Lawful h) (l : model_in image ≡ accepted (model_of h)) (e : Event) (free : refusal_of h e ≡ 0) (r : Run) (a : Accepted r)
    (after : next_of h e ≡ some r) where
  lands : 28 ≤ length shown → Shows r 3 (land_of (step_of (model_of h) e) image shown).answer shown (land_of (step_of (model_of h) e) image shown).shown
  unfolding land_of outcome_of shown_numbers
  lands room =
      rw (outcome-is-step h before e, free, after)
      record { answers = refl; report = report_of (state_of r); third = third_of r a; others = _; many = refl; words = put-words _ shown room }

  event-shows : (kind : ℕ) (words : List ℕ) → EventGives kind words (length shown) (e ∷ [])
      → Shows r 3 (event_call_of image kind words shown).answer.number shown (event_call_of image kind words shown).shown
  unfolding event_call_of
  event-shows kind words (given _ ns k small same room) = rw (same, is-given k small, ready image h (length shown) 28 l room) (lands room)

  play-shows : (log : List ℕ) (place : ℕ) → PlayGives log place (length shown) (e ∷ [])
      → Shows r 3 (play_of image log place shown).answer.number shown (play_of image log place shown).shown
  unfolding play_of
  play-shows log place (played _ next k room) = rw (met-there k, ready image h (length shown) 28 l room) (lands room)

next-run : (es : List Event) (e : Event) (r : Run) → past_of none (es ++ (e ∷ [])) ≡ some r → next_of (past_of none es) e ≡ some r
unfolding past_of
next-run es e r p = sym (past_after es (e ∷ []) none) ∙ p

pub third-of-images : ThirdOfImages our_calls
third-of-images = record {
  report = λ es image v r p part room. reports image part room r (subst Lawful p (lawful es)) (loads v ∙ ap (λ h. accepted (model_of h)) p);
  before = λ es image v p part room. nothing image part room (loads v ∙ ap (λ h. accepted (model_of h)) p);
  event = λ es image v kind words shown e g free r p.
      event-shows image shown (past_of none es) (lawful es) (loads v) e free r (subst Lawful p (lawful (es ++ (e ∷ [])))) (next-run es e r p) kind words g;
  play = λ es image v log place shown e g free r p.
      play-shows image shown (past_of none es) (lawful es) (loads v) e free r (subst Lawful p (lawful (es ++ (e ∷ [])))) (next-run es e r p) log place g;
}
