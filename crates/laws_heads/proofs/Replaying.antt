-- What a replay comes to, by the events that it is given and by how they end.
use Prim.Native.Nat.{ℕ, suc, ◌+◌, ◌%◌, ◌^◌, ◌<◌}
use mathlib.Core.Path.{◌≡◌, refl, sym, ap, ◌∙◌}
use mathlib.Core.List.{List, [], ◌∷◌}
use native.Mathlib.Omega.{arith}
use lib.ListN.{length}
use Rattle.base.specs.Told.{accepted}
use Rattle.log_number.specs.Promises.{Bytes}
use Rattle.log_event.specs.Kinds.{kinds}
use Rattle.log_event.specs.declared.Event.{Event}
use Rattle.log_record.specs.Records.{record_at}
use Rattle.log_record.specs.Records as log
use Rattle.state_parts.specs.declared.state.Model.{Model}
use Rattle.step_event.specs.Steps.{step_of}
use Rattle.step_event.specs.Walks.{came_of, number_after, met_by, walk_from}
use Rattle.step_event.specs.Pages.{rest_of}
use Rattle.step_event.specs.Rests.{ended_of, played_by}
use Rattle.step_event.specs.declared.replaying.Ended.{Ended}
use Rattle.step_event.specs.declared.walking.Came.{Came}
use Rattle.step_event.specs.declared.walking.Walk.{Walk}
use Rattle.step_event.proofs.Playing.{played-is}
use Rattle.c_image.specs.Images.{image_of, model_in}
use Rattle.c_calls.specs.Landing.{Left, left}
use Rattle.c_calls.specs.Replaying.{replay_of}
use Rattle.c_calls.specs.declared.answer.Replayed.{Replayed}
use Rattle.laws_account.specs.Refused.{Past, next_of, past_of}
use Rattle.laws_account.specs.States.{model_of}
use Rattle.laws_account.specs.Runs.{Lawful}
use Rattle.laws_account.proofs.Agreeing.{keeps-lawful, next-model}
use Rattle.laws_format.proofs.Keeping.{our-reads}
use Rattle.laws_third.specs.Demand.{ran_by}
use Rattle.laws_images.proofs.Keeping.{ended-model, keeps-image}
use Rattle.laws_heads.specs.Given.{NoRecordAt, unreadable, at-end, Ending, ReplayGives, stops, goes_on}
use Rattle.laws_heads.specs.Second.{replayed_with}
use Rattle.laws_heads.proofs.Givens.{met-there}

-- ---- the walk's end
abbrev walk_at : Model → Came → ℕ → ℕ → Walk
walk_at m came number place = record { model = m; came = came; number = number; place = place }

-- what the last of these events comes to
abbrev last_of : Model → Came → List Event → Came
last_of m came [] = came
last_of m came (e ∷ es) = last_of (step_of m e).model (came_of (step_of m e)) es

-- so many events on a model, and how they end
abbrev end_of : Model → Came → ℕ → List Event → Ending → Ended
end_of m came number es ending =
    record { walk = walk_at (ran_by step_of m es) (last_of m came es) ((number + length es) % 2 ^ 32) ending.next; code = ending.code; place = ending.told }

no_more : (m : Model) (came : Came) (number place code told : ℕ) → number < 2 ^ 32
    → record { walk = walk_at m came number place; code = code; place = told } ≡ end_of m came number [] (record { code = code; told = told; next = place })
unfolding ran_by
no_more m came number place code told small =
    let same : number ≡ (number + 0) % 2 ^ 32 = omega arith in
    ap (λ n. record { walk = walk_at m came n place; code = code; place = told }) same

module _ (bytes : List ℕ) (bs : Bytes bytes) where
  played-at : (w : Walk) {x : log.Met} → record_at kinds bytes w.place ≡ x → ended_of bytes w ≡ played_by bytes w x
  played-at w h = sym (played-is bytes bs w) ∙ ap (played_by bytes w) h

  stops-there : {place code told : ℕ} → NoRecordAt bytes place code told → (m : Model) (came : Came) (number : ℕ) → number < 2 ^ 32
      → ended_of bytes (walk_at m came number place) ≡ end_of m came number [] (record { code = code; told = told; next = place })
  stops-there {place} (unreadable n decided row) m came number small =
      played-at (walk_at m came number place) ((our-reads.refuses bytes bs place n decided).1 row) ∙ no_more m came number place n decided small
  stops-there {place} (at-end late) m came number small =
      played-at (walk_at m came number place) ((our-reads.ends bytes bs place).1 late) ∙ no_more m came number place 0 place small

  pub ended : {place : ℕ} {es : List Event} {ending : Ending} → ReplayGives bytes place es ending → (m : Model) (came : Came) (number : ℕ) → number < 2 ^ 32
      → ended_of bytes (walk_at m came number place) ≡ end_of m came number es ending
  unfolding met_by ran_by
  ended (stops place code told h) m came number small = stops-there h m came number small
  ended (goes_on place e next es ending k more) m came number small =
      let count : (number_after number + length es) % 2 ^ 32 ≡ (number + suc (length es)) % 2 ^ 32 = omega arith in
      let o = step_of m e in
      played-at (walk_at m came number place) (met-there k) ∙ ended more o.model (came_of o) (number_after number) (omega arith)
      ∙ ap (λ n. record { walk = walk_at (ran_by step_of o.model es) (last_of o.model (came_of o) es) n ending.next; code = ending.code; place = ending.told }) count

-- ---- the call
module _ (image : List ℕ) (m : Model) (loads : model_in image ≡ accepted m) (bytes : List ℕ) (bs : Bytes bytes) {place : ℕ} {es : List Event} {ending : Ending} (g : ReplayGives bytes place es ending) where
  counted : (0 + length es) % 2 ^ 32 ≡ length es % 2 ^ 32
  counted = omega arith

  pub replay-is : replay_of image bytes place ≡ left (replayed_with (length es) ending) (image_of (ran_by step_of m es))
  unfolding replay_of
  replay-is =
      rw (loads, ended bytes bs g m (walk_from m place).came 0 (omega arith))
      (ap (λ n. left (record { number = 0; code = ending.code; records = n; place = ending.told; next = ending.next }) (image_of (ran_by step_of m es))) counted)

  -- the image that it leaves loads again
  pub loads-after : model_in (image_of (ran_by step_of m es)) ≡ accepted (ran_by step_of m es)
  unfolding ended_of
  loads-after =
      let w = walk_from m place in
      let same : (rest_of bytes w).last.model ≡ ran_by step_of m es =
      sym (ended-model (rest_of bytes w).last (rest_of bytes w).stop) ∙ ap (λ (e : Ended). e.walk.model) (ended bytes bs g m (walk_from m place).came 0 (omega arith)) in
      ap model_in (sym (ap (λ (l : Left Replayed). l.bytes) replay-is)) ∙ keeps-image.replay image m loads bytes bs place ∙ ap accepted same

-- the model after events is the one that the account has of them
pub ran-is : (es : List Event) (h : Past) → Lawful h → ran_by step_of (model_of h) es ≡ model_of (past_of h es)
unfolding ran_by past_of
ran-is [] h l = refl
ran-is (e ∷ es) h l = ap (λ m. ran_by step_of m es) (next-model h l e) ∙ ran-is es (next_of h e) (keeps-lawful h l e)
