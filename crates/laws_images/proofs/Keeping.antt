-- Every call that moves the model of an image leaves an image of the model after it.
use Prim.Native.Nat.{ℕ, suc}
use mathlib.Core.Path.{◌≡◌, refl, sym, ap, ◌∙◌}
use mathlib.Core.Bool.{Bool, true, false}
use mathlib.Core.List.{List}
use lib.Dec.{ltb, eqb}
use lib.ListN.{length}
use borrow.Author.Tests.{eqb-false}
use Rattle.base.specs.Pick.{pick}
use Rattle.base.specs.Told.{Told, accepted, refused}
use Rattle.log_number.specs.Promises.{Bytes}
use Rattle.state_parts.specs.declared.state.Model.{Model}
use Rattle.state_parts.specs.declared.state.Model.TheVariants.{Off}
use Rattle.log_event.specs.Kinds.{kinds}
use Rattle.log_event.specs.Items.{AllFit}
use Rattle.log_event.specs.Events.{items_of}
use Rattle.log_event.specs.declared.Event.{Event}
use Rattle.log_record.specs.Records.{Met, met, end, record_at}
use Rattle.log_record.specs.Records as log
use Rattle.step_event.specs.Steps.{step_of}
use Rattle.step_event.specs.Pages.{StopTold, full, unreadable, page_of, rest_of}
use Rattle.step_event.specs.Pages as page
use Rattle.step_event.specs.declared.walking.Walk.{Walk}
use Rattle.step_event.specs.Rests.{ended_by, ended_of}
use Rattle.step_event.proofs.Keeps.{refused-leaves}
use Rattle.c_image.specs.Images.{model_in, is_long}
use Rattle.c_image.proofs.ImageLaws.{loads-back}
use Rattle.c_event.specs.Given.{given_of}
use Rattle.c_calls.specs.Landing.{Both, ready_of, land_of}
use Rattle.c_calls.specs.Playing.{off_of, play_ready, play_of, event_ready, event_call_of}
use Rattle.step_event.specs.Walks.{walk_from}
use Rattle.c_calls.specs.Replaying.{replay_of}
use Rattle.laws_images.specs.Promises.{after_read, after_given, where_room, KeepsImage}
use Rattle.laws_images.proofs.Giving.{given-fits}
use Rattle.laws_images.proofs.Loading.{loaded-storable}
use Rattle.laws_images.proofs.Stepping.{step-storable}
use Rattle.laws_images.proofs.Walking.{read_fits, page-storable}

off-kept : (image : List ℕ) → is_long image ≡ true → model_in (off_of image).bytes ≡ accepted Off
unfolding off_of
off-kept image e = rw (e, loads-back Off tt)

chosen : (t : Bool) (a b : Both ℕ) (x : Told Model) → (t ≡ true → model_in a.image ≡ x) → (t ≡ false → model_in b.image ≡ x) → model_in (pick t a b).image ≡ x
chosen true a b x h k = h refl
chosen false a b x h k = k refl

module _ (image : List ℕ) (m : Model) (loads : model_in image ≡ accepted m) (shown : List ℕ) where
  lands : (e : Event) → AllFit (items_of e) → model_in (land_of (step_of m e) image shown).image ≡ accepted (step_of m e).model
  unfolding land_of
  lands e h =
      let o = step_of m e in
      chosen (eqb o.number 0) _ _ (accepted o.model)
      (λ n. loads-back o.model (step-storable m e (loaded-storable image m loads) h))
      (λ n. loads ∙ ap accepted (sym (refused-leaves m e (eqb-false o.number 0 n)).model))

  ready-is : ready_of image (length shown) 28 ≡ pick (ltb (length shown) 28) (refused 12) (accepted m)
  unfolding ready_of
  ready-is = rw loads

  plays : (t : Bool) (r : Met) (place : ℕ) → ((e : Event) (next : ℕ) → r ≡ met e next → AllFit (items_of e))
      → model_in (play_ready (pick t (refused 12) (accepted m)) r image place shown).image ≡ accepted (pick t m (after_read m r))
  plays true r place h = loads
  plays false (met e next) place h = lands e (h e next refl)
  plays false (log.refused number at) place h = loads
  plays false end place h = loads

  gives : (t : Bool) (x : Told Event) → ((e : Event) → x ≡ accepted e → AllFit (items_of e))
      → model_in (event_ready (pick t (refused 12) (accepted m)) x image shown).image ≡ accepted (pick t m (after_given m x))
  gives true x h = loads
  gives false (accepted e) h = lands e (h e refl)
  gives false (refused number) h = loads

  play-kept : (bytes : List ℕ) → Bytes bytes → (place : ℕ) → model_in (play_of image bytes place shown).image ≡ accepted (where_room shown m (after_read m (record_at kinds bytes place)))
  unfolding play_of
  play-kept bytes h place =
      rw ready-is (plays (ltb (length shown) 28) (record_at kinds bytes place) place (read_fits bytes h place))

  event-kept : (kind : ℕ) (words : List ℕ) → Bytes words → model_in (event_call_of image kind words shown).image ≡ accepted (where_room shown m (after_given m (given_of kind words)))
  unfolding event_call_of
  event-kept kind words h = rw ready-is (gives (ltb (length shown) 28) (given_of kind words) (given-fits kind words h))

-- whatever ends a log, the walk's model stands
pub ended-model : (w : Walk) (s : StopTold) → (ended_by w s).walk.model ≡ w.model
ended-model w full = refl
ended-model w page.end = refl
ended-model w (unreadable number place) = refl

replay-kept : (image : List ℕ) (m : Model) → model_in image ≡ accepted m → (bytes : List ℕ) → Bytes bytes → (place : ℕ)
    → model_in (replay_of image bytes place).bytes ≡ accepted (rest_of bytes (walk_from m place)).last.model
unfolding replay_of ended_of
replay-kept image m loads bytes h place =
    let w = walk_from m place in
    let p = page_of (suc (length bytes)) bytes w in
    let stored = page-storable (suc (length bytes)) bytes h w (loaded-storable image m loads) in
    rw (loads, ended-model p.last p.stop) (loads-back p.last.model stored)

pub keeps-image : KeepsImage
keeps-image = record {
  off = off-kept;
  play = λ image m e bytes h place shown. play-kept image m e shown bytes h place;
  event = λ image m e kind words h shown. event-kept image m e shown kind words h;
  replay = replay-kept;
}
