-- The image that calls led to loads as the model that the account has of the events that they were given.
use Prim.Native.Nat.{ℕ}
use mathlib.Core.Path.{◌≡◌, refl, sym, ap, ◌∙◌}
use mathlib.Core.Bool.{Bool, true, false}
use mathlib.Core.List.{List, [], ◌∷◌, ◌++◌}
use lib.Dec.{ltb}
use lib.ListN.{length}
use borrow.Author.Tests.{eq-eqb}
use Rattle.base.specs.Pick.{pick}
use Rattle.base.specs.Told.{Told, accepted, refused}
use Rattle.log_event.specs.Kinds.{kinds}
use Rattle.log_event.specs.declared.Event.{Event}
use Rattle.log_record.specs.Records.{met, end, record_at}
use Rattle.log_record.specs.Records as log
use Rattle.c_image.specs.Images.{image_length, model_in}
use Rattle.c_event.specs.Given.{given_of}
use Rattle.step_event.specs.Walks.{walk_from}
use Rattle.c_calls.specs.Promises.{our_calls}
use Rattle.laws_images.specs.Promises.{after_read, after_given}
use Rattle.laws_images.proofs.Keeping.{keeps-image}
use Rattle.laws_account.specs.Refused.{Past, none, next_of, past_of}
use Rattle.laws_account.specs.States.{model_of}
use Rattle.laws_account.specs.Runs.{Lawful}
use Rattle.laws_account.proofs.Agreeing.{next-model}
use Rattle.laws_account.proofs.Logging.{follows, past-lawful}
use Rattle.laws_heads.specs.Moved.{Moved, off, event, play, replay}
use Rattle.laws_heads.proofs.Givens.{given_list, event-is, read_list, play-is, all_read}

-- one list of events after another
pub past_after : (es new : List Event) (h : Past) → past_of h (es ++ new) ≡ past_of (past_of h es) new
unfolding past_of
past_after [] new h = refl
past_after (e ∷ es) new h = past_after es new (next_of h e)

-- the model after each call
module _ (h : Past) (l : Lawful h) where
  by-given : (t : Bool) (x : Told Event) → pick t (model_of h) (after_given (model_of h) x) ≡ model_of (past_of h (pick t [] (given_list x)))
  unfolding past_of
  by-given true x = refl
  by-given false (accepted e) = next-model h l e
  by-given false (refused n) = refl

  by_read : (t : Bool) (x : log.Met) → pick t (model_of h) (after_read (model_of h) x) ≡ model_of (past_of h (pick t [] (read_list x)))
  unfolding past_of
  by_read true x = refl
  by_read false (met e next) = next-model h l e
  by_read false (log.refused n place) = refl
  by_read false end = refl

-- what is read after events is what was given after them
joined : (es : List Event) {new got : List Event} → new ≡ got → past_of (past_of none es) got ≡ past_of none (es ++ new)
joined es {new} {got} e = ap (past_of (past_of none es)) (sym e) ∙ sym (past_after es new none)

off-past : model_of (past_of none []) ≡ model_of none
unfolding past_of
off-past = refl

pub lawful : (es : List Event) → Lawful (past_of none es)
lawful es = past-lawful es none tt

pub loads : {es : List Event} {image : List ℕ} → Moved our_calls es image → model_in image ≡ accepted (model_of (past_of none es))
loads (off part long) = keeps-image.off part (eq-eqb (length part) image_length long) ∙ ap accepted (sym off-past)
loads (event es image v kind words bs shown new g) =
    keeps-image.event image _ (loads v) kind words bs shown
    ∙ ap accepted (by-given (past_of none es) (lawful es) (ltb (length shown) 28) (given_of kind words) ∙ ap model_of (joined es (event-is kind words (length shown) g)))
loads (play es image v log bs place shown new g) =
    keeps-image.play image _ (loads v) log bs place shown
    ∙ ap accepted (by_read (past_of none es) (lawful es) (ltb (length shown) 28) (record_at kinds log place) ∙ ap model_of (joined es (play-is bs place (length shown) g)))
loads (replay es image v log bs place new ending g) =
    keeps-image.replay image _ (loads v) log bs place
    ∙ ap accepted (follows _ log (walk_from _ place) (past_of none es) (lawful es) refl ∙ ap model_of (joined es (sym (all_read bs g))))
