-- The records of a log leave a model that can be stored one that can.
use Prim.Native.Nat.{ℕ, zero, suc}
use mathlib.Core.Path.{◌≡◌, refl}
use mathlib.Core.List.{List}
use Rattle.log_number.specs.Promises.{Bytes}
use Rattle.log_event.specs.Kinds.{kinds}
use Rattle.log_event.specs.Items.{AllFit}
use Rattle.log_event.specs.Events.{items_of}
use Rattle.log_event.specs.declared.Event.{Event}
use Rattle.log_record.specs.Records.{Met, met, refused, end, record_at}
use Rattle.log_record.proofs.RecordLaws.{one-spelling}
use Rattle.step_event.specs.Walks.{met_by, met_of, after_read, walk_of}
use Rattle.step_event.specs.Pages.{Passed, passed_by, page_of}
use Rattle.step_event.specs.declared.walking.Walk.{Walk}
use Rattle.c_image.specs.Promises.{Storable}
use Rattle.laws_images.specs.Promises.{PageStorable}
use Rattle.laws_images.proofs.Stepping.{step-storable}

-- what a record of a log's bytes holds fits
pub read_fits : (bytes : List ℕ) → Bytes bytes → (place : ℕ) (e : Event) (next : ℕ) → record_at kinds bytes place ≡ met e next → AllFit (items_of e)
read_fits bytes h place e next m = (one-spelling bytes h place e next m).spellable.fits

passed : (w : Walk) (r : Met) (more : Walk → Passed) → ((e : Event) (next : ℕ) → r ≡ met e next → AllFit (items_of e)) → Storable w.model
    → ((v : Walk) → Storable v.model → Storable (more v).last.model) → Storable (passed_by w (after_read w r) more).last.model
unfolding met_by
passed w (met e next) more fits k ih = ih (met_of w e next).walk (step-storable w.model e k (fits e next refl))
passed w (refused number place) more fits k ih = k
passed w end more fits k ih = k

pub page-storable : PageStorable
unfolding page_of walk_of
page-storable zero bytes h w k = k
page-storable (suc most) bytes h w k =
    passed w (record_at kinds bytes w.place) (λ v. page_of most bytes v) (read_fits bytes h w.place) k (λ v. page-storable most bytes h v)
