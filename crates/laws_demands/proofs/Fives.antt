-- A head that plays a record tells the reader's 5 from the image's by its place.
use Prim.Native.Nat.{ℕ, ◌≤◌}
use mathlib.Core.Path.{◌≡◌, refl, ap, ◌∙◌}
use mathlib.Core.Bool.{Bool, true, false}
use mathlib.Core.List.{List}
use mathlib.Core.Logic.{◌⊎◌, inl, inr}
use native.Mathlib.Omega.{arith}
use lib.Dec.{ltb}
use lib.ListN.{length}
use Rattle.base.specs.Pick.{pick}
use Rattle.base.specs.Told.{Told, accepted, refused}
use Rattle.log_number.specs.Promises.{Bytes}
use Rattle.log_event.specs.Kinds.{kinds}
use Rattle.log_event.specs.Events.{kind_of}
use Rattle.log_record.specs.Records.{Met, met, end, record_at}
use Rattle.log_record.specs.Records as log
use Rattle.state_parts.specs.declared.state.Model.{Model}
use Rattle.c_image.specs.Images.{model_in}
use Rattle.c_calls.specs.Landing.{with_room, ready_of}
use Rattle.c_calls.specs.Playing.{play_ready, play_of}
use Rattle.laws_format.specs.Unreadable.{NoRecord, no_kind, stopped}
use Rattle.laws_format.proofs.Keeping.{our-reads}
use Rattle.laws_demands.specs.Fives.{ImagesFive, ReadersFive, FivesApart}
use Rattle.laws_demands.proofs.Places.{some-kind}

-- a length stands behind a kind's byte
behind-kind : {n place : ℕ} {s : List ℕ} → NoRecord n s place → n ≡ 5 → 1 ≤ place
behind-kind (no_kind b rest none) e = absurd (omega arith)
behind-kind (stopped n kind place e early later next before left listed stand none) five = omega arith

-- 5 of what isn't ready is the image's: a short answer buffer is 12
not-image : (image : List ℕ) (room wanted number : ℕ) → ready_of image room wanted ≡ refused number → number ≡ 5 → model_in image ≡ refused 5
unfolding ready_of
not-image image room wanted number e five = by (model_in image) refl e
  where
    by : (m : Told Model) → model_in image ≡ m → with_room m room wanted ≡ refused number → model_in image ≡ refused 5
    by (refused n) h e = let same : n ≡ number = cc in h ∙ ap refused (same ∙ five)
    by (accepted m) h e = go (ltb room wanted) e
      where
        go : (t : Bool) → pick t (refused 12) (accepted m) ≡ refused number → model_in image ≡ refused 5
        go true e = let same : 12 ≡ number = cc in absurd (omega arith)
        go false e = absurd (let z : ◌≡◌ {A = ℕ} 0 1 = cc in omega arith)

module _ (image bytes : List ℕ) (are : Bytes bytes) (place : ℕ) (shown : List ℕ) where
  by : (m : Told Model) → ready_of image (length shown) 28 ≡ m → (x : Met) → record_at kinds bytes place ≡ x
      → (play_ready m x image place shown).answer.number ≡ 5 → (play_ready m x image place shown).answer.kind ≡ 0
      → ImagesFive image place (play_ready m x image place shown).answer ⊎ ReadersFive bytes place (play_ready m x image place shown).answer
  by (refused number) r x h five none = inl (refl, not-image image (length shown) 28 number r five)
  by (accepted m) r (met e next) h five none = absurd (some-kind (kind_of e) none)
  by (accepted m) r (log.refused n decided) h five none =
      let row = (our-reads.refuses bytes are place n decided).0 h in
      let more = behind-kind row.row five in
      let counts = row.counts in
      inr (omega arith, h ∙ ap (λ (k : ℕ). log.refused k decided) five)
  by (accepted m) r end h five none = absurd (omega arith)

pub fives-apart : FivesApart
unfolding play_of
fives-apart image bytes are place shown = by image bytes are place shown (ready_of image (length shown) 28) refl (record_at kinds bytes place) refl
