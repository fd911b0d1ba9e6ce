-- 02, R-3: the reader's 5 "counts wherever 01 says 1-4", and an image that isn't one is 5 too. The header: "With kind 0 the reader's has a place above the given one .. and the image's has the given place": so a
-- head that plays a record can tell them apart, whatever bytes it lends.
use Rattle.std.specs.Prelude.{ℕ, ◌<◌, ◌≡◌, List, ◌⊎◌}
use Rattle.base.specs.Told.{refused}
use Rattle.log_number.specs.Promises.{Bytes}
use Rattle.log_event.specs.Kinds.{kinds}
use Rattle.log_record.specs.Records.{record_at}
use Rattle.log_record.specs.Records as log
use Rattle.c_image.specs.Images.{model_in}
use Rattle.c_calls.specs.Playing.{play_of}
use Rattle.c_calls.specs.declared.answer.Played.{Played}

abbrev pub ImagesFive : List ℕ → ℕ → Played → Type 0
ImagesFive image place told = (told.place ≡ place) × (model_in image ≡ refused 5)

abbrev pub ReadersFive : List ℕ → ℕ → Played → Type 0
ReadersFive bytes place told = (place < told.place) × (record_at kinds bytes place ≡ log.refused 5 told.place)

abbrev pub FivesApart : Type 0
FivesApart = (image bytes : List ℕ) → Bytes bytes → (place : ℕ) (shown : List ℕ) → (play_of image bytes place shown).answer.number ≡ 5 → (play_of image bytes place shown).answer.kind ≡ 0
    → ImagesFive image place (play_of image bytes place shown).answer ⊎ ReadersFive bytes place (play_of image bytes place shown).answer
