-- What every call on an image begins with, and what an event leaves in the lent bytes.
use Rattle.std.specs.Prelude.{ℕ, Bool, List, [], ◌∷◌, ltb, eqb, Result, Ok, Err}
use Rattle.base.specs.Pick.{pick, bit_of}
use Rattle.base.specs.Refusals.{refusal_number}
use Rattle.base.specs.declared.refusal.Refusal.{Refusal}
use Rattle.base.specs.Volts.{millivolts_of}
use Rattle.base.specs.Told.{Told, accepted, refused}
use Rattle.base.specs.Writing.{put}
use Rattle.state_parts.specs.Numbers.{phase_number}
use Rattle.state_parts.specs.declared.state.Model.{Model}
use Rattle.state_parts.specs.declared.state.Model.TheVariants.{Off, On}
use Rattle.report_state.specs.Report.{report_of}
use Rattle.step_kinds.specs.Answers.{Outcome}
use Rattle.c_words.specs.Words.{bytes_of}
use Rattle.c_image.specs.Images.{image_of, model_in}
use Rattle.c_calls.specs.declared.answer.Answer.{Answer}

-- what a call answers, and the bytes that it leaves in the one part that it may change
pub record Left (A : Type 0) : Type 0 where
  pub answer : A
  pub bytes : List ℕ

abbrev pub left : {A : Type 0} → A → List ℕ → Left A
left a bytes = record { answer = a; bytes = bytes }

-- what a call answers, and what it leaves in the image and in the answer buffer
pub record Both (A : Type 0) : Type 0 where
  pub answer : A
  pub image : List ℕ
  pub shown : List ℕ

abbrev pub both : {A : Type 0} → A → List ℕ → List ℕ → Both A
both a image shown = record { answer = a; image = image; shown = shown }

-- "`number` is 0, or the refusal's number of the paper's table." "`place` is the refusal's place, an offset in the log, and 0 outside one."
abbrev pub answered : ℕ → Answer
answered number = record { number = number; place = 0 }

-- the number of what an event or a call came to, or of a refusal before that
abbrev pub number_in : Result ℕ Refusal → ℕ
number_in (Ok number) = number
number_in (Err r) = refusal_number r

-- "`number` is 0, or the refusal's number", of a call that asks for a number; and that number, which is 0 with a refusal
abbrev pub number_told : Result ℕ Refusal → ℕ
number_told (Ok value) = 0
number_told (Err r) = refusal_number r

abbrev pub value_told : Result ℕ Refusal → ℕ
value_told (Ok value) = value
value_told (Err r) = 0

-- "bytes that aren't an image .. are 5 before all else; then an answer buffer that is too short is 12; then what the call is about is judged"
abbrev pub with_room : Told Model → ℕ → ℕ → Told Model
with_room (refused number) room wanted = refused number
with_room (accepted m) room wanted = pick (ltb room wanted) (refused 12) (accepted m)

abbrev pub ready_told : Result Model Refusal → Told Model
ready_told (Ok m) = accepted m
ready_told (Err r) = refused (refusal_number r)

unfoldable pub ready_of : List ℕ → ℕ → ℕ → Told Model
ready_of image room wanted = with_room (model_in image) room wanted

-- "what an accepted event shows: phase, current, voltage, input limit, pulse, held flags, and what the event handed back: kind 4 the flags, kind 14 the register's byte, others 0"
unfoldable pub shown_numbers : Model → Bool → ℕ → List ℕ
shown_numbers Off pulse handed = 0 ∷ 0 ∷ 0 ∷ 0 ∷ bit_of pulse ∷ 0 ∷ handed ∷ []
shown_numbers (On s) pulse handed =
    let r = report_of s in
    phase_number r.phase ∷ r.current ∷ millivolts_of r.voltage ∷ r.limit ∷ bit_of pulse ∷ s.flags ∷ handed ∷ []

-- "Accepted: the image is the model after it and `shown` shows it." "A refusal leaves every lent byte as it was."
unfoldable pub land_of : Outcome → List ℕ → List ℕ → Both ℕ
land_of o image shown =
    pick (eqb o.number 0)
    (both 0 (image_of o.model) (put (bytes_of (shown_numbers o.model o.pulse o.handed)) shown))
    (both o.number image shown)
