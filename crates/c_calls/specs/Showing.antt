-- The calls that look at the model of an image.
use Rattle.std.specs.Prelude.{ℕ, List, [], ◌∷◌, length, Result}
use Rattle.base.specs.declared.refusal.Refusal.{Refusal}
use Rattle.base.specs.Volts.{millivolts_of}
use Rattle.base.specs.Told.{Told, accepted, refused}
use Rattle.base.specs.Writing.{put}
use Rattle.state_parts.specs.Numbers.{phase_number}
use Rattle.state_parts.specs.declared.state.State.{State}
use Rattle.state_parts.specs.declared.state.Model.{Model}
use Rattle.state_parts.specs.declared.state.Model.TheVariants.{Off, On}
use Rattle.report_registers.specs.Reads.{read_register_of}
use Rattle.report_state.specs.Report.{report_of}
use Rattle.report_state.specs.Stats.{stat_number, stat_of}
use Rattle.c_words.specs.Words.{bytes_of}
use Rattle.c_image.specs.Images.{model_in}
use Rattle.c_calls.specs.Landing.{Left, left, answered, ready_of, number_told, value_told}
use Rattle.c_calls.specs.declared.answer.Answer.{Answer}
use Rattle.c_calls.specs.declared.answer.Byte.{Byte}

-- "phase, current, voltage, input limit, held flags, and STAT (0 low, 1 blinking, 2 high)"
unfoldable pub report_numbers : State → List ℕ
report_numbers s =
    let r = report_of s in
    phase_number r.phase ∷ r.current ∷ millivolts_of r.voltage ∷ r.limit ∷ s.flags ∷ stat_number (stat_of s) ∷ []

-- "The report, the flags and STAT of the model as it stands; 6 before a power-on."
abbrev pub report_ready : Told Model → List ℕ → Left Answer
report_ready (refused number) report = left (answered number) report
report_ready (accepted Off) report = left (answered 6) report
report_ready (accepted (On s)) report = left (answered 0) (put (bytes_of (report_numbers s)) report)

unfoldable pub report_call_of : List ℕ → List ℕ → Left Answer
report_call_of image report = report_ready (ready_of image (length report) 24) report

-- "A register's byte; 6 before a power-on. Any address answers: 0xFF outside the map."
abbrev pub byte_told : Told ℕ → Byte
byte_told (accepted byte) = record { number = 0; byte = byte; place = 0 }
byte_told (refused number) = record { number = number; byte = 0; place = 0 }

-- a byte, or a refusal
abbrev pub byte_in : Result ℕ Refusal → Byte
byte_in got = record { number = number_told got; byte = value_told got; place = 0 }

abbrev pub register_in : Told Model → ℕ → Told ℕ
register_in (refused number) address = refused number
register_in (accepted m) address = read_register_of m address

unfoldable pub register_of : List ℕ → ℕ → Byte
register_of image address = byte_told (register_in (model_in image) address)
