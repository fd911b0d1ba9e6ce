-- What each call for C promises of its answer and of every byte that it may change, and that each promise allows one outcome.
use Rattle.std.specs.Prelude.{ℕ, ◌≡◌, List}
use Rattle.base.specs.Outcomes.{One, OfTwo, OfThree}
use Rattle.c_calls.specs.Landing.{left, both}
use Rattle.c_calls.specs.Rules.{rules_number}
use Rattle.c_calls.specs.Playing.{off_of, play_of, event_call_of}
use Rattle.c_calls.specs.Replaying.{replay_of}
use Rattle.c_calls.specs.Showing.{report_call_of, register_of}
use Rattle.c_calls.specs.Writing.{write_call_of}
use Rattle.c_calls.specs.Comparing.{compare_call_of}
use Rattle.c_calls.specs.declared.answer.Answer.{Answer}
use Rattle.c_calls.specs.declared.answer.Byte.{Byte}
use Rattle.c_calls.specs.declared.answer.ComparedLogs.{ComparedLogs}
use Rattle.c_calls.specs.declared.answer.Played.{Played}
use Rattle.c_calls.specs.declared.answer.Put.{Put}
use Rattle.c_calls.specs.declared.answer.Replayed.{Replayed}

abbrev pub RulesPromise : ℕ → Type 0
RulesPromise r = r ≡ rules_number

abbrev pub OffPromise : List ℕ → Answer → List ℕ → Type 0
OffPromise image r after = left r after ≡ off_of image

abbrev pub PlayPromise : List ℕ → List ℕ → ℕ → List ℕ → Played → List ℕ → List ℕ → Type 0
PlayPromise image log place shown r after answered = both r after answered ≡ play_of image log place shown

abbrev pub ReplayPromise : List ℕ → List ℕ → ℕ → Replayed → List ℕ → Type 0
ReplayPromise image log place r after = left r after ≡ replay_of image log place

abbrev pub EventPromise : List ℕ → ℕ → List ℕ → List ℕ → Answer → List ℕ → List ℕ → Type 0
EventPromise image kind words shown r after answered = both r after answered ≡ event_call_of image kind words shown

abbrev pub ReportPromise : List ℕ → List ℕ → Answer → List ℕ → Type 0
ReportPromise image report r after = left r after ≡ report_call_of image report

abbrev pub RegisterPromise : List ℕ → ℕ → Byte → Type 0
RegisterPromise image address r = r ≡ register_of image address

abbrev pub WritePromise : ℕ → List ℕ → List ℕ → Put → List ℕ → Type 0
WritePromise kind words out r after = left r after ≡ write_call_of kind words out

abbrev pub ComparePromise : List ℕ → List ℕ → ComparedLogs → Type 0
ComparePromise first second r = r ≡ compare_call_of first second

-- "equal inputs allow one outcome"
pub record OneOutcome : Type 0 where
  pub rules : One RulesPromise
  pub off : (image : List ℕ) → One (OfTwo (OffPromise image))
  pub play : (image log : List ℕ) (place : ℕ) (shown : List ℕ) → One (OfThree (PlayPromise image log place shown))
  pub replay : (image log : List ℕ) (place : ℕ) → One (OfTwo (ReplayPromise image log place))
  pub event : (image : List ℕ) (kind : ℕ) (words shown : List ℕ) → One (OfThree (EventPromise image kind words shown))
  pub report : (image report : List ℕ) → One (OfTwo (ReportPromise image report))
  pub register : (image : List ℕ) (address : ℕ) → One (RegisterPromise image address)
  pub write : (kind : ℕ) (words out : List ℕ) → One (OfTwo (WritePromise kind words out))
  pub compare : (first second : List ℕ) → One (ComparePromise first second)
