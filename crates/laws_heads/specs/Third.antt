-- Demand 3 of a head: what its calls report of an image, told by the events that they were given.
use Rattle.std.specs.Prelude.{ℕ, ◌+◌, ◌*◌, ◌≤◌, ◌≡◌, List, [], ◌∷◌, ◌++◌, length, drop}
use Rattle.base.specs.Volts.{millivolts_of}
use Rattle.state_parts.specs.Numbers.{phase_number}
use Rattle.log_event.specs.declared.Event.{Event}
use Rattle.report_state.specs.declared.answer.Report.{Report}
use Rattle.c_words.specs.Words.{bytes_of}
use Rattle.c_calls.specs.Landing.{left, answered}
use Rattle.c_calls.specs.Promises.{Calls}
use Rattle.laws_account.specs.History.{Run}
use Rattle.laws_account.specs.Refused.{none, some, refusal_of, past_of}
use Rattle.laws_third.specs.Demand.{Third}
use Rattle.laws_heads.specs.Given.{EventGives, PlayGives}
use Rattle.laws_heads.specs.Moved.{Moved}

-- CHEUKDANE_REPORT: "Bytes of a report"
abbrev pub report_bytes : ℕ
report_bytes = 24

-- a call answers 0 and writes phase, current, voltage and input limit of a report that is as demand 3 says after the run, and so many words more; "the bytes after them stay"
pub record Shows (r : Run) (more number : ℕ) (before after : List ℕ) : Type 0 where
  pub answers : number ≡ 0
  pub report : Report
  pub third : Third r report
  pub others : List ℕ
  pub many : length others ≡ more
  pub words : after ≡ bytes_of (phase_number report.phase ∷ report.current ∷ millivolts_of report.voltage ∷ report.limit ∷ others) ++ drop ((4 + more) * 4) before

-- of every image that calls led to, and the run that the events they were given leave: the accepted ones since the latest accepted power-on
pub record ThirdOfImages (calls : Calls) : Type 0 where
  -- "The report, the flags and STAT of the model as it stands;": two words more
  pub report : (es : List Event) (image : List ℕ) → Moved calls es image → (r : Run) → past_of none es ≡ some r → (part : List ℕ) → report_bytes ≤ length part
      → Shows r 2 (calls.report image part).answer.number part (calls.report image part).bytes
  -- "6 before a power-on."
  pub before : (es : List Event) (image : List ℕ) → Moved calls es image → past_of none es ≡ none → (part : List ℕ) → report_bytes ≤ length part
      → calls.report image part ≡ left (answered 6) part
  -- "Accepted: the image is the model after it and `shown` shows it.": three words more, "pulse, held flags, and the flags that the event handed back"
  pub event : (es : List Event) (image : List ℕ) → Moved calls es image → (kind : ℕ) (words shown : List ℕ) (e : Event) → EventGives kind words (length shown) (e ∷ [])
      → refusal_of (past_of none es) e ≡ 0 → (r : Run) → past_of none (es ++ (e ∷ [])) ≡ some r
      → Shows r 3 (calls.event image kind words shown).answer.number shown (calls.event image kind words shown).shown
  pub play : (es : List Event) (image : List ℕ) → Moved calls es image → (log : List ℕ) (place : ℕ) (shown : List ℕ) (e : Event) → PlayGives log place (length shown) (e ∷ [])
      → refusal_of (past_of none es) e ≡ 0 → (r : Run) → past_of none (es ++ (e ∷ [])) ≡ some r
      → Shows r 3 (calls.play image log place shown).answer.number shown (calls.play image log place shown).shown
