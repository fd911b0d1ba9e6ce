-- What the calls of one kind of event, and of every event's end, promise, and that each promise allows one outcome.
use Rattle.std.specs.Prelude.{ℕ, ◌≡◌, Result}
use Rattle.base.specs.Outcomes.{One}
use Rattle.base.specs.declared.refusal.Refusal.{Refusal}
use Rattle.log_raw.specs.Struct.{raw_of}
use Rattle.log_raw.specs.declared.RawBytes.{RawBytes}
use Rattle.state_parts.specs.declared.profile.Profile.{Profile}
use Rattle.state_parts.specs.declared.state.State.{State}
use Rattle.step_flags.specs.declared.between.Seen.{Seen}
use Rattle.step_kinds.specs.Answers.{finished_told}
use Rattle.step_kinds.specs.Changes.{change_told, made_told}
use Rattle.step_kinds.specs.Finish.{finish_of}
use Rattle.step_kinds.specs.Plain.{opened_as, set_of, written_of, run_from, read_flags_of}
use Rattle.step_kinds.specs.declared.answer.Finished.{Finished}
use Rattle.step_kinds.specs.declared.change.Way.{Way}

abbrev pub OpenedPromise : Profile → State × Way → Type 0
OpenedPromise p r = made_told r ≡ opened_as p

abbrev pub SetPromise : State → ℕ → ℕ → Result (State × Way) Refusal → Type 0
SetPromise s number value r = change_told r ≡ set_of s number value

abbrev pub WritePromise : State → ℕ → ℕ → Result (State × Way) Refusal → Type 0
WritePromise s address byte r = change_told r ≡ written_of s address byte

abbrev pub RunPromise : State → ℕ → RawBytes → Result (State × Way) Refusal → Type 0
RunPromise s address raw r = change_told r ≡ run_from s address (raw_of raw)

abbrev pub ReadFlagsPromise : State → ℕ → Result (State × Way) Refusal → Type 0
ReadFlagsPromise s address r = change_told r ≡ read_flags_of s address

abbrev pub FinishPromise : Seen → State → Way → Finished → Type 0
FinishPromise before written way r = finished_told r ≡ finish_of before written way

-- "equal inputs allow one outcome"
pub record OneOutcome : Type 0 where
  pub opened : (p : Profile) → One (OpenedPromise p)
  pub set : (s : State) (number value : ℕ) → One (SetPromise s number value)
  pub write : (s : State) (address byte : ℕ) → One (WritePromise s address byte)
  pub write-run : (s : State) (address : ℕ) (raw : RawBytes) → One (RunPromise s address raw)
  pub read_flags : (s : State) (address : ℕ) → One (ReadFlagsPromise s address)
  pub finish : (before : Seen) (written : State) (way : Way) → One (FinishPromise before written way)
