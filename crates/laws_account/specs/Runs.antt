-- What is proved of every run and of every log.
use Rattle.std.specs.Prelude.{ℕ, suc, ◌≡◌, Bool, not, ◌&&◌, List, ◌≢◌, ◌⊎◌, length}
use Rattle.state_parts.specs.declared.phase.Phase.{Phase}
use Rattle.state_parts.specs.declared.profile.Profile.{Profile}
use Rattle.state_parts.specs.declared.state.Model.{Model}
use Rattle.state_parts.specs.declared.state.Model.TheVariants.{Off, On}
use Rattle.log_event.specs.declared.Event.{Event}
use Rattle.step_turns.specs.Begins.{Begins}
use Rattle.step_turns.specs.declared.turn.Turn.TheVariants.{Opens, Follows}
use Rattle.step_event.specs.Steps.{turned_by, step_of}
use Rattle.step_event.specs.Pages.{whole_of}
use Rattle.step_event.specs.Wholes.{events_of}
use Rattle.laws_account.specs.History.{Run, powered, ◌▸◌}
use Rattle.laws_account.specs.Judged.{permitted, suspended, recharge_due}
use Rattle.laws_account.specs.Cycles.{fault, was_done, restarts, Keeps, phase_at}
use Rattle.laws_account.specs.Refused.{Accepted, Past, none, some, refusal_of, next_of, past_of}
use Rattle.laws_account.specs.States.{state_of, model_of, outcome_of}

-- the model after a run
unfoldable pub run_of : Run → Model
run_of (powered p) = (turned_by Off (Opens p)).model
run_of (r ▸ e) = (turned_by (run_of r) (Follows e)).model

-- after every run of accepted events the model is as the account says
abbrev pub AccountIsModel : Type 0
AccountIsModel = (r : Run) → Accepted r → run_of r ≡ On (state_of r)

-- what has come before is none, or a run of accepted events
abbrev pub Lawful : Past → Type 0
Lawful none = Unit {0}
Lawful (some r) = Accepted r

-- whatever event comes next, a later power-on too: the model refuses it with the account's number, and what it comes to is what the account says, all of it
abbrev pub RefusalIsStep : Type 0
RefusalIsStep = (h : Past) → Lawful h → (e : Event) → (step_of (model_of h) e).number ≡ refusal_of h e

abbrev pub OutcomeIsStep : Type 0
OutcomeIsStep = (h : Past) → Lawful h → (e : Event) → step_of (model_of h) e ≡ outcome_of h e

-- the account's phases keep its rule, and no others do
abbrev pub PhaseKeepsRule : Type 0
PhaseKeepsRule = Keeps phase_at

abbrev pub PhaseOnlyOne : Type 0
PhaseOnlyOne = (P : Run → Phase) → Keeps P → (r : Run) → P r ≡ phase_at r

-- "Phase, first that holds: 0 idle, no permission; 7 fault, ..; 6 suspended, ..; 5 done": whether phase 5 would hold
abbrev pub five_holds : Run → Bool
five_holds r = permitted r && not (fault phase_at r) && not (suspended r) && was_done phase_at r

-- "When phase 5 would hold and VBAT is below [the recharge point], done and times clear and the later phases are judged."
abbrev pub RestartsExactly : Type 0
RestartsExactly = (r : Run) → (permitted r && restarts phase_at r) ≡ (five_holds r && recharge_due r)

-- a run begins with what its power-on's own numbers say, whichever kind brought them: "before a power-on" and "since the latest power-on" count each of these kinds
pub record RunBegins (h : Past) (e : Event) (p : Profile) : Type 0 where
  pub with : refusal_of h e ≡ 0 → next_of h e ≡ some (powered p)
  pub else : refusal_of h e ≢ 0 → (refusal_of h e ≡ 5) × (next_of h e ≡ h)

abbrev pub EveryRunBegins : Type 0
EveryRunBegins = (h : Past) (e : Event) (p : Profile) → Begins e p → RunBegins h e p

-- and no other event begins one
abbrev pub NoOtherBegins : Type 0
NoOtherBegins = (h : Past) (e : Event) (p : Profile) → next_of h e ≡ some (powered p) → (Begins e p) ⊎ (h ≡ some (powered p))

-- of a log: the accepted events since its latest accepted power-on
abbrev pub logged : List ℕ → Past
logged bytes = past_of none (events_of (suc (length bytes)) bytes 0)

-- whatever bytes a log holds, refusals and later power-ons included, the walk leaves the model that the account has of them
pub record Walked (bytes : List ℕ) : Type 0 where
  pub model : (whole_of bytes).last.model ≡ model_of (logged bytes)
  pub lawful : Lawful (logged bytes)

abbrev pub EveryLog : Type 0
EveryLog = (bytes : List ℕ) → Walked bytes
