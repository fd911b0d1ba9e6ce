-- What is proved of every step, of every model and every event, beside what `step_event` proves of it.
use Rattle.std.specs.Prelude.{ℕ, ◌+◌, ◌*◌, ◌^◌, ◌≤◌, ◌<◌, ◌≡◌, true, false, ◌↔◌, ◌⊎◌}
use Rattle.base.specs.Stamps.{elapsed_of}
use Rattle.state_parts.specs.Edges.{no_flags}
use Rattle.state_parts.specs.With.{with_flags}
use Rattle.state_parts.specs.declared.sample.Sample.{Sample}
use Rattle.state_parts.specs.declared.state.State.{State}
use Rattle.state_parts.specs.declared.state.Model.{Model}
use Rattle.state_parts.specs.declared.state.Model.TheVariants.{On}
use Rattle.log_event.specs.declared.Event.{Event}
use Rattle.log_event.specs.declared.Event.TheVariants.{TakeFlags}
use Rattle.state_valid.specs.Holds.{sample_ok, state_ok}
use Rattle.step_turns.specs.declared.later.Later.TheVariants.{Observe}
use Rattle.step_turns.specs.declared.turn.Turn.TheVariants.{Follows}
use Rattle.settle_all.specs.Settle.{settle_of}
use Rattle.step_event.specs.Clock.{observed_of}
use Rattle.step_kinds.specs.Answers.{Outcome}
use Rattle.step_event.specs.Steps.{turned_by, step_of}
use Rattle.laws_step.specs.Ranged.{Among}
use Rattle.laws_step.specs.Rows.{Row}

-- "Given exactly when": each number but 0, which is an accepted event's, exactly when one of its rows says so
abbrev pub Given : ℕ → Type 0
Given n = (m : Model) (e : Event) → ((step_of m e).number ≡ n) ↔ Row n m e

abbrev pub EachGiven : Type 0
EachGiven = (n : ℕ) → 1 ≤ n → Given n

-- a step gives 0, one of 5 to 11, or 15
abbrev pub NumberKnown : Type 0
NumberKnown = (m : Model) (e : Event) → ((step_of m e).number ≡ 0) ⊎ (Among (step_of m e).number 5 11 ⊎ ((step_of m e).number ≡ 15))

-- "A limit of s seconds is reached at 2,000s units; a limit 0 counts nothing." A stage's time as it was added, which nothing wraps or cuts.
pub record StageFits (limit time : ℕ) : Type 0 where
  pub unused : limit ≡ 0 → time ≡ 0
  pub below : time < limit * 2000 + 7200000
  pub fits : time < 2 ^ 32

-- 01: "invented stage times .. break 3's sums": no sum of an accepted observation wraps, whatever kind says it
pub record SumsFit (s : State) (x : Sample) : Type 0 where
  pub trickle : StageFits s.profile.trickle (observed_of s x).cycle.trickle
  pub precharge : StageFits s.profile.precharge (observed_of s x).cycle.precharge
  pub fast : StageFits s.profile.fast (observed_of s x).cycle.fast
  pub watchdog : s.watchdog.count + elapsed_of s.sample.stamp x.stamp < 2 ^ 32

abbrev pub NoSumWraps : Type 0
NoSumWraps = (s : State) (x : Sample) → sample_ok x ≡ true → (turned_by (On s) (Follows (Observe x))).number ≡ 0 → SumsFit s x

-- "Settling with neither a new event nor time changes nothing.": so of every state that an accepted event makes
abbrev pub StepSettles : Type 0
StepSettles = (m : Model) (e : Event) (s : State) → (step_of m e).number ≡ 0 → (step_of m e).model ≡ On s → settle_of s false ≡ s

-- "take flags | none; hands back the held flags and clears them"; "so kind 4 prints flags 0": on a state that is settled nothing else moves, and it doesn't pulse
abbrev pub taken_from : State → Outcome
taken_from s = record { number = 0; place = 0; model = On (with_flags s no_flags); pulse = false; handed = s.flags }

abbrev pub TakesFlags : Type 0
TakesFlags = (s : State) → state_ok s ≡ true → settle_of s false ≡ s → step_of (On s) TakeFlags ≡ taken_from s

-- and so after every accepted event
abbrev pub TakeFlagsAgain : Type 0
TakeFlagsAgain = (m : Model) (e : Event) (s : State) → (step_of m e).number ≡ 0 → (step_of m e).model ≡ On s → step_of (On s) TakeFlags ≡ taken_from s
