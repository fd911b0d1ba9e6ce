-- Demand 3: what is reported after any run of accepted events since the latest power-on, told by the events alone.
use Rattle.std.specs.Prelude.{ℕ, ◌*◌, ◌/◌, ◌-◌, ◌≤◌, ◌<◌, min, ◌≡◌, ◌↔◌, false, List, [], ◌∷◌}
use Rattle.base.specs.Volts.{millivolts_of}
use Rattle.state_parts.specs.Pins.{ichg_of}
use Rattle.state_parts.specs.declared.band.Band.{Band}
use Rattle.state_parts.specs.declared.state.State.{State}
use Rattle.state_parts.specs.declared.state.Model.{Model}
use Rattle.state_parts.specs.declared.state.Model.TheVariants.{Off, On}
use Rattle.log_event.specs.declared.Event.{Event}
use Rattle.report_state.specs.declared.answer.Report.{Report}
use Rattle.step_kinds.specs.Answers.{Outcome}
use Rattle.laws_account.specs.History.{Run}
use Rattle.laws_account.specs.Held.{profile_of, ichg, overridden}
use Rattle.laws_account.specs.Valued.{setting_of}
use Rattle.laws_account.specs.Judged.{charge_clamp, share_in}
use Rattle.laws_account.specs.Cycles.{Stage}
use Rattle.laws_account.specs.Refused.{none, some, past_of}
use Rattle.laws_third.specs.Crossed.{Short, Low, clamp}
use Rattle.laws_third.specs.Banded.{ByBand, cut, charge_to}
use Rattle.laws_third.specs.Allowed.{Allowed}
use Rattle.laws_third.specs.Stages.{Reached, Done}

-- "the input is good, charge is permitted, no fault or suspending temperature holds, the cycle isn't done, and no stage with a limit has reached it"
pub record Charging (r : Run) : Type 0 where
  pub allowed : Allowed r
  pub undone : ¬ Done r
  pub within : (s : Stage) → ¬ Reached s r

-- "no more than the charge setting, the pin clamp unless overridden, and the temperature band's share"
pub record Bounded (b : Band) (r : Run) (current : ℕ) : Type 0 where
  pub setting : current ≤ setting_of 2 r
  pub clamp : overridden ichg r ≡ false → current ≤ ichg_of (profile_of r)
  pub setting_share : current * 100 ≤ setting_of 2 r * share_in b r
  pub clamp_share : overridden ichg r ≡ false → current * 100 ≤ ichg_of (profile_of r) * share_in b r

-- what demand 3 says of a report after a run, in the band b
pub record ThirdIn (b : Band) (r : Run) (q : Report) : Type 0 where
  -- "Charge current is reported above zero exactly when .."
  pub charges : (0 < q.current) ↔ Charging r
  -- "It is then 100 mA in trickle,"
  pub trickle : Charging r → Short r → q.current ≡ 100
  -- "the precharge setting in precharge,"
  pub precharge : Charging r → ¬ Short r → Low r → q.current ≡ setting_of 3 r
  -- "and otherwise no more than the charge setting, the pin clamp unless overridden, and the temperature band's share."
  pub otherwise : Charging r → ¬ Short r → ¬ Low r → Bounded b r q.current
  -- to the mA: 01, "else the lower of ICHG and clamp, times 20, 40, 100% in cool (ISETC 1-3), 40 or 100% in warm"
  pub amount : Charging r → ¬ Short r → ¬ Low r → q.current ≡ min (setting_of 2 r) (charge_clamp r) * share_in b r / 100
  -- "Charge voltage never exceeds its setting, its clamp or either less the band's cut."
  pub setting : millivolts_of q.voltage ≤ setting_of 1 r
  pub clamped : millivolts_of q.voltage ≤ clamp r
  pub setting_cut : millivolts_of q.voltage ≤ setting_of 1 r - cut b r
  pub clamped_cut : millivolts_of q.voltage ≤ clamp r - cut b r
  -- to the mV: 01, "Phases 1-4 report current and voltage, others zeros. Charge voltage: base, less in warm .."
  pub voltage : Charging r → millivolts_of q.voltage ≡ charge_to b r
  pub zero : ¬ Charging r → millivolts_of q.voltage ≡ 0

-- and in the band that holds
abbrev pub Third : Run → Report → Type 0
Third r q = ByBand (λ b. ThirdIn b r q) r

-- the model that a step leads to through a list of events, refused ones and later power-ons included
unfoldable pub ran_by : (Model → Event → Outcome) → Model → List Event → Model
ran_by step m [] = m
ran_by step m (e ∷ es) = ran_by step (step m e).model es

-- demand 3, of a step and of what is reported of a state: whatever list of events comes, from before any power-on
pub record ThirdOfLists (step : Model → Event → Outcome) (report : State → Report) : Type 0 where
  -- once a power-on was accepted the model is on, and its report is as the accepted events since the latest power-on tell
  pub since : (es : List Event) (r : Run) → past_of none es ≡ some r → (s : State) × (ran_by step Off es ≡ On s) × Third r (report s)
  -- until then it is off
  pub before : (es : List Event) → past_of none es ≡ none → ran_by step Off es ≡ Off
