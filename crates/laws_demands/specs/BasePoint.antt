-- The rule before 02, R-1, kept to be held against it: the recharge point a share of base, before the band's cut. All else of the step is this product's.
use Rattle.std.specs.Prelude.{ℕ, ◌≡◌, Bool, true, List, [], ◌∷◌, ◌++◌, ◌≢◌, pos}
use Rattle.state_parts.specs.Numbers.{phase_number}
use Rattle.state_parts.specs.declared.state.State.{State}
use Rattle.state_parts.specs.declared.state.Model.{Model}
use Rattle.state_parts.specs.declared.state.Model.TheVariants.{Off}
use Rattle.log_event.specs.declared.Event.{Event}
use Rattle.log_event.specs.declared.Event.TheVariants.{PowerOn, Write, Observe}
use Rattle.settle_levels.specs.Clamps.{base_of}
use Rattle.settle_levels.specs.Voltage.{below_recharge}
use Rattle.settle_all.specs.Gather.{tests_of}
use Rattle.settle_all.specs.Settle.{Tester, settle_by}
use Rattle.settle_all.specs.EndTested.{end_tested}
use Rattle.report_state.specs.Report.{report_of}
use Rattle.step_event.specs.Steps.{step_of}
use Rattle.laws_demands.specs.Product.{Step}
use Rattle.laws_demands.specs.Printed.{report_in}
use Rattle.laws_demands.specs.EndTest.{step_by, never_restarts}

-- "VBAT is below 92.7, 94.1, 95.5, 97% of base by VRECHG 0-3"
abbrev pub below_by_base : State → Bool
below_by_base s = below_recharge s.profile s.settings (base_of s.profile s.settings s.registers) s.sample

-- for ending and for restarting
abbrev pub tests_by_base : Tester
tests_by_base s k b observed = end_tested (tests_of s k b observed) (below_by_base s)

unfoldable pub step_by_base : Step
step_by_base m e = step_by tests_by_base m e

-- "packs that taper for ever": by that rule no settling comes to phase 5 below its point, whatever the band and the charge voltage
abbrev pub NeverDone : Type 0
NeverDone = (s : State) (observed : Bool) → below_by_base s ≡ true → phase_number (settle_by tests_by_base s observed).phase ≢ 5

-- the customer's log: "Two cells at 8,400 are cut to 7,900", JEITA_VSET 1; a VBAT that stays in warm, IBAT below ITERM from the second sample on; then TS back to normal
abbrev pub seen_at : ℕ → ℕ → ℕ → ℕ → Event
seen_at stamp level ibat ts = Observe (record { stamp = stamp; input = 12000; pack = level; ibat = pos ibat; ts = ts; bits = 0 })

abbrev pub until_taper : ℕ → List Event
until_taper level =
    PowerOn (record { cell = 2; vchg = 5; ichg = 4; ohms = 0; stamp = 0; ceiling = 4500; trickle = 30; precharge = 40; fast = 20; watchdog = 0 })
    ∷ Write 0x19 0xB7
    ∷ seen_at 1000 level 500 40000
    ∷ []

abbrev pub until_end : ℕ → List Event
until_end level = until_taper level ++ (seen_at 2000 level 50 40000 ∷ [])

abbrev pub customer : ℕ → List Event
customer level = until_end level ++ (seen_at 3000 level 0 40000 ∷ seen_at 4000 level 500 55000 ∷ [])

-- the phase after each event
unfoldable pub phases_by : Step → Model → List Event → List ℕ
phases_by step m [] = []
phases_by step m (e ∷ es) = phase_number (report_in report_of (step m e).model).phase ∷ phases_by step (step m e).model es

-- by this product done at 7,890, and restarted by the band alone; by that rule in taper for as long as it is warm; and done for ever where the restart has no test
pub record CustomerTold : Type 0 where
  pub ours : phases_by step_of Off (customer 7890) ≡ 0 ∷ 0 ∷ 4 ∷ 5 ∷ 5 ∷ 3 ∷ []
  pub by_base : phases_by step_by_base Off (customer 7890) ≡ 0 ∷ 0 ∷ 4 ∷ 4 ∷ 4 ∷ 3 ∷ []
  pub unrestarted : phases_by never_restarts Off (customer 7890) ≡ 0 ∷ 0 ∷ 4 ∷ 5 ∷ 5 ∷ 5 ∷ []
