-- 02, R-8: "the bands agree wherever the hold keeps nothing that the first edition would leave": what two logs print that differ in the edition alone, and what every product makes of kind 11.
use Rattle.std.specs.Prelude.{ℕ, suc, ◌≡◌, List, [], ◌∷◌, ◌++◌, pos, length, take}
use Rattle.log_event.specs.declared.Event.{Event}
use Rattle.log_event.specs.declared.Event.TheVariants.{Observe, PowerOnEdition}
use Rattle.log_event.specs.declared.spelled.SpelledProfile.{SpelledProfile}
use Rattle.state_parts.specs.declared.state.Model.TheVariants.{Off}
use Rattle.report_state.specs.Report.{report_of}
use Rattle.report_state.specs.declared.line.Line.{Line}
use Rattle.step_event.specs.Steps.{step_of}
use Rattle.laws_step.specs.Powered.{FirstActsAsOne}
use Rattle.laws_account.specs.Bands.{Thermistor}
use Rattle.laws_account.specs.Refused.{Past, none, some, next_of}
use Rattle.laws_third.specs.Editions.{KeptAt}
use Rattle.laws_demands.specs.Product.{Product}
use Rattle.laws_demands.specs.First.{FirstDemand}
use Rattle.laws_demands.specs.Second.{SecondDemand}
use Rattle.laws_demands.specs.Printed.{lines_by}

-- of every product that meets demands 1 and 2: kind 11 with edition 1 acts as kind 1
abbrev pub EveryProductActsAsOne : Type 0
EveryProductActsAsOne = (p : Product) → FirstDemand p → SecondDemand p → FirstActsAsOne p.step

-- a power-on of an edition
abbrev pub opening : SpelledProfile → ℕ → Event
opening p edition = PowerOnEdition (record { profile = p; edition = edition })

-- nothing is kept that the first edition would leave: now, and at any moment that events lead to
abbrev pub NothingKept : Past → Type 0
NothingKept none = Unit {0}
NothingKept (some r) = (k : Thermistor) → ¬ KeptAt k r

abbrev pub KeepsNothing : Past → List Event → Type 0
KeepsNothing h [] = Unit {0}
KeepsNothing h (e ∷ es) = NothingKept (next_of h e) × KeepsNothing (next_of h e) es

-- two runs that differ in the edition alone give the same lines up to the first moment at which the hold keeps such a thing, whatever comes then; refused events have their lines too
abbrev pub EditionsPrintAlike : Type 0
EditionsPrintAlike =
    (p : SpelledProfile) (es more : List Event) → KeepsNothing none (opening p 2 ∷ es)
    → let lines : ℕ → List Line = λ edition. take (suc (length es)) (lines_by step_of report_of Off 0 (opening p edition ∷ (es ++ more))) in
    lines 1 ≡ lines 2

-- the currents that lines show
abbrev pub currents_of : List Line → List ℕ
currents_of [] = []
currents_of (l ∷ ls) = l.current ∷ currents_of ls

-- with a log on each side: cold and then well back, where nothing is kept; and cool and then 999 units back, where one edition charges with what it left and the other with its share
abbrev pub seen_twice : ℕ → ℕ → List Event
seen_twice ts then =
    let sees : ℕ → ℕ → Event = λ stamp value. Observe (record { stamp = stamp; input = 12000; pack = 7600; ibat = pos 0; ts = value; bits = 0 }) in
    sees 1000 ts ∷ sees 2000 then ∷ []

abbrev pub any_pack : SpelledProfile
any_pack = record { cell = 2; vchg = 5; ichg = 4; ohms = 0; stamp = 0; ceiling = 4500; trickle = 0; precharge = 0; fast = 0; watchdog = 0 }

abbrev pub currents : ℕ → List ℕ
currents edition = currents_of (lines_by step_of report_of Off 0 (opening any_pack edition ∷ seen_twice 68250 67251))

pub record LinesOnEachSide : Type 0 where
  pub alike : KeepsNothing none (opening any_pack 2 ∷ seen_twice 75320 55000)
  pub first : currents 1 ≡ 0 ∷ 300 ∷ 1500 ∷ []
  pub second : currents 2 ≡ 0 ∷ 300 ∷ 300 ∷ []
