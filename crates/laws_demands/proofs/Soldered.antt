-- What every product does with a power-on by its resistors, and that wrong readings of it break demand 2.
use Prim.Native.Nat.{ℕ}
use mathlib.Core.Path.{◌≡◌, refl, sym, ap, subst}
use mathlib.Core.List.{[]}
use Rattle.log_event.specs.declared.Event.{Event}
use Rattle.log_event.specs.declared.Event.TheVariants.{PowerOnResistors}
use Rattle.step_pins.specs.Codes.{code_of}
use Rattle.step_turns.specs.Ranges.{profile_in_range, edition_in_range, resistors_in_range}
use Rattle.step_turns.specs.Turns.{turn_of}
use Rattle.settle_all.specs.Settle.{forced_of, settled_of, settle_of}
use Rattle.state_start.specs.Values.{start_state}
use Rattle.step_kinds.specs.Answers.{Outcome}
use Rattle.step_kinds.specs.Finish.{finish_of}
use Rattle.step_event.specs.Steps.{first_of, change_of, turned_by, step_of}
use Rattle.laws_step.specs.Powered.{ActsAsCodes}
use Rattle.laws_step.proofs.Powered.{acts-as-codes}
use Rattle.laws_third.specs.Demand.{ran_by}
use Rattle.laws_demands.specs.Second.{Moves}
use Rattle.laws_demands.specs.Soldered.{EveryProductActsAsCodes, by_measured, without_ends, one_higher, one_lower, wider_ilim, fault_refused}
use Rattle.laws_demands.proofs.Against.{as-ours}
use Rattle.laws_demands.proofs.Days.{of, differ}
use Rattle.laws_demands.proofs.Only.{only-ours}

pub every-product-acts-as-codes : EveryProductActsAsCodes
every-product-acts-as-codes p first second =
    let steps : p.step ≡ step_of = λ i m e. (only-ours p first second).steps m e i in
    subst ActsAsCodes (sym steps) acts-as-codes

-- the paper's power-on by its resistors, with these at CELL and ILIM
abbrev at : ℕ → ℕ → Event
at cell ohms =
    PowerOnResistors (record { cell = cell; vchg = 13700; ichg = 10500; ohms = ohms; stamp = 0; ceiling = 4500; trickle = 3600; precharge = 7200; fast = 36000; watchdog = 0 })

-- the code at CELL, and the answer
abbrev cell_of : Outcome → ℕ
cell_of = of (λ s. s.profile.cell)

abbrev answer_of : Outcome → ℕ
answer_of o = o.number

pub record Broken : Type 0 where
  pub measured : ¬ Moves by_measured
  pub ends : ¬ Moves without_ends
  pub higher : ¬ Moves one_higher
  pub lower : ¬ Moves one_lower
  pub ilim : ¬ Moves wider_ilim
  pub matchless : ¬ Moves fault_refused

pub broken : Broken
unfolding by_measured without_ends one_higher one_lower wider_ilim fault_refused step_of turned_by change_of first_of turn_of profile_in_range edition_in_range resistors_in_range code_of finish_of settle_of settled_of forced_of start_state ran_by
broken = record {
  measured = λ d. differ 1 0 refl (ap cell_of (as-ours _ d [] (at 4733 0)));
  ends = λ d. differ 0 3 refl (ap cell_of (as-ours _ d [] (at 8085 0)));
  higher = λ d. differ 3 2 refl (ap cell_of (as-ours _ d [] (at 6040 0)));
  lower = λ d. differ 1 2 refl (ap cell_of (as-ours _ d [] (at 6040 0)));
  ilim = λ d. differ 0 5 refl (ap answer_of (as-ours _ d [] (at 6040 33001)));
  matchless = λ d. differ 5 0 refl (ap answer_of (as-ours _ d [] (at 0 0)));
}
