-- 02, R-5: "Power-on gets a second event, kind 9 .. From there it acts as kind 1 with those codes." What every product that meets the demands does with it, and wrong readings of it, each
-- this product's step but for that kind.
use Rattle.std.specs.Prelude.{ℕ, ◌*◌, ◌&&◌, ◌||◌, leb, ltb, eqb}
use Rattle.base.specs.Pick.{pick}
use Rattle.log_event.specs.declared.Event.{Event}
use Rattle.log_event.specs.declared.Event.TheVariants.{PowerOn, Set, Write, TakeFlags, Observe, Service, Reset, PowerOnResistors, ObserveTwo, PowerOnEdition, WriteRun, ReadFlags}
use Rattle.log_event.specs.declared.spelled.SpelledResistors.{SpelledResistors}
use Rattle.step_pins.specs.Codes.{resistors, distance, matches, lowest_by, code_of}
use Rattle.step_turns.specs.Coded.{coded_by, coded_of}
use Rattle.step_turns.specs.Ranges.{resistors_in_range}
use Rattle.step_turns.specs.Turns.{held_profile, opens_with, first_edition, turn_of}
use Rattle.step_turns.specs.declared.turn.Turn.{Turn}
use Rattle.step_turns.specs.declared.turn.Turn.TheVariants.{Opens, OpensOutside}
use Rattle.step_event.specs.Steps.{turned_by}
use Rattle.laws_step.specs.Powered.{ActsAsCodes}
use Rattle.laws_demands.specs.Product.{Step, Product}
use Rattle.laws_demands.specs.First.{FirstDemand}
use Rattle.laws_demands.specs.Second.{SecondDemand}

-- of every product that meets demands 1 and 2, on every model
abbrev pub EveryProductActsAsCodes : Type 0
EveryProductActsAsCodes = (p : Product) → FirstDemand p → SecondDemand p → ActsAsCodes p.step

-- ---- wrong readings
-- this product's turns, but that a power-on by its resistors does another thing
abbrev pub other_turn : (SpelledResistors → Turn) → Event → Turn
other_turn other (PowerOn p) = turn_of (PowerOn p)
other_turn other (Set number value) = turn_of (Set number value)
other_turn other (Write address byte) = turn_of (Write address byte)
other_turn other TakeFlags = turn_of TakeFlags
other_turn other (Observe x) = turn_of (Observe x)
other_turn other Service = turn_of Service
other_turn other Reset = turn_of Reset
other_turn other (PowerOnResistors r) = other r
other_turn other (ObserveTwo t) = turn_of (ObserveTwo t)
other_turn other (PowerOnEdition v) = turn_of (PowerOnEdition v)
other_turn other (WriteRun address raw) = turn_of (WriteRun address raw)
other_turn other (ReadFlags address) = turn_of (ReadFlags address)

abbrev pub step_soldered : (SpelledResistors → Turn) → Step
step_soldered other m e = turned_by m (other_turn other e)

-- the codes by another rule
abbrev pub with_codes : (ℕ → ℕ) → SpelledResistors → Turn
with_codes code r = pick (resistors_in_range r) (opens_with (coded_by code r) first_edition) OpensOutside

-- 2% of what was measured
unfoldable pub by_measured : Step
by_measured = step_soldered (with_codes (lowest_by (λ nominal ohms. leb (100 * distance ohms nominal) (2 * ohms)) 1 resistors))

-- the spans' ends left out
unfoldable pub without_ends : Step
without_ends = step_soldered (with_codes (lowest_by (λ nominal ohms. ltb (100 * distance ohms nominal) (2 * nominal)) 1 resistors))

-- a code one higher, or one lower: the table's first resistor is code 2, or 0
unfoldable pub one_higher : Step
one_higher = step_soldered (with_codes (lowest_by matches 2 resistors))

unfoldable pub one_lower : Step
one_lower = step_soldered (with_codes (lowest_by matches 0 resistors))

-- the ILIM ohms up to 100,000 too
unfoldable pub wider_ilim : Step
wider_ilim = step_soldered (λ r. pick (resistors_in_range r && leb r.ohms 100000) (Opens (held_profile (coded_of r) first_edition)) (turn_of (PowerOnResistors r)))

-- a resistor that matches none refused, in place of a pin fault
unfoldable pub fault_refused : Step
fault_refused = step_soldered (λ r. pick (eqb (code_of r.cell) 0 || eqb (code_of r.vchg) 0 || eqb (code_of r.ichg) 0) OpensOutside (turn_of (PowerOnResistors r)))
