-- 01, "Settling, in order": the phase, and when a charge is done, starts again or is cleared, by the tests alone.
use Rattle.std.specs.Prelude.{Bool, true, false, not, ◌&&◌, ◌||◌}
use Rattle.base.specs.Pick.{pick}
use Rattle.state_parts.specs.declared.phase.Phase.{Phase}
use Rattle.state_parts.specs.declared.phase.Phase.TheVariants.{Idle, Trickle, Precharge, Fast, Taper, Done, Suspended, Fault}
use Rattle.settle_phases.specs.declared.tests.Tests.{Tests}

abbrev pub is_taper : Phase → Bool
is_taper Idle = false
is_taper Trickle = false
is_taper Precharge = false
is_taper Fast = false
is_taper Taper = true
is_taper Done = false
is_taper Suspended = false
is_taper Fault = false

-- "Phase, first that holds: 0 idle, no permission; 7 fault, ..; 6 suspended, ..; 5 done; 1 trickle (short); 2 precharge (low); 4 taper, ..; 3 fast."
abbrev pub first_phase : Bool → Bool → Bool → Bool → Bool → Bool → Bool → Phase
first_phase permitted fault suspended done short low taper =
    pick (not permitted) Idle
    (pick fault Fault (pick suspended Suspended (pick done Done (pick short Trickle (pick low Precharge (pick taper Taper Fast))))))

-- "When phase 5 would hold and VBAT is below [the recharge point], done and times clear and the later phases are judged."
unfoldable pub judged_of : Tests → Phase
judged_of t = first_phase t.permitted t.fault t.suspended (t.done && not t.recharge) t.short t.low t.taper

unfoldable pub restarts_of : Tests → Bool
restarts_of t = t.permitted && not t.fault && not t.suspended && t.done && t.recharge

-- "Without it the cycle's times and done are cleared."
unfoldable pub clears_of : Tests → Bool
clears_of t = not t.permitted || restarts_of t

-- "Done begins, and 5 is reported, only on an observation: phase 4 held before it and judged after it, EN_TERM, IBAT < ITERM, no regulation". 02, R-2: "One test fewer at the end of
-- charge": no word of the recharge point, which no such sample is below
unfoldable pub ends_of : Tests → Bool
ends_of t = is_taper (judged_of t) && (t.observed && t.tapered && t.ending)

unfoldable pub phase_of : Tests → Phase
phase_of t = pick (ends_of t) Done (judged_of t)
