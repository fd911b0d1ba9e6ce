-- The rule before 02, R-1: never done below its own point; and the run that the customer's log leaves.
use native.Mathlib.Omega.{arith}
use mathlib.Core.Path.{◌≡◌, refl, sym, subst}
use mathlib.Core.Bool.{Bool, true, false, ◌&&◌, and-false}
use mathlib.Core.Logic.{◌≢◌}
use Rattle.state_parts.specs.Numbers.{phase_number}
use Rattle.settle_bands.specs.Joined.{pack_band}
use Rattle.settle_bands.specs.Holding.{bands_of}
use Rattle.settle_levels.specs.Clamps.{base_of}
use Rattle.settle_levels.specs.Comparators.{latches_of}
use Rattle.settle_levels.specs.Voltage.{below_recharge}
use Rattle.settle_phases.specs.Order.{first_phase, judged_of, ends_of, phase_of}
use Rattle.settle_phases.specs.declared.tests.Tests.{Tests}
use Rattle.settle_all.specs.Gather.{tests_of}
use Rattle.settle_all.specs.Settle.{forced_of, settled_of}
use Rattle.settle_all.specs.EndTested.{end_tested}
use Rattle.step_turns.specs.Ranges.{profile_in_range, edition_in_range, sample_in_range, two_in_range}
use Rattle.step_turns.specs.Turns.{turn_of}
use Rattle.laws_account.specs.History.{up_to, count}
use Rattle.laws_account.specs.Held.{elapsed, sample_of}
use Rattle.laws_account.specs.Refused.{none, some, refusal_in, next_of, past_of}
use Rattle.laws_witness.specs.Days.{warm, warm_at}
use Rattle.laws_demands.specs.BasePoint.{NeverDone, until_end}

-- below the recharge point no test leads to done
not_five : (p f s sh lo ta : Bool) → phase_number (first_phase p f s false sh lo ta) ≢ 5
not_five false f s sh lo ta e = omega (arith, e)
not_five true true s sh lo ta e = omega (arith, e)
not_five true false true sh lo ta e = omega (arith, e)
not_five true false false true lo ta e = omega (arith, e)
not_five true false false false true ta e = omega (arith, e)
not_five true false false false false true e = omega (arith, e)
not_five true false false false false false e = omega (arith, e)

never : (t : Tests) → phase_number (phase_of (end_tested t true)) ≢ 5
unfolding phase_of ends_of judged_of
never t = rw (and-false t.done, and-false t.ending, and-false (t.observed && t.tapered), and-false _) (not_five t.permitted t.fault t.suspended t.short t.low t.taper)

pub never_done : NeverDone
unfolding settled_of forced_of below_recharge base_of
never_done s observed below =
    let f = forced_of s in
    let k = latches_of f.profile f.settings f.registers f.sample f.latches in
    let t = tests_of f k (pack_band (bands_of f.profile f.registers f.sample f.bands)) observed in
    subst (λ (b : Bool). phase_number (phase_of (end_tested t b)) ≢ 5) (sym below) (never t)

-- the customer's log leaves the customer's run
pub customer-past : past_of none (until_end 7900) ≡ some (warm_at 7900 3)
unfolding past_of next_of refusal_in turn_of profile_in_range edition_in_range sample_in_range two_in_range warm up_to count elapsed sample_of
customer-past = refl
