-- The report of the account's state is the account's.
use Prim.Native.Nat.{ℕ, zero, suc, ◌*◌, ◌/◌, min}
use mathlib.Core.Path.{◌≡◌, refl, ap, ◌∙◌}
use mathlib.Core.Bool.{Bool, true, false, not, ◌&&◌}
use native.Mathlib.Omega.{arith}
use lib.Dec.{ltb, eqb}
use borrow.Author.Tests.{lt-ltb, le-ltb}
use Rattle.base.specs.Pick.{pick}
use Rattle.base.specs.Volts.{pack_of}
use Rattle.state_parts.specs.Numbers.{phase_number}
use Rattle.state_parts.specs.declared.phase.Phase.{Phase}
use Rattle.state_parts.specs.declared.phase.Phase.TheVariants.{Idle, Trickle, Precharge, Fast, Taper, Done, Suspended, Fault}
use Rattle.report_state.specs.Report.{trickle_current, current_in, charge_clamp_of, fast_current, input_limit_of, report_of}
use Rattle.laws_account.specs.History.{Run}
use Rattle.laws_account.specs.Held.{profile_of}
use Rattle.laws_account.specs.Valued.{setting_of, enabled}
use Rattle.laws_account.specs.Judged.{charge_clamp}
use Rattle.laws_account.specs.Bands.{band_at}
use Rattle.laws_account.specs.Cycles.{phase_at}
use Rattle.state_parts.specs.Pins.{ichg_of}
use Rattle.laws_account.proofs.Fields.{ichg-lifted}
use Rattle.laws_account.proofs.Sharing.{share-is}
use Rattle.laws_account.proofs.Judging.{voltage-is, pack-is}
use Rattle.settle_levels.specs.Voltage.{charge_voltage_of}
use Rattle.state_parts.specs.Stages.{charging}
use Rattle.laws_account.specs.States.{settings_at, registers_at, state_by}
use Rattle.laws_account.specs.Looked.{ReportIsModel}
use Rattle.laws_account.specs.Reported.{fast_at, limit_at, current_at, voltage_at, report_at}

limit_is : (external : Bool) (ohms whole part : ℕ) → pick (not external) whole (pick (ltb ohms 1) whole part) ≡ pick (external && ltb 0 ohms) part whole
limit_is false ohms whole part = refl
limit_is true zero whole part = refl
limit_is true (suc ohms) whole part = simp (le-ltb (suc ohms) 1 (omega arith), lt-ltb 0 (suc ohms) (omega arith))

pub fast-is : (r : Run) → fast_current (profile_of r) (settings_at r) (registers_at r) (band_at r) ≡ fast_at r
unfolding fast_current fast_at charge_clamp_of charge_clamp settings_at registers_at
fast-is r = λ i. min (setting_of 2 r) (pick (eqb (ichg-lifted r i) 1) 3300 (ichg_of (profile_of r))) * share-is (band_at r) r i / 100

input-limit-is : (r : Run) → input_limit_of (profile_of r) (settings_at r) ≡ limit_at r
unfolding input_limit_of limit_at settings_at
input-limit-is r = limit_is (enabled 12 r) (profile_of r).ohms (setting_of 5 r) (min (setting_of 5 r) (3333000 / (profile_of r).ohms))

current-is : (p : Phase) (trickle precharge fast : ℕ)
    → current_in p trickle precharge fast ≡ pick (not (charging p)) 0 (pick (eqb (phase_number p) 1) trickle (pick (eqb (phase_number p) 2) precharge fast))
current-is Idle trickle precharge fast = refl
current-is Trickle trickle precharge fast = refl
current-is Precharge trickle precharge fast = refl
current-is Fast trickle precharge fast = refl
current-is Taper trickle precharge fast = refl
current-is Done trickle precharge fast = refl
current-is Suspended trickle precharge fast = refl
current-is Fault trickle precharge fast = refl

pub report-is-model : ReportIsModel
unfolding report_of report_at current_at voltage_at state_by settings_at
report-is-model r =
    let trickle = trickle_current (profile_of r) in
    let current = ap (current_in (phase_at r) trickle (setting_of 3 r)) (fast-is r) ∙ current-is (phase_at r) trickle (setting_of 3 r) (fast_at r) in
    (λ i. record {
      phase = phase_at r;
      current = current_in (phase_at r) trickle (setting_of 3 r) (fast_current (profile_of r) (settings_at r) (registers_at r) (pack-is r i));
      voltage = pick (charging (phase_at r)) (charge_voltage_of (profile_of r) (settings_at r) (registers_at r) (pack-is r i)) (pack_of 0);
      limit = input_limit_of (profile_of r) (settings_at r);
    })
    ∙ λ i. record { phase = phase_at r; current = current i; voltage = pick (charging (phase_at r)) (voltage-is r i) (pack_of 0); limit = input-limit-is r i }
