-- What is reported of the account's state: current and voltage by its phase.
use Prim.Native.Nat.{ℕ, ◌≤◌, ◌<◌}
use native.Mathlib.Omega.{arith}
use mathlib.Core.Path.{◌≡◌, refl, ap, ◌∙◌}
use mathlib.Core.Bool.{Bool, true, false, false≢true}
use Rattle.base.specs.Pick.{pick}
use Rattle.base.specs.Volts.{millivolts_of, pack_of}
use Rattle.state_parts.specs.declared.phase.Phase.{Phase}
use Rattle.state_parts.specs.declared.phase.Phase.TheVariants.{Idle, Trickle, Precharge, Fast, Taper, Done, Suspended, Fault}
use Rattle.settle_levels.specs.Voltage.{charge_voltage_of}
use Rattle.state_parts.specs.Stages.{charging}
use Rattle.report_state.specs.Report.{trickle_current, current_in, report_of, fast_current}
use Rattle.laws_account.specs.History.{Run}
use Rattle.laws_account.specs.Held.{profile_of}
use Rattle.laws_account.specs.Valued.{setting_of}
use Rattle.laws_account.specs.Bands.{bands_at, band_at}
use Rattle.laws_account.specs.Cycles.{phase_at}
use Rattle.laws_account.specs.Reported.{fast_at}
use Rattle.laws_account.proofs.Judging.{voltage-is, pack-is}
use Rattle.settle_bands.specs.Joined.{pack_band}
use Rattle.state_parts.specs.declared.band.Band.{Band}
use Rattle.laws_account.proofs.Reports.{fast-is}
use Rattle.laws_account.specs.States.{settings_at, registers_at, state_by, state_of}
use Rattle.laws_account.specs.Refused.{Accepted}
use Rattle.laws_third.specs.Banded.{charge_to}
use Rattle.laws_third.proofs.Bands.{voltage-plain}
use Rattle.laws_third.proofs.Charges.{stage}

-- the account's share, cut and amounts are those of the report
pub current-is : (r : Run) → (report_of (state_of r)).current ≡ current_in (phase_at r) (trickle_current (profile_of r)) (setting_of 3 r) (fast_at r)
unfolding report_of state_by settings_at
current-is r =
    ap (current_in (phase_at r) (trickle_current (profile_of r)) (setting_of 3 r)) (ap (fast_current (profile_of r) (settings_at r) (registers_at r)) (pack-is r) ∙ fast-is r)

charge-is : (r : Run) → Accepted r → millivolts_of (charge_voltage_of (profile_of r) (settings_at r) (registers_at r) (pack_band (bands_at r))) ≡ charge_to (band_at r) r
charge-is r a = ap (λ (b : Band). millivolts_of (charge_voltage_of (profile_of r) (settings_at r) (registers_at r) b)) (pack-is r) ∙ ap millivolts_of (voltage-is r) ∙ voltage-plain r a

abbrev pub charge_at : Run → ℕ
charge_at r = charge_to (band_at r) r

abbrev pub volts : Run → ℕ
volts r = millivolts_of (report_of (state_of r)).voltage

pub volts-are : (r : Run) → Accepted r → (t : Bool) → charging (phase_at r) ≡ t → volts r ≡ pick t (charge_at r) 0
unfolding report_of state_by
volts-are r a true e = ap (λ b. millivolts_of (pick b (charge_voltage_of (profile_of r) (settings_at r) (registers_at r) (pack_band (bands_at r))) (pack_of 0))) e ∙ charge-is r a
volts-are r a false e = ap (λ b. millivolts_of (pick b (charge_voltage_of (profile_of r) (settings_at r) (registers_at r) (pack_band (bands_at r))) (pack_of 0))) e

pub volts-most : (r : Run) → Accepted r → (t : Bool) → charging (phase_at r) ≡ t → volts r ≤ charge_at r
volts-most r a true e = omega (arith, volts-are r a true e)
volts-most r a false e = omega (arith, volts-are r a false e)

-- a current is above zero in a phase that charges alone
pub only-charging : (q : Phase) (t a b : ℕ) → 0 < current_in q t a b → charging q ≡ true
only-charging Idle t a b h = absurd (omega (arith, h))
only-charging Trickle t a b h = refl
only-charging Precharge t a b h = refl
only-charging Fast t a b h = refl
only-charging Taper t a b h = refl
only-charging Done t a b h = absurd (omega (arith, h))
only-charging Suspended t a b h = absurd (omega (arith, h))
only-charging Fault t a b h = absurd (omega (arith, h))

pub some-current : (q : Phase) (c a b : ℕ) → 0 < c → 0 < a → 0 < b → charging q ≡ true → 0 < current_in q c a b
some-current Idle c a b g h k t = absurd (false≢true t)
some-current Trickle c a b g h k t = g
some-current Precharge c a b g h k t = h
some-current Fast c a b g h k t = k
some-current Taper c a b g h k t = k
some-current Done c a b g h k t = absurd (false≢true t)
some-current Suspended c a b g h k t = absurd (false≢true t)
some-current Fault c a b g h k t = absurd (false≢true t)

-- the current of each stage
pub staged-current : (sh lo ta : Bool) (c a b : ℕ) → current_in (stage sh lo ta) c a b ≡ pick sh c (pick lo a b)
staged-current true lo ta c a b = refl
staged-current false true ta c a b = refl
staged-current false false true c a b = refl
staged-current false false false c a b = refl
