-- A state's numbers make the state again.
use Prim.Native.Nat.{ℕ, ◌+◌, ◌*◌, ◌/◌, ◌%◌, ◌≤◌}
use mathlib.Core.Path.{◌≡◌, refl}
use mathlib.Core.Bool.{Bool, true, false}
use native.Mathlib.Omega.{arith}
use lib.Dec.{eqb}
use Rattle.base.specs.Pick.{bit_of}
use Rattle.state_parts.specs.Edges.{all_flags}
use Rattle.state_parts.specs.Numbers.{phase_number, ts_band_number}
use Rattle.state_parts.specs.declared.band.TsBand.{TsBand}
use Rattle.state_parts.specs.declared.band.TsBand.TheVariants.{Normal, Cold, Hot, Cool, Warm}
use Rattle.state_parts.specs.declared.phase.Phase.{Phase}
use Rattle.state_parts.specs.declared.phase.Phase.TheVariants.{Idle, Trickle, Precharge, Fast, Taper, Done, Suspended, Fault}
use Rattle.state_settings.specs.Numbered.{setting_numbers}
use Rattle.log_number.proofs.SignLaws.{signs}
use Rattle.c_list.specs.Numbers.{state_numbers}
use Rattle.c_list.specs.Back.{phase_from, band_from, flags_from, state_from}
use Rattle.c_list.specs.Promises.{MadeAgain}

-- a test's number says it again
test_back : (t : Bool) → eqb (bit_of t) 1 ≡ t
test_back true = refl
test_back false = refl

flags-back : (n : ℕ) → n ≤ all_flags → flags_from n ≡ n
flags-back n h = omega (arith, h)

phase-back : (p : Phase) → phase_from (phase_number p) ≡ p
phase-back Idle = refl
phase-back Trickle = refl
phase-back Precharge = refl
phase-back Fast = refl
phase-back Taper = refl
phase-back Done = refl
phase-back Suspended = refl
phase-back Fault = refl

band-back : (b : TsBand) → band_from (ts_band_number b) ≡ b
band-back Normal = refl
band-back Cold = refl
band-back Hot = refl
band-back Cool = refl
band-back Warm = refl

halves-back : (n : ℕ) → n % 0x100000000 + n / 0x100000000 * 0x100000000 ≡ n
halves-back n = omega arith

pub made_again : MadeAgain
unfolding state_from state_numbers setting_numbers
made_again s h =
    let w = s.registers.words in
    rw (
      halves-back w.w0,
      halves-back w.w1,
      halves-back w.w2,
      halves-back w.w3,
      halves-back w.w4,
      signs.back s.sample.ibat,
      phase-back s.phase,
      band-back s.bands.first,
      band-back s.bands.second,
      flags-back s.flags h,
      test_back s.settings.enchg,
      test_back s.settings.enterm,
      test_back s.settings.enhiz,
      test_back s.settings.enextilim,
      test_back s.settings.disstat,
      test_back s.latches.inputok,
      test_back s.latches.inputover,
      test_back s.latches.short,
      test_back s.latches.low,
      test_back s.latches.packover,
      test_back s.cycle.done,
    )
