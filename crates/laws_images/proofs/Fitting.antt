-- The numbers of a state have 32 bits where those of its parts do.
use Prim.Native.Nat.{ℕ, zero, suc, ◌^◌, ◌<◌}
use mathlib.Core.Bool.{Bool, true, false}
use mathlib.Core.List.{List, [], ◌∷◌, ◌++◌}
use native.Mathlib.Omega.{arith}
use lib.ListN.{get_or}
use Rattle.base.specs.Pick.{bit_of}
use Rattle.state_parts.specs.Numbers.{phase_number, ts_band_number}
use Rattle.state_parts.specs.declared.band.TsBand.{TsBand}
use Rattle.state_parts.specs.declared.band.TsBand.TheVariants.{Normal, Cold, Hot, Cool, Warm}
use Rattle.state_parts.specs.declared.latches.Latches.{Latches}
use Rattle.state_parts.specs.declared.phase.Phase.{Phase}
use Rattle.state_parts.specs.declared.phase.Phase.TheVariants.{Idle, Trickle, Precharge, Fast, Taper, Done, Suspended, Fault}
use Rattle.state_parts.specs.declared.state.State.{State}
use Rattle.c_words.specs.Promises.{AllWords}
use Rattle.c_list.specs.Numbers.{profile_numbers, settings_numbers, registers_numbers, latches_numbers, cycle_numbers, watchdog_numbers, sample_numbers, judged_numbers, state_numbers}

-- numbers that are small whatever the state
bit-low : (t : Bool) → bit_of t < 2
bit-low true = omega arith
bit-low false = omega arith

pub bit-fits : (t : Bool) → bit_of t < 2 ^ 32
bit-fits t = omega (arith, bit-low t)

phase-fits : (p : Phase) → phase_number p < 2 ^ 32
phase-fits Idle = omega arith
phase-fits Trickle = omega arith
phase-fits Precharge = omega arith
phase-fits Fast = omega arith
phase-fits Taper = omega arith
phase-fits Done = omega arith
phase-fits Suspended = omega arith
phase-fits Fault = omega arith

band-fits : (b : TsBand) → ts_band_number b < 2 ^ 32
band-fits Normal = omega arith
band-fits Cold = omega arith
band-fits Hot = omega arith
band-fits Cool = omega arith
band-fits Warm = omega arith

-- each of the numbers, and 0 behind them
pub each : (ns : List ℕ) → AllWords ns → (i : ℕ) → get_or ns i 0 < 2 ^ 32
each [] h i = omega arith
each (n ∷ ns) h zero = h.0
each (n ∷ ns) h (suc i) = each ns h.1 i

-- a part's numbers
pub record Fits (ns : List ℕ) : Type 0 where
  pub all : AllWords ns

pub fits : {ns : List ℕ} → AllWords ns → Fits ns
fits h = record { all = h }

both-fit : (a b : List ℕ) → AllWords a → AllWords b → AllWords (a ++ b)
both-fit [] b h k = k
both-fit (n ∷ a) b h k = (h.0, both-fit a b h.1 k)

join : {a b : List ℕ} → Fits a → Fits b → Fits (a ++ b)
join {a} {b} h k = fits (both-fit a b h.all k.all)

latches-fit : (l : Latches) → Fits (latches_numbers l)
latches-fit l = fits (omega (arith, bit-fits l.inputok, bit-fits l.inputover, bit-fits l.short, bit-fits l.low, bit-fits l.packover))

judged-fit : (s : State) → s.flags < 2 ^ 32 → Fits (judged_numbers s)
judged-fit s h = fits (omega (arith, phase-fits s.phase, band-fits s.bands.first, band-fits s.bands.second, h))

-- the parts that hold more than tests and cases
pub record Fitting (s : State) : Type 0 where
  pub profile : Fits (profile_numbers s.profile)
  pub settings : Fits (settings_numbers s.settings)
  pub registers : Fits (registers_numbers s.registers)
  pub cycle : Fits (cycle_numbers s.cycle)
  pub watchdog : Fits (watchdog_numbers s.watchdog)
  pub sample : Fits (sample_numbers s.sample)
  pub flags : s.flags < 2 ^ 32

pub all_fit : (s : State) → Fitting s → AllWords (state_numbers s)
unfolding state_numbers
all_fit s k = (join (join (join (join (join (join (join k.profile k.settings) k.registers) (latches-fit s.latches)) k.cycle) k.watchdog) k.sample) (judged-fit s k.flags)).all
