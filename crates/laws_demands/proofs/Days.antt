-- Lists of events at which wrong products and this one come to different numbers.
use Prim.Native.Nat.{ℕ, zero, suc}
use mathlib.Core.Path.{◌≡◌, sym, ◌∙◌}
use mathlib.Core.Bool.{false, false≢true}
use mathlib.Core.List.{List, [], ◌∷◌}
use native.Mathlib.Omega.{arith}
use lib.IntN.{pos}
use lib.Dec.{eqb}
use borrow.Author.Tests.{eq-eqb}
use Rattle.log_event.specs.declared.Event.{Event}
use Rattle.log_event.specs.declared.Event.TheVariants.{PowerOn, Write, Observe, ObserveTwo, PowerOnEdition}
use Rattle.log_event.specs.declared.spelled.SpelledProfile.{SpelledProfile}
use Rattle.log_event.specs.declared.spelled.SpelledSample.{SpelledSample}
use Rattle.log_number.specs.Promises.{Bytes}
use Rattle.state_parts.specs.declared.cycle.Cycle.{Cycle}
use Rattle.state_parts.specs.declared.state.State.{State}
use Rattle.state_parts.specs.declared.state.Model.{Model}
use Rattle.state_parts.specs.declared.state.Model.TheVariants.{Off, On}
use Rattle.step_kinds.specs.Answers.{Outcome}
use Rattle.laws_account.specs.Cycles.{Stage, trickle, precharge, fast}

-- the paper's power-on, with these limits for trickle, precharge and fast, in seconds
abbrev pub limits : ℕ → ℕ → ℕ → SpelledProfile
limits t p f = record { cell = 2; vchg = 5; ichg = 4; ohms = 0; stamp = 0; ceiling = 4500; trickle = t; precharge = p; fast = f; watchdog = 0 }

abbrev pub paper : SpelledProfile
paper = limits 3600 7200 36000

-- stamp, VBAT, IBAT, TS and bits, with the paper's VIN
abbrev pub sample : ℕ → ℕ → ℕ → ℕ → ℕ → SpelledSample
sample stamp pack ibat ts bits = record { stamp = stamp; input = 12000; pack = pack; ibat = pos ibat; ts = ts; bits = bits }

-- TS normal, IBAT 0, no bit
abbrev pub seen : ℕ → ℕ → SpelledSample
seen stamp pack = sample stamp pack 0 55000 0

-- the paper's sample
abbrev pub sampled : SpelledSample
sampled = seen 1000 7600

abbrev pub observed : List SpelledSample → List Event
observed [] = []
observed (x ∷ xs) = Observe x ∷ observed xs

-- a power-on and samples
abbrev pub day : SpelledProfile → List SpelledSample → List Event
day p xs = PowerOn p ∷ observed xs

abbrev pub powered : List Event
powered = day paper []

abbrev pub paper_day : List Event
paper_day = day paper (sampled ∷ [])

-- in precharge, cool
abbrev pub cool_day : List Event
cool_day = day paper (sample 1000 5000 0 70000 0 ∷ [])

-- cool beside warm, as an event and after the paper's power-on
abbrev pub besides : Event
besides = ObserveTwo (record { sample = sample 1000 7600 0 70000 0; second = 40000 })

abbrev pub beside_day : List Event
beside_day = PowerOn paper ∷ besides ∷ []

-- 02, R-8: after the paper's power-on in the second edition; an observation of two TS
abbrev pub in_second : List Event → List Event
in_second es = PowerOnEdition (record { profile = paper; edition = 2 }) ∷ es

abbrev pub two_seen : ℕ → ℕ → ℕ → Event
two_seen stamp ts second = ObserveTwo (record { sample = sample stamp 7600 0 ts 0; second = second })

-- cool beside cold, and then still cool beside one that left cold for cool
abbrev pub cool_beside_cold : List Event
cool_beside_cold = in_second (two_seen 1000 68250 75320 ∷ [])

abbrev pub cold_left : Event
cold_left = two_seen 2000 67251 70000

-- cold at TH1, which is then moved from 75,320 to 77,150
abbrev pub cold_both : List Event
cold_both = in_second (two_seen 1000 75320 75320 ∷ [])

abbrev pub moved_up : Event
moved_up = Write 0x18 0x94

-- cool, and then at TH1
abbrev pub cool_both : List Event
cool_both = in_second (two_seen 1000 68250 68250 ∷ [])

abbrev pub cold_now : Event
cold_now = two_seen 2000 75320 75320

-- cold, left for cool, which suspends with JEITA_ISETC 0
abbrev pub cool_suspends : List Event
cool_suspends = in_second (Write 0x19 0xD3 ∷ two_seen 1000 75320 75320 ∷ [])

abbrev pub left_for_cool : Event
left_for_cool = two_seen 2000 74320 74320

-- a VBAT of each stage, and a limit for one stage alone
abbrev pub level_of : Stage → ℕ
level_of trickle = 3000
level_of precharge = 5000
level_of fast = 7600

abbrev pub limit_for : Stage → ℕ → SpelledProfile
limit_for trickle seconds = limits seconds 7200 36000
limit_for precharge seconds = limits 3600 seconds 36000
limit_for fast seconds = limits 3600 7200 seconds

-- a second in a stage, which is its limit, in two samples; and the same with no limit for it
abbrev pub second_in : Stage → List Event
second_in s = day (limit_for s 1) (seen 0 (level_of s) ∷ seen 500 (level_of s) ∷ seen 1000 (level_of s) ∷ [])

abbrev pub unlimited_in : Stage → List Event
unlimited_in s = day (limit_for s 0) (seen 1000 (level_of s) ∷ [])

-- trickle for its 30 s, and then fast, which has no limit
abbrev pub trickle_day : List Event
trickle_day = day (limits 30 40 0) (seen 1000 3000 ∷ seen 31000 7600 ∷ [])

-- fast for its 20 s, at the end of which IINDPM begins
abbrev pub regulated_day : List Event
regulated_day = day (limits 30 40 20) (seen 1000 7600 ∷ sample 21000 7600 0 55000 4 ∷ [])

-- fast, taper and done, which takes 2 s of the 20; a restart, and 18 s of fast
abbrev pub restart_day : List Event
restart_day =
    day (limits 30 40 20)
    (sample 1000 7600 500 55000 0 ∷ sample 2000 8395 500 55000 0 ∷ sample 3000 8395 50 55000 0 ∷ sample 4000 8000 500 55000 0 ∷ sample 22000 8000 500 55000 0 ∷ [])

-- a number of a model's state, and of the one that an event leaves
abbrev pub held : (State → ℕ) → Model → ℕ
held f Off = 0
held f (On s) = f s

abbrev pub of : (State → ℕ) → Outcome → ℕ
of f o = held f o.model

-- a stage's time
abbrev pub time_of : Stage → Cycle → ℕ
time_of trickle y = y.trickle
time_of precharge y = y.precharge
time_of fast y = y.fast

-- two numbers that differ
pub differ : (a b : ℕ) → eqb a b ≡ false → a ≡ b → ⊥
differ a b other same = false≢true (sym other ∙ eq-eqb a b same)

-- a log of no byte, and one of a single record that takes the flags
pub no_byte : Bytes []
no_byte i = omega arith

pub one-byte : Bytes (4 ∷ [])
one-byte zero = omega arith
one-byte (suc i) = omega arith
