-- Demand 3, the present cycle: where it starts, the time that each stage has run in it, a limit reached, and done. Each is told of a moment by its own thresholds and by the phases
-- of the moments before it: no word here reads the phase of the moment itself.
use Rattle.std.specs.Prelude.{ℕ, ◌+◌, ◌*◌, ◌-◌, ◌%◌, ◌≤◌, ◌<◌, ◌≡◌, ◌⊎◌, true, false, ◌&&◌, ltb, pos}
use Rattle.std.specs.Int.Signed.{lt_z}
use Rattle.base.specs.Pick.{pick}
use Rattle.laws_account.specs.History.{Run, powered, ◌▸◌, Since, count, up_to, total}
use Rattle.laws_account.specs.Held.{profile_of, sample_of, regulated, was_observed, was_reset}
use Rattle.laws_account.specs.Valued.{setting_of}
use Rattle.laws_account.specs.Cycles.{Stage, limit_of, held_in, number_at, phase_at}
use Rattle.step_turns.specs.declared.later.Later.TheVariants.{Set, Write, TakeFlags, Observe, Service, Reset, WriteRun, ReadFlags}
use Rattle.laws_third.specs.Crossed.{InputGood, Short, Low}
use Rattle.laws_third.specs.Banded.{Tapering, BelowRecharge}
use Rattle.laws_third.specs.Allowed.{Permitted, Allowed}

-- done before the last event, and not reset by it: phase 5 at a moment before it, and since then neither a reset nor a phase but 5, 6 and 7
abbrev pub WasDone : Run → Type 0
WasDone (powered p) = ⊥
WasDone (r ▸ e) =
    (was_reset (r ▸ e) ≡ false) × Since (λ m. (was_reset m ≡ false) × (5 ≤ number_at phase_at m)) (λ m. number_at phase_at m ≡ 5) r

-- "When phase 5 would hold and VBAT is below [the recharge point], done and times clear": what comes before phase 5 in the order doesn't hold. A limit, which comes before it too, is
-- reached in no cycle that is done (`DoneBelowLimit`)
abbrev pub Restarts : Run → Type 0
Restarts r = WasDone r × Allowed r × BelowRecharge r

-- "Without it the cycle's times and done are cleared. A cycle starts where they last cleared: here, at a restart below, a reset or power-on."
abbrev pub CycleStarts : Run → Type 0
CycleStarts r = (was_reset r ≡ true) ⊎ ((¬ (InputGood r × Permitted r)) ⊎ Restarts r)

-- the present cycle started after i events: at the power-on or where a cycle starts, and none starts later
pub record StartedAt (r : Run) (i : ℕ) : Type 0 where
  pub inside : i ≤ count r
  pub starting : (i ≡ 0) ⊎ CycleStarts (up_to i r)
  pub last : (j : ℕ) → i < j → j ≤ count r → ¬ CycleStarts (up_to j r)

-- "Time since the last stamp", in ms: an observation's brings some, by "a counter that runs free and wraps at 2^32"
abbrev pub passed : Run → ℕ
passed (powered p) = 0
passed (r ▸ Set number value) = 0
passed (r ▸ Write address byte) = 0
passed (r ▸ TakeFlags) = 0
passed (r ▸ Observe x) = (x.stamp + 4294967296 - (sample_of r).stamp) % 4294967296
passed (r ▸ Service) = 0
passed (r ▸ Reset) = 0
passed (r ▸ WriteRun first raw) = 0
passed (r ▸ ReadFlags address) = 0

-- "goes to the stage held before it ..: two units per ms, one while the old sample shows any regulation .. a limit 0 counts nothing"
abbrev pub units_given : Stage → Run → ℕ
units_given s (powered p) = 0
units_given s (r ▸ e) = pick (held_in s (phase_at r) && ltb 0 (limit_of s (profile_of r))) (passed (r ▸ e) * pick (regulated r) 1 2) 0

-- the units that a stage has run since moment i: what each event after it gave the stage
abbrev pub time_since : ℕ → Stage → Run → ℕ
time_since i s r = total (λ j. units_given s (up_to j r)) i (count r - i)

-- "A limit of s seconds is reached at 2,000s units; a limit 0 counts nothing."
abbrev pub Reached : Stage → Run → Type 0
Reached s r = (i : ℕ) × StartedAt r i × (0 < limit_of s (profile_of r)) × (limit_of s (profile_of r) * 2000 ≤ time_since i s r)

-- the phase held before the last event was 4
abbrev pub TaperBefore : Run → Type 0
TaperBefore (powered p) = ⊥
TaperBefore (r ▸ e) = number_at phase_at r ≡ 4

-- "Done begins .. only on an observation: phase 4 held before it and judged after it, EN_TERM, IBAT < ITERM, no regulation"; 02, R-2: "One test fewer", that of the recharge point
pub record Ends (r : Run) : Type 0 where
  pub observed : was_observed r ≡ true
  pub before : TaperBefore r
  -- judged after it: nothing that comes before 4 in the order
  pub allowed : Allowed r
  pub within : (s : Stage) → ¬ Reached s r
  pub charged : (¬ Short r) × (¬ Low r) × Tapering r
  pub enabled : setting_of 10 r ≡ 1
  pub weak : lt_z (sample_of r).ibat (pos (setting_of 4 r)) ≡ true
  pub unregulated : regulated r ≡ false

-- done: it begins, or it was and no cycle starts
abbrev pub Done : Run → Type 0
Done r = Ends r ⊎ (WasDone r × (¬ CycleStarts r))
