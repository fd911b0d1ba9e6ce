-- For each clause of demand 3 a run that meets it and one that doesn't.
use Rattle.std.specs.Prelude.{ℕ, ◌≡◌, false, eqb}
use Rattle.state_parts.specs.declared.band.Band.{Band}
use Rattle.state_parts.specs.declared.band.Band.TheVariants.{Normal, Cold, Cool, Warm, Hot, Mixed}
use Rattle.state_parts.specs.declared.band.TsBand.{TsBand}
use Rattle.state_parts.specs.declared.band.TsBand.TheVariants as ts
use Rattle.laws_account.specs.History.{Run, ◌▸◌}
use Rattle.step_turns.specs.declared.later.Later.TheVariants.{Set}
use Rattle.laws_account.specs.Held.{ichg, overridden}
use Rattle.laws_account.specs.Bands.{Thermistor, first_ts, second_ts}
use Rattle.laws_account.specs.Cycles.{Stage, trickle, precharge, fast}
use Rattle.laws_account.specs.Refused.{Accepted}
use Rattle.laws_third.specs.Crossed.{InputOk, InputOver, InputGood, Short, Low, PackOver}
use Rattle.laws_third.specs.Stages.{WasDone, Restarts, CycleStarts, Reached, Ends, Done}
use Rattle.laws_third.specs.Banded.{InTsBand, InBand, Suspending, Tapering, BelowRecharge, AtVoltage}
use Rattle.laws_third.specs.Allowed.{Permitted, Fault, Allowed}
use Rattle.laws_third.specs.Demand.{Charging}
use Rattle.laws_witness.specs.Days.{holding, sees, day_at, slow, unattended, beside, mild, turning, packs, inputs, stays, warm_at}

-- "the input is good, charge is permitted, no fault or suspending temperature holds, the cycle isn't done, and no stage with a limit has reached it"
pub data Part : Type 0 where
  good_input permission no_fault no_suspension not_done no_limit : Part

abbrev pub part_of : Part → Run → Type 0
part_of good_input r = InputGood r
part_of permission r = Permitted r
part_of no_fault r = ¬ Fault r
part_of no_suspension r = ¬ Suspending r
part_of not_done r = ¬ Done r
part_of no_limit r = (s : Stage) → ¬ Reached s r

-- a charge that doesn't run, for want of one of these: of each, and of a temperature that doesn't suspend once more, 02, R-7: by cool beside warm, of which neither would suspend alone
pub data Stop : Type 0 where
  lacks : Part → Stop
  cool_beside_warm : Stop

abbrev pub lacking : Stop → Part
lacking (lacks p) = p
lacking cool_beside_warm = no_suspension

abbrev pub stopped : Stop → Run
stopped (lacks good_input) = inputs 12000 2000
stopped (lacks permission) = day_at 3 ▸ Set 9 0
stopped (lacks no_fault) = day_at 3 ▸ sees 4000 12000 7000 500 55000 32
stopped (lacks no_suspension) = mild 80000
stopped (lacks not_done) = day_at 5
stopped (lacks no_limit) = day_at 9
stopped cool_beside_warm = beside 70000 40000

abbrev pub place_of : Part → ℕ
place_of good_input = 0
place_of permission = 1
place_of no_fault = 2
place_of no_suspension = 3
place_of not_done = 4
place_of no_limit = 5

-- the crossed thresholds, VBAT at the charge voltage, where R-1's operators count on done, and the left sides of the demand's other sentences
pub data Clause : Type 0 where
  part : Part → Clause
  ok_input over_input shorted low_pack over_pack tapers below_recharge at_voltage : Clause
  at_end lasting : Thermistor → TsBand → Clause
  banded : Band → Clause
  reached : Stage → Clause
  restarted started ends ended stays_done : Clause
  charges in_trickle in_precharge otherwise clamped : Clause

abbrev pub ClauseHolds : Clause → Run → Type 0
ClauseHolds (part p) r = part_of p r
ClauseHolds ok_input r = InputOk r
ClauseHolds over_input r = InputOver r
ClauseHolds shorted r = Short r
ClauseHolds low_pack r = Low r
ClauseHolds over_pack r = PackOver r
ClauseHolds tapers r = Tapering r
ClauseHolds below_recharge r = BelowRecharge r
ClauseHolds at_voltage r = AtVoltage r
ClauseHolds (at_end k b) r = InTsBand b k r
ClauseHolds (lasting k b) r = InTsBand b k r
ClauseHolds (banded b) r = InBand b r
ClauseHolds (reached s) r = Reached s r
ClauseHolds restarted r = Restarts r
ClauseHolds started r = CycleStarts r
ClauseHolds ends r = Ends r
ClauseHolds ended r = Done r
ClauseHolds stays_done r = WasDone r × Allowed r × AtVoltage r
ClauseHolds charges r = Charging r
ClauseHolds in_trickle r = Charging r × Short r
ClauseHolds in_precharge r = Charging r × (¬ Short r) × Low r
ClauseHolds otherwise r = Charging r × (¬ Short r) × (¬ Low r)
ClauseHolds clamped r = overridden ichg r ≡ false

-- a TS value in a band, and one outside it
abbrev pub ts_in : TsBand → ℕ
ts_in ts.Normal = 55000
ts_in ts.Cold = 80000
ts_in ts.Cool = 70000
ts_in ts.Warm = 40000
ts_in ts.Hot = 30000

abbrev pub ts_outside : TsBand → ℕ
ts_outside ts.Normal = 70000
ts_outside ts.Cold = 70000
ts_outside ts.Cool = 80000
ts_outside ts.Warm = 30000
ts_outside ts.Hot = 40000

-- one thermistor in a band and the other outside it
abbrev pub only_at : Thermistor → TsBand → Run
only_at first_ts b = beside (ts_in b) (ts_outside b)
only_at second_ts b = beside (ts_outside b) (ts_in b)

-- by the second edition: a TS that enters a band, one apart from it, and one to which both thermistors then come; there the one that was in the band still is, and the other isn't
abbrev pub entering : TsBand → ℕ
entering ts.Normal = 55000
entering ts.Cold = 75320
entering ts.Cool = 68250
entering ts.Warm = 44750
entering ts.Hot = 34375

abbrev pub apart : TsBand → ℕ
apart ts.Normal = 68250
apart ts.Cold = 55000
apart ts.Cool = 55000
apart ts.Warm = 55000
apart ts.Hot = 55000

abbrev pub meanwhile : TsBand → ℕ
meanwhile ts.Normal = 67251
meanwhile ts.Cold = 74321
meanwhile ts.Cool = 67251
meanwhile ts.Warm = 45749
meanwhile ts.Hot = 35374

abbrev pub lasts_at : Thermistor → TsBand → Run
lasts_at first_ts b = turning holding (entering b) (apart b) (meanwhile b) (meanwhile b)
lasts_at second_ts b = turning holding (apart b) (entering b) (meanwhile b) (meanwhile b)

abbrev pub other_end : Thermistor → Thermistor
other_end first_ts = second_ts
other_end second_ts = first_ts

-- a threshold that was crossed and one that wasn't end with the same observation: only what came before differs
abbrev pub meeting : Clause → Run
meeting (part p) = day_at 3
meeting ok_input = inputs 12000 2400
meeting over_input = inputs 36300 35000
meeting shorted = packs 3000 4000
meeting low_pack = packs 5000 5800
meeting over_pack = packs 8800 8600
meeting tapers = day_at 4
meeting below_recharge = warm_at 7890 5
meeting at_voltage = warm_at 7900 3
meeting (at_end k b) = only_at k b
meeting (lasting k b) = lasts_at k b
meeting (banded Normal) = mild (ts_in ts.Normal)
meeting (banded Cold) = only_at second_ts ts.Cold
meeting (banded Cool) = beside (ts_in ts.Cool) (ts_in ts.Normal)
meeting (banded Warm) = beside (ts_in ts.Normal) (ts_in ts.Warm)
meeting (banded Hot) = only_at second_ts ts.Hot
meeting (banded Mixed) = beside (ts_in ts.Cool) (ts_in ts.Warm)
meeting (reached trickle) = stays 3000 31000
meeting (reached precharge) = stays 5000 41000
meeting (reached fast) = slow 41000
meeting restarted = day_at 8
meeting started = day_at 10
meeting ends = warm_at 7900 3
meeting ended = day_at 6
meeting stays_done = warm_at 7900 4
meeting charges = day_at 1
meeting in_trickle = day_at 1
meeting in_precharge = day_at 2
meeting otherwise = day_at 3
meeting clamped = unattended 40000

abbrev pub failing : Clause → Run
failing (part p) = stopped (lacks p)
failing ok_input = inputs 0 2400
failing over_input = inputs 12000 35000
failing shorted = packs 7000 4000
failing low_pack = packs 7000 5800
failing over_pack = packs 7000 8600
failing tapers = day_at 3
failing below_recharge = warm_at 7890 4
failing at_voltage = warm_at 7890 3
failing (at_end k b) = only_at (other_end k) b
failing (lasting k b) = lasts_at (other_end k) b
failing (banded Normal) = beside (ts_in ts.Normal) (ts_in ts.Cool)
failing (banded Cold) = mild (ts_outside ts.Cold)
failing (banded Cool) = beside (ts_in ts.Cool) (ts_in ts.Warm)
failing (banded Warm) = beside (ts_in ts.Hot) (ts_in ts.Warm)
failing (banded Hot) = beside (ts_in ts.Hot) (ts_in ts.Cold)
failing (banded Mixed) = mild (ts_in ts.Cool)
failing (reached trickle) = stays 3000 30999
failing (reached precharge) = stays 5000 40999
failing (reached fast) = slow 40999
failing restarted = day_at 7
failing started = day_at 9
failing ends = day_at 6
failing ended = day_at 8
failing stays_done = warm_at 7900 5
failing charges = day_at 0
failing in_trickle = day_at 2
failing in_precharge = day_at 3
failing otherwise = day_at 2
failing clamped = unattended 39999

pub record Tried (c : Clause) : Type 0 where
  pub meets : ClauseHolds c (meeting c)
  pub fails : ¬ ClauseHolds c (failing c)
  -- both are runs of accepted events
  pub met : Accepted (meeting c)
  pub failed : Accepted (failing c)

abbrev pub EachTried : Type 0
EachTried = (c : Clause) → Tried c

-- no part of "exactly when" follows from the others: where one fails, in a run of accepted events, all others may hold
pub record FailsAlone (c : Stop) : Type 0 where
  pub accepted : Accepted (stopped c)
  pub fails : ¬ part_of (lacking c) (stopped c)
  pub others : (d : Part) → eqb (place_of (lacking c)) (place_of d) ≡ false → part_of d (stopped c)

abbrev pub EachAlone : Type 0
EachAlone = (c : Stop) → FailsAlone c
