-- Runs, and what the account tells of each.
use Rattle.std.specs.Prelude.{ℕ, ◌≡◌, List, [], ◌∷◌, Bool, true, false}
use Rattle.base.specs.Volts.{millivolts_of}
use Rattle.laws_account.specs.History.{Run, last_of}
use Rattle.laws_account.specs.Held.{expired}
use Rattle.laws_account.specs.Cycles.{trickle, precharge, fast, number_at, is_done, starts, time_in, limit_reached, phase_at}
use Rattle.laws_account.specs.Reported.{report_at}
use Rattle.laws_witness.specs.Days.{pack, holding, day_at, slow, unattended, beside, mild, turning, turns, warm_at}

-- phase, current and voltage; where the cycle started and each stage's time in it; done, a limit reached, the watchdog expired
pub record Told : Type 0 where
  pub phase : ℕ
  pub current : ℕ
  pub voltage : ℕ
  pub start : ℕ
  pub trickle : ℕ
  pub precharge : ℕ
  pub fast : ℕ
  pub done : Bool
  pub limit : Bool
  pub expired : Bool

unfoldable pub told_of : Run → Told
told_of r = record {
  phase = number_at phase_at r;
  current = (report_at r).current;
  voltage = millivolts_of (report_at r).voltage;
  start = last_of (starts phase_at) r;
  trickle = time_in phase_at trickle r;
  precharge = time_in phase_at precharge r;
  fast = time_in phase_at fast r;
  done = is_done phase_at r;
  limit = limit_reached phase_at r;
  expired = expired r;
}

pub record Row : Type 0 where
  pub run : Run
  pub told : Told

abbrev pub row : Run → ℕ → ℕ → ℕ → ℕ → ℕ → ℕ → ℕ → Bool → Bool → Bool → Row
row r phase current voltage start t p f done limit expired = record {
  run = r;
  told = record {
    phase = phase;
    current = current;
    voltage = voltage;
    start = start;
    trickle = t;
    precharge = p;
    fast = f;
    done = done;
    limit = limit;
    expired = expired;
  };
}

abbrev pub rows : List Row
rows =
    -- every phase, with a termination, a restart and a limit reached
    row (day_at 0) 0 0 0 0 0 0 0 false false false
    ∷ row (day_at 1) 1 100 8400 0 0 0 0 false false false
    ∷ row (day_at 2) 2 120 8400 0 2000 0 0 false false false
    ∷ row (day_at 3) 3 1500 8400 0 2000 2000 0 false false false
    ∷ row (day_at 4) 4 1500 8400 0 2000 2000 2000 false false false
    ∷ row (day_at 5) 5 0 0 0 2000 2000 4000 true false false
    ∷ row (day_at 6) 6 0 0 0 2000 2000 4000 true false false
    ∷ row (day_at 7) 5 0 0 0 2000 2000 4000 true false false
    ∷ row (day_at 8) 3 1500 8400 8 0 0 0 false false false
    ∷ row (day_at 9) 7 0 0 8 0 0 40000 false true false
    ∷ row (day_at 10) 0 0 0 10 0 0 0 false false false
    ∷ row (day_at 11) 3 1500 8400 10 0 0 0 false false false
    -- half rate: one ms before the limit, and at it
    ∷ row (slow 40999) 3 1500 8400 0 0 0 39999 false false false
    ∷ row (slow 41000) 7 0 0 0 0 0 40000 false true false
    -- the watchdog: an overridden pin's current up to the ms before it expires, and the pin's after
    ∷ row (unattended 39999) 3 2000 8400 2 0 0 0 false false false
    ∷ row (unattended 40000) 3 100 8400 2 0 0 0 false false true
    -- bands: cool takes 20% of the current, warm 100 mV per cell; cold and hot suspend
    ∷ row (mild 70000) 3 300 8400 0 0 0 0 false false false
    ∷ row (mild 40000) 3 1500 8200 0 0 0 0 false false false
    ∷ row (mild 80000) 6 0 0 0 0 0 0 false false false
    ∷ row (mild 30000) 6 0 0 0 0 0 0 false false false
    -- 02, R-7: one thermistor cool or warm beside a normal one decides; cool beside warm suspends, though cool alone and warm alone charge; cold beside hot is cold, and suspends
    ∷ row (beside 70000 55000) 3 300 8400 0 0 0 0 false false false
    ∷ row (beside 55000 70000) 3 300 8400 0 0 0 0 false false false
    ∷ row (beside 55000 40000) 3 1500 8200 0 0 0 0 false false false
    ∷ row (beside 70000 40000) 6 0 0 0 0 0 0 false false false
    ∷ row (beside 40000 70000) 6 0 0 0 0 0 0 false false false
    ∷ row (beside 80000 30000) 6 0 0 0 0 0 0 false false false
    ∷ row (beside 55000 30000) 6 0 0 0 0 0 0 false false false
    -- 02, R-8: by the second edition a band lasts until TS is 1,000 back past its threshold, and is then judged afresh: cold is left for cool, hot for warm, cool and warm for normal
    ∷ row (turns holding 75320 74321) 6 0 0 0 0 0 0 false false false
    ∷ row (turns holding 75320 74320) 3 300 8400 0 0 0 0 false false false
    ∷ row (turns holding 34375 35374) 6 0 0 0 0 0 0 false false false
    ∷ row (turns holding 34375 35375) 3 1500 8200 0 0 0 0 false false false
    ∷ row (turns holding 68250 67251) 3 300 8400 0 0 0 2000 false false false
    ∷ row (turns holding 68250 67250) 3 1500 8400 0 0 0 2000 false false false
    ∷ row (turns holding 44750 45749) 3 1500 8200 0 0 0 2000 false false false
    ∷ row (turns holding 44750 45750) 3 1500 8400 0 0 0 2000 false false false
    -- cold is entered at once from cool, and each thermistor holds its own: one held cool beside one that turns warm suspends
    ∷ row (turns holding 68250 75320) 6 0 0 0 0 0 2000 false false false
    ∷ row (turning holding 68250 55000 67251 44750) 6 0 0 0 0 0 2000 false false false
    -- the first edition holds nothing
    ∷ row (turns pack 75320 74321) 3 300 8400 0 0 0 0 false false false
    ∷ row (turns pack 68250 67251) 3 1500 8400 0 0 0 2000 false false false
    -- 02, R-1: warm at 7,890, 10 mV short of 7,900: taper, done and still done; back in normal the point is 8,148 and the band alone restarts the cycle
    ∷ row (warm_at 7890 2) 4 1500 7900 1 0 0 0 false false false
    ∷ row (warm_at 7890 3) 5 0 0 1 0 0 2000 true false false
    ∷ row (warm_at 7890 4) 5 0 0 1 0 0 2000 true false false
    ∷ row (warm_at 7890 5) 3 1500 8400 5 0 0 0 false false false
    ∷ []

abbrev pub Each : List Row → Type 0
Each [] = Unit {0}
Each (x ∷ xs) = (told_of x.run ≡ x.told) × Each xs

abbrev pub RowsTold : Type 0
RowsTold = Each rows
