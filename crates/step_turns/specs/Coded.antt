-- 02, R-5: "From there it acts as kind 1 with those codes."
use Rattle.std.specs.Prelude.{ℕ}
use Rattle.log_event.specs.declared.spelled.SpelledProfile.{SpelledProfile}
use Rattle.log_event.specs.declared.spelled.SpelledResistors.{SpelledResistors}
use Rattle.step_pins.specs.Codes.{code_of}

-- kind 1 with the codes that a rule gives to the resistors
abbrev pub coded_by : (ℕ → ℕ) → SpelledResistors → SpelledProfile
coded_by code r = record {
  cell = code r.cell;
  vchg = code r.vchg;
  ichg = code r.ichg;
  ohms = r.ohms;
  stamp = r.stamp;
  ceiling = r.ceiling;
  trickle = r.trickle;
  precharge = r.precharge;
  fast = r.fast;
  watchdog = r.watchdog;
}

-- with those that they stand for
abbrev pub coded_of : SpelledResistors → SpelledProfile
coded_of r = coded_by code_of r
