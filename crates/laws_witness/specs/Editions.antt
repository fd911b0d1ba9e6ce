-- 02, R-8: a run of the second edition at whose last event the hold keeps what the first would leave, and one at whose events it keeps nothing, though bands are entered and left.
use Rattle.laws_account.specs.Bands.{Thermistor}
use Rattle.laws_account.specs.Refused.{Accepted}
use Rattle.laws_third.specs.Editions.{KeptAt}
use Rattle.laws_witness.specs.Days.{holding, turns}

-- of both thermistors: cool, and then 999 units back past its threshold; cold, and then well back
pub record EachSide : Type 0 where
  pub kept : (k : Thermistor) → KeptAt k (turns holding 68250 67251)
  pub keeps : Accepted (turns holding 68250 67251)
  pub left : (k : Thermistor) → ¬ KeptAt k (turns holding 75320 55000)
  pub leaves : Accepted (turns holding 75320 55000)
