-- A run that keeps a band, and one that keeps none, computed.
use native.Mathlib.Omega.{arith}
use mathlib.Core.Path.{◌≡◌, refl, ap}
use mathlib.Core.Bool.{true}
use Rattle.state_parts.specs.Numbers.{ts_band_number}
use Rattle.state_valid.specs.Holds.{profile_ok, sample_ok}
use Rattle.laws_account.specs.History.{since}
use Rattle.laws_account.specs.Held.{profile_of, sample_of, elapsed, field_at}
use Rattle.laws_account.specs.Bands.{Thermistor, first_ts, second_ts, fresh_at, cold_at, hot_at, cool_at, warm_at, ts_band_at}
use Rattle.laws_account.specs.Refused.{refusal_in}
use Rattle.laws_third.specs.Editions.{KeptAt}
use Rattle.laws_third.proofs.Editions.{kept-is, differs}
use Rattle.laws_witness.specs.Days.{holding, turning, turns}
use Rattle.laws_witness.specs.Editions.{EachSide}
use Rattle.laws_witness.proofs.Accepting.{accepts, accepts-means}

kept : (k : Thermistor) → KeptAt k (turns holding 68250 67251)
unfolding turning since profile_of sample_of field_at fresh_at cold_at hot_at cool_at warm_at ts_band_at
kept first_ts = kept-is first_ts _ _ refl refl (λ same. omega (arith, ap ts_band_number same))
kept second_ts = kept-is second_ts _ _ refl refl (λ same. omega (arith, ap ts_band_number same))

left : (k : Thermistor) → KeptAt k (turns holding 75320 55000) → ⊥
unfolding turning since profile_of sample_of field_at fresh_at cold_at hot_at cool_at warm_at ts_band_at
left first_ts q = differs first_ts (turns holding 75320 55000) q refl
left second_ts q = differs second_ts (turns holding 75320 55000) q refl

taken : (accepts (turns holding 68250 67251) ≡ true) × (accepts (turns holding 75320 55000) ≡ true)
unfolding turning accepts profile_ok sample_ok refusal_in elapsed sample_of
taken = (refl, refl)

pub each-side : EachSide
each-side = record { kept = kept; keeps = (accepts-means (turns holding 68250 67251)).fact taken.0; left = left; leaves = (accepts-means (turns holding 75320 55000)).fact taken.1 }
