-- 02, R-8: "the bands agree wherever the hold keeps nothing that the first edition would leave", of every run.
use Rattle.std.specs.Prelude.{◌+◌, ◌<◌, ◌≡◌, ◌≢◌, ◌↔◌}
use Rattle.state_parts.specs.declared.band.TsBand.{TsBand}
use Rattle.state_parts.specs.declared.band.TsBand.TheVariants.{Normal, Cold, Cool, Warm, Hot}
use Rattle.step_turns.specs.declared.later.Later.{Later}
use Rattle.laws_account.specs.History.{Run, powered, ◌▸◌}
use Rattle.laws_account.specs.Held.{profile_of}
use Rattle.laws_account.specs.Bands.{Thermistor, first_ts, second_ts, th1, th2, th3, th5, fresh_at, ts_at, join_table, band_at}
use Rattle.laws_third.specs.Banded.{Judged, Jeita, InTsBand}

-- TS is less than 1,000 units back past the threshold that let a band in, which EN_TS and, of cool and warm, EN_JEITA don't end
abbrev pub Near : TsBand → Thermistor → Run → Type 0
Near Normal k m = ⊥
Near Cold k m = Judged m × (th1 m < ts_at k m + 1000)
Near Hot k m = Judged m × (ts_at k m < th5 m + 1000)
Near Cool k m = Judged m × Jeita m × (th2 m < ts_at k m + 1000)
Near Warm k m = Judged m × Jeita m × (ts_at k m < th3 m + 1000)

-- an event at which the hold keeps what the first edition would leave: the band before it, by the second edition, near enough, where the first would judge another that isn't entered at once
pub record Kept (k : Thermistor) (r : Run) (e : Later) : Type 0 where
  pub second : (profile_of r).edition ≡ 2
  pub band : TsBand
  pub before : InTsBand band k r
  pub near : Near band k (r ▸ e)
  pub other : fresh_at k (r ▸ e) ≢ band
  pub not_cold : fresh_at k (r ▸ e) ≢ Cold
  pub not_hot : fresh_at k (r ▸ e) ≢ Hot

-- a power-on holds nothing
abbrev pub KeptAt : Thermistor → Run → Type 0
KeptAt k (powered p) = ⊥
KeptAt k (r ▸ e) = Kept k r e

pub record BandsAgree : Type 0 where
  -- at every moment at which it keeps nothing so a thermistor's band is the one that the first edition judges, and at every other it isn't
  pub agree : (k : Thermistor) (m : Run) → ¬ KeptAt k m → (b : TsBand) → fresh_at k m ≡ b → InTsBand b k m
  pub differ : (k : Thermistor) (m : Run) → KeptAt k m → ¬ InTsBand (fresh_at k m) k m
  -- so is the pack's, of two of which nothing is kept
  pub pack : (m : Run) → ¬ KeptAt first_ts m → ¬ KeptAt second_ts m → band_at m ≡ join_table (fresh_at first_ts m) (fresh_at second_ts m)
  -- and by the first edition nothing is: a thermistor is in the band that 01's order judges, by the moment alone
  pub first : (k : Thermistor) (m : Run) → (profile_of m).edition ≢ 2 → ¬ KeptAt k m
  pub moment : (k : Thermistor) (m : Run) → (profile_of m).edition ≢ 2 → (b : TsBand) → InTsBand b k m ↔ (fresh_at k m ≡ b)
