-- The account, the temperature bands: each thermistor's, by the moments at which its TS crossed a threshold, and the pack's.
use Rattle.std.specs.Prelude.{ℕ, ◌+◌, Bool, not, ◌&&◌, leb, ltb, eqb}
use Rattle.base.specs.Pick.{pick}
use Rattle.state_parts.specs.declared.band.Band.{Band}
use Rattle.state_parts.specs.declared.band.Band.TheVariants.{Normal, Cold, Cool, Warm, Hot, Mixed}
use Rattle.state_parts.specs.declared.band.Bands.{Bands}
use Rattle.state_parts.specs.declared.band.TsBand.{TsBand}
use Rattle.state_parts.specs.declared.band.TsBand.TheVariants as ts
use Rattle.state_parts.specs.declared.sample.Sample.{Sample}
use Rattle.state_table.specs.Rows.{en_ts, en_jeita, ts_th1, ts_th2, ts_th3, ts_th5}
use Rattle.settle_bands.specs.Thresholds.{th1_at, th2_at, th3_at, th5_at}
use Rattle.laws_account.specs.History.{Run, since}
use Rattle.laws_account.specs.Held.{profile_of, sample_of, field_at}

-- 02, R-7: "New packs have one at each end. The sample gets a second TS value"
pub data Thermistor : Type 0 where
  first_ts second_ts : Thermistor

abbrev pub ts_of : Thermistor → Sample → ℕ
ts_of first_ts x = x.ts
ts_of second_ts x = x.secondts

-- what each is judged by, "by the same registers": "Moved thresholds are read as they stand at each event."
abbrev pub judged : Run → Bool
judged m = not (eqb (field_at en_ts m) 0)

abbrev pub jeita : Run → Bool
jeita m = eqb (field_at en_jeita m) 1

abbrev pub th1 : Run → ℕ
th1 m = th1_at (profile_of m) (field_at ts_th1 m)

abbrev pub th2 : Run → ℕ
th2 m = th2_at (profile_of m) (field_at ts_th2 m)

abbrev pub th3 : Run → ℕ
th3 m = th3_at (profile_of m) (field_at ts_th3 m)

abbrev pub th5 : Run → ℕ
th5 m = th5_at (profile_of m) (field_at ts_th5 m)

-- "Band, first that holds: EN_TS 0 normal; TS >= TH1 cold; TS <= TH5 hot; with EN_JEITA: TS >= TH2 cool; TS <= TH3 warm; else normal.": by the moment alone, as the first edition does
unfoldable pub fresh_at : Thermistor → Run → TsBand
fresh_at k r =
    let t = ts_of k (sample_of r) in
    pick (eqb (field_at en_ts r) 0) ts.Normal
    (pick (leb (th1 r) t) ts.Cold
    (pick (leb t (th5 r)) ts.Hot
    (pick (jeita r && leb (th2 r) t) ts.Cool
    (pick (jeita r && leb t (th3 r)) ts.Warm
    ts.Normal))))

-- 02, R-8: "a band other than normal, once entered, held until TS is 1,000 units or more back past the threshold that let it in". The first edition has no such units: what was entered there lasts while it would be entered again
abbrev pub margin : Run → ℕ
margin m = pick (eqb (profile_of m).edition 2) 1000 0

module _ (k : Thermistor) where
  abbrev pub ts_at : Run → ℕ
  ts_at m = ts_of k (sample_of m)

  -- "Cold and hot are entered at once." "EN_TS 0 ends any holding at once"
  unfoldable pub cold_at : Run → Bool
  cold_at = since (λ m. judged m && ltb (th1 m) (ts_at m + margin m)) (λ m. judged m && leb (th1 m) (ts_at m))

  unfoldable pub hot_at : Run → Bool
  hot_at = since (λ m. judged m && ltb (ts_at m) (th5 m + margin m)) (λ m. judged m && leb (ts_at m) (th5 m))

  -- neither: cool and warm are judged, and with EN_JEITA, whose 0 ends their holding
  abbrev pub mild : Run → Bool
  mild m = not (cold_at m) && not (hot_at m) && (judged m && jeita m)

  unfoldable pub cool_at : Run → Bool
  cool_at = since (λ m. mild m && ltb (th2 m) (ts_at m + margin m)) (λ m. mild m && leb (th2 m) (ts_at m))

  unfoldable pub warm_at : Run → Bool
  warm_at = since (λ m. mild m && ltb (ts_at m) (th3 m + margin m)) (λ m. mild m && leb (ts_at m) (th3 m))

  -- one at most holds
  unfoldable pub ts_band_at : Run → TsBand
  ts_band_at r = pick (cold_at r) ts.Cold (pick (hot_at r) ts.Hot (pick (cool_at r) ts.Cool (pick (warm_at r) ts.Warm ts.Normal)))

-- "If either is cold the band is cold, else if either is hot it is hot; cool beside warm counts as a new band, apart ..; otherwise the one that isn't normal decides.": a table
-- with a row to the first thermistor's band and a column to the second's, which are normal, cold, hot, cool and warm
abbrev pub row_of : Band → Band → Band → Band → Band → TsBand → Band
row_of normal _ _ _ _ ts.Normal = normal
row_of _ cold _ _ _ ts.Cold = cold
row_of _ _ hot _ _ ts.Hot = hot
row_of _ _ _ cool _ ts.Cool = cool
row_of _ _ _ _ warm ts.Warm = warm

abbrev pub join_table : TsBand → TsBand → Band
join_table ts.Normal b = row_of Normal Cold Hot Cool Warm b
join_table ts.Cold b = row_of Cold Cold Cold Cold Cold b
join_table ts.Hot b = row_of Hot Cold Hot Hot Hot b
join_table ts.Cool b = row_of Cool Cold Hot Cool Mixed b
join_table ts.Warm b = row_of Warm Cold Hot Mixed Warm b

-- what each of the two is in after a run, and what they come to
unfoldable pub bands_at : Run → Bands
bands_at r = record { first = ts_band_at first_ts r; second = ts_band_at second_ts r }

unfoldable pub band_at : Run → Band
band_at r = join_table (ts_band_at first_ts r) (ts_band_at second_ts r)
