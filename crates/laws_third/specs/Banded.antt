-- Demand 3, the temperature band: which one holds by the moments at which the two TS values crossed the thresholds, and what goes by it.
use Rattle.std.specs.Prelude.{ℕ, ◌+◌, ◌*◌, ◌-◌, ◌%◌, ◌≤◌, ◌<◌, ◌≡◌, ◌⊎◌, ◌↔◌}
use Rattle.state_parts.specs.declared.band.Band.{Band}
use Rattle.state_parts.specs.declared.band.Band.TheVariants.{Normal, Cold, Cool, Warm, Hot, Mixed}
use Rattle.state_parts.specs.declared.band.TsBand.{TsBand}
use Rattle.state_parts.specs.declared.band.TsBand.TheVariants as ts
use Rattle.state_table.specs.Rows.{en_ts, en_jeita, jeita_isetc, jeita_vset}
use Rattle.settle_levels.specs.Voltage.{recharge_share_at}
use Rattle.laws_account.specs.History.{Run, Since}
use Rattle.laws_account.specs.Held.{profile_of, sample_of, cells_of, field_at}
use Rattle.laws_account.specs.Valued.{setting_of}
use Rattle.laws_account.specs.Judged.{cut_in}
use Rattle.laws_account.specs.Bands.{Thermistor, first_ts, second_ts, th1, th2, th3, th5, margin, ts_at, ts_band_at, band_at}
use Rattle.laws_third.specs.Crossed.{base}

-- "EN_TS 0 normal", "with EN_JEITA": whether a moment judges bands, and cool and warm too
abbrev pub Judged : Run → Type 0
Judged m = ¬ (field_at en_ts m ≡ 0)

abbrev pub Jeita : Run → Type 0
Jeita m = field_at en_jeita m ≡ 1

module _ (k : Thermistor) where
  -- 02, R-8: "a band other than normal, once entered, held until TS is 1,000 units or more back past the threshold that let it in, for each thermistor by itself. Cold and hot are entered at
  -- once." At some moment up to now TS was at TH1 or above, and at every moment after it above TH1 - 1,000, with EN_TS throughout; the thresholds are those of each moment
  abbrev pub InCold : Run → Type 0
  InCold = Since (λ m. Judged m × (th1 m < ts_at k m + margin m)) (λ m. Judged m × (th1 m ≤ ts_at k m))

  -- the same at TH5 or below, and below TH5 + 1,000
  abbrev pub InHot : Run → Type 0
  InHot = Since (λ m. Judged m × (ts_at k m < th5 m + margin m)) (λ m. Judged m × (ts_at k m ≤ th5 m))

  -- neither of these, and with EN_JEITA: "EN_JEITA 0 [ends] that of cool and warm"
  pub record Mild (m : Run) : Type 0 where
    pub cold : ¬ InCold m
    pub hot : ¬ InHot m
    pub judged : Judged m
    pub jeita : Jeita m

  -- at some moment up to now TS was at TH2 or above, and at every moment after it above TH2 - 1,000, all of them mild
  abbrev pub InCool : Run → Type 0
  InCool = Since (λ m. Mild m × (th2 m < ts_at k m + margin m)) (λ m. Mild m × (th2 m ≤ ts_at k m))

  -- the same at TH3 or below, and below TH3 + 1,000
  abbrev pub InWarm : Run → Type 0
  InWarm = Since (λ m. Mild m × (ts_at k m < th3 m + margin m)) (λ m. Mild m × (ts_at k m ≤ th3 m))

-- "else normal"
abbrev pub InTsBand : TsBand → Thermistor → Run → Type 0
InTsBand ts.Cold k m = InCold k m
InTsBand ts.Hot k m = InHot k m
InTsBand ts.Cool k m = InCool k m
InTsBand ts.Warm k m = InWarm k m
InTsBand ts.Normal k m = (¬ InCold k m) × (¬ InHot k m) × (¬ InCool k m) × (¬ InWarm k m)

-- one band holds of each thermistor at each moment: the account's
abbrev pub OneTsBand : Type 0
OneTsBand = (k : Thermistor) (m : Run) (b : TsBand) → InTsBand b k m ↔ (ts_band_at k m ≡ b)

-- 02, R-7: "If either is cold the band is cold, else if either is hot it is hot; cool beside warm counts as a new band, apart ..; otherwise the one that isn't normal decides."
abbrev pub Either : TsBand → Run → Type 0
Either b m = InTsBand b first_ts m ⊎ InTsBand b second_ts m

abbrev pub CoolBesideWarm : Run → Type 0
CoolBesideWarm m = Either ts.Cool m × Either ts.Warm m

abbrev pub InBand : Band → Run → Type 0
InBand Cold m = Either ts.Cold m
InBand Hot m = (¬ Either ts.Cold m) × Either ts.Hot m
InBand Mixed m = (¬ Either ts.Cold m) × (¬ Either ts.Hot m) × CoolBesideWarm m
InBand Cool m = (¬ Either ts.Cold m) × (¬ Either ts.Hot m) × (¬ CoolBesideWarm m) × Either ts.Cool m
InBand Warm m = (¬ Either ts.Cold m) × (¬ Either ts.Hot m) × (¬ CoolBesideWarm m) × Either ts.Warm m
InBand Normal m = InTsBand ts.Normal first_ts m × InTsBand ts.Normal second_ts m

-- something said of the band that holds
abbrev pub ByBand : (Band → Type 0) → Run → Type 0
ByBand said m = (b : Band) × InBand b m × said b

-- one band of the pack holds at each moment: the account's
abbrev pub OneBand : Type 0
OneBand = (m : Run) (b : Band) → InBand b m ↔ (band_at m ≡ b)

-- "6 suspended, cold, hot, cool with JEITA_ISETC 0, warm with JEITA_VSET 0"; 02, R-7: "a new band, apart, which suspends. .. Demand 3's suspending temperature includes it."
abbrev pub SuspendingIn : Band → Run → Type 0
SuspendingIn Normal m = ⊥
SuspendingIn Cold m = Unit {0}
SuspendingIn Cool m = field_at jeita_isetc m ≡ 0
SuspendingIn Warm m = field_at jeita_vset m ≡ 0
SuspendingIn Hot m = Unit {0}
SuspendingIn Mixed m = Unit {0}

abbrev pub Suspending : Run → Type 0
Suspending m = ByBand (λ b. SuspendingIn b m) m

-- "less in warm 250, 100 or 0 per cell": the band's cut of the pack
abbrev pub cut : Band → Run → ℕ
cut b m = (cut_in b m).0 * cells_of m

-- "Charge voltage: base, less in warm 250, 100 or 0 per cell": in a band
abbrev pub charge_to : Band → Run → ℕ
charge_to b m = base m - cut b m

-- "4 taper, VBAT + 10 >= charge voltage"
abbrev pub Tapering : Run → Type 0
Tapering m = ByBand (λ b. charge_to b m ≤ (sample_of m).pack + 10) m

-- "VBAT is below 92.7, 94.1, 95.5, 97% .. by VRECHG 0-3", and 02, R-1: "The recharge point .. is taken from the charge voltage after the band's cut. Demand 3 reads so from now on." In
-- thousandths
abbrev pub BelowRecharge : Run → Type 0
BelowRecharge m = ByBand (λ b. (sample_of m).pack * 1000 < charge_to b m * recharge_share_at (profile_of m) (setting_of 8 m % 4)) m

-- 02, R-1's operators, whose packs tapered for ever: VBAT at or above the charge voltage
abbrev pub AtVoltage : Run → Type 0
AtVoltage m = ByBand (λ b. charge_to b m ≤ (sample_of m).pack) m
