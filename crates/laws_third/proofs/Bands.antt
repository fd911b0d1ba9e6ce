-- One band of the pack holds at each moment, the account's; and what the account judges by it means what the demand says of it.
use Prim.Native.Nat.{◌+◌, ◌*◌, ◌-◌, ◌%◌, ◌≤◌, ◌<◌}
use mathlib.Core.Path.{◌≡◌, refl, sym, subst, ◌∙◌}
use mathlib.Core.Logic.{inl, inr}
use mathlib.Core.Bool.{Bool, true, false, ◌&&◌, false≢true}
use lib.Dec.{leb}
use Rattle.base.specs.Units.{below_share}
use Rattle.base.specs.Volts.{millivolts_of}
use Rattle.state_parts.specs.declared.band.Band.{Band}
use Rattle.state_parts.specs.declared.band.Band.TheVariants.{Normal, Cold, Cool, Warm, Hot, Mixed}
use Rattle.state_parts.specs.declared.band.TsBand.{TsBand}
use Rattle.state_parts.specs.declared.band.TsBand.TheVariants as ts
use Rattle.state_table.specs.Rows.{jeita_isetc, jeita_vset}
use Rattle.settle_bands.specs.Joined.{either, first_joined, joined_of}
use Rattle.settle_levels.specs.Voltage.{recharge_share_at}
use Rattle.laws_account.specs.History.{Run}
use Rattle.laws_account.specs.Held.{profile_of, sample_of, field_at}
use Rattle.laws_account.specs.Valued.{setting_of}
use Rattle.laws_account.specs.Judged.{vbat, suspended_in, suspended, charge_voltage, tapering, recharge_due}
use Rattle.laws_account.specs.Bands.{Thermistor, first_ts, second_ts, ts_band_at, band_at}
use Rattle.laws_account.specs.Refused.{Accepted}
use Rattle.laws_account.proofs.Judging.{joined-table}
use Rattle.laws_third.specs.Banded.{InTsBand, Either, CoolBesideWarm, InBand, ByBand, OneBand, SuspendingIn, Suspending, charge_to, Tapering, BelowRecharge, AtVoltage}
use Rattle.laws_third.proofs.Means.{Means, leb-means, ltb-means, eqb-means, and-means, or-means, re-means}
use Rattle.laws_third.proofs.TsBands.{no, falls, ts-band-holds, only-ts-band, is-means}
use Rattle.laws_third.proofs.Packs.{cut-plain, base-plain}

module _ (m : Run) where
  -- whether one of the two thermistors is in a band
  found : TsBand → Bool
  found b = either b (ts_band_at first_ts m) (ts_band_at second_ts m)

  found-means : (b : TsBand) → Means (found b) (Either b m)
  unfolding found either
  found-means b = or-means (is-means b first_ts m) (is-means b second_ts m)

  mixed-means : Means (found ts.Cool && found ts.Warm) (CoolBesideWarm m)
  mixed-means = and-means (found-means ts.Cool) (found-means ts.Warm)

  band-by : band_at m ≡ first_joined (found ts.Cold) (found ts.Hot) (found ts.Cool && found ts.Warm) (found ts.Cool) (found ts.Warm)
  unfolding band_at joined_of found
  band-by = sym (joined-table (ts_band_at first_ts m) (ts_band_at second_ts m))

  -- a thermistor that is in no other band is normal
  left : (k : Thermistor) (b : TsBand) → InTsBand b k m → (InTsBand ts.Cold k m → ⊥) → (InTsBand ts.Hot k m → ⊥) → (InTsBand ts.Cool k m → ⊥) → (InTsBand ts.Warm k m → ⊥)
      → InTsBand ts.Normal k m
  left k ts.Normal h cold hot cool warm = h
  left k ts.Cold h cold hot cool warm = absurd (cold h)
  left k ts.Hot h cold hot cool warm = absurd (hot h)
  left k ts.Cool h cold hot cool warm = absurd (cool h)
  left k ts.Warm h cold hot cool warm = absurd (warm h)

  -- the band that the tests choose holds
  holds : (c h x l w : Bool) → found ts.Cold ≡ c → found ts.Hot ≡ h → (found ts.Cool && found ts.Warm) ≡ x → found ts.Cool ≡ l → found ts.Warm ≡ w
      → InBand (first_joined c h x l w) m
  holds true h x l w ec eh ex el ew = (found-means ts.Cold).fact ec
  holds false true x l w ec eh ex el ew = (no (found-means ts.Cold) ec, (found-means ts.Hot).fact eh)
  holds false false true l w ec eh ex el ew = (no (found-means ts.Cold) ec, no (found-means ts.Hot) eh, mixed-means.fact ex)
  holds false false false true w ec eh ex el ew = (no (found-means ts.Cold) ec, no (found-means ts.Hot) eh, no mixed-means ex, (found-means ts.Cool).fact el)
  holds false false false false true ec eh ex el ew = (no (found-means ts.Cold) ec, no (found-means ts.Hot) eh, no mixed-means ex, (found-means ts.Warm).fact ew)
  holds false false false false false ec eh ex el ew =
      let cold = no (found-means ts.Cold) ec in
      let hot = no (found-means ts.Hot) eh in
      let cool = no (found-means ts.Cool) el in
      let warm = no (found-means ts.Warm) ew in (
        left first_ts (ts_band_at first_ts m) (ts-band-holds first_ts m) (λ h. cold (inl h)) (λ h. hot (inl h)) (λ h. cool (inl h)) (λ h. warm (inl h)),
        left second_ts (ts_band_at second_ts m) (ts-band-holds second_ts m) (λ h. cold (inr h)) (λ h. hot (inr h)) (λ h. cool (inr h)) (λ h. warm (inr h)),
      )

  pub band-holds : InBand (band_at m) m
  band-holds = subst (λ b. InBand b m) (sym band-by) (holds (found ts.Cold) (found ts.Hot) (found ts.Cool && found ts.Warm) (found ts.Cool) (found ts.Warm) refl refl refl refl refl)

  both-normal : ts_band_at first_ts m ≡ ts.Normal → ts_band_at second_ts m ≡ ts.Normal → band_at m ≡ Normal
  unfolding band_at
  both-normal a b = rw (a, b)

  -- and a band that holds is the one that they choose
  pub only-band : (b : Band) → InBand b m → band_at m ≡ b
  only-band Cold h = band-by ∙ rw ((found-means ts.Cold).test h)
  only-band Hot h = band-by ∙ rw (falls (found-means ts.Cold) h.0, (found-means ts.Hot).test h.1)
  only-band Mixed h = band-by ∙ rw (falls (found-means ts.Cold) h.0, falls (found-means ts.Hot) h.1, mixed-means.test h.2)
  only-band Cool h = band-by ∙ rw (falls (found-means ts.Cold) h.0, falls (found-means ts.Hot) h.1, falls mixed-means h.2, (found-means ts.Cool).test h.3)
  only-band Warm h =
      let uncool = falls (found-means ts.Cool) (λ c. h.2 (c, h.3)) in
      band-by ∙ rw (falls (found-means ts.Cold) h.0, falls (found-means ts.Hot) h.1, uncool, (found-means ts.Warm).test h.3)
  only-band Normal h = both-normal (only-ts-band first_ts m ts.Normal h.0) (only-ts-band second_ts m ts.Normal h.1)

pub one-band : OneBand
one-band m b = (only-band m b, λ e. subst (λ (b : Band). InBand b m) e (band-holds m))

-- what is told of the account's band is told of the one that holds
pub by-band : {t : Bool} (said : Band → Type 0) (m : Run) → Means t (said (band_at m)) → Means t (ByBand said m)
by-band said m f =
    re-means (λ h. (band_at m, band-holds m, h)) (λ h. subst said (sym (only-band m h.0 h.1)) h.2) f

suspended-in : (b : Band) (r : Run) → Means (suspended_in b r) (SuspendingIn b r)
suspended-in Normal r = record { fact = λ t. false≢true t; test = λ h. absurd h }
suspended-in Cold r = record { fact = λ t. tt; test = λ h. refl }
suspended-in Cool r = eqb-means (field_at jeita_isetc r) 0
suspended-in Warm r = eqb-means (field_at jeita_vset r) 0
suspended-in Hot r = record { fact = λ t. tt; test = λ h. refl }
suspended-in Mixed r = record { fact = λ t. tt; test = λ h. refl }

pub suspended-means : (r : Run) → Means (suspended r) (Suspending r)
unfolding suspended
suspended-means r = by-band (λ b. SuspendingIn b r) r (suspended-in (band_at r) r)

-- the charge voltage, in mV
pub voltage-plain : (r : Run) → Accepted r → millivolts_of (charge_voltage r) ≡ charge_to (band_at r) r
unfolding charge_voltage
voltage-plain r a = λ i. base-plain r a i - cut-plain (band_at r) r a i

pub tapering-means : (r : Run) → Accepted r → Means (tapering r) (Tapering r)
unfolding tapering vbat
tapering-means r a =
    by-band (λ b. charge_to b r ≤ (sample_of r).pack + 10) r (rw (voltage-plain r a) (leb-means (charge_to (band_at r) r) ((sample_of r).pack + 10)))

pub recharge-means : (r : Run) → Accepted r → Means (recharge_due r) (BelowRecharge r)
unfolding recharge_due vbat below_share
recharge-means r a =
    let share = recharge_share_at (profile_of r) (setting_of 8 r % 4) in
    by-band (λ b. (sample_of r).pack * 1000 < charge_to b r * share) r
    (rw (voltage-plain r a) (ltb-means ((sample_of r).pack * 1000) (charge_to (band_at r) r * share)))

pub voltage-means : (r : Run) → Accepted r → Means (leb (millivolts_of (charge_voltage r)) (sample_of r).pack) (AtVoltage r)
voltage-means r a =
    by-band (λ b. charge_to b r ≤ (sample_of r).pack) r (rw (voltage-plain r a) (leb-means (charge_to (band_at r) r) (sample_of r).pack))
