-- What settling judges of what it finds after an event: settings, comparators, band and tests are the account's.
use Prim.Native.Nat.{◌-◌}
use mathlib.Core.Path.{◌≡◌, refl, ap, ◌∙◌}
use mathlib.Core.Bool.{Bool, true, false, not, ◌&&◌, ◌||◌, and-false}
use lib.Dec.{leb, eqb}
use borrow.Author.Tests.{eqb-true}
use Rattle.base.specs.Pick.{pick}
use Rattle.base.specs.Units.{in_pack, lower_of, less_of, below, below_share}
use Rattle.base.specs.Volts.{pack_of}
use Rattle.state_parts.specs.Pins.{vchg_of}
use Rattle.state_parts.specs.Numbers.{phase_number}
use Rattle.state_parts.specs.declared.band.Band.{Band}
use Rattle.state_parts.specs.declared.band.Band.TheVariants.{Normal, Cold, Cool, Warm, Hot, Mixed}
use Rattle.state_parts.specs.declared.band.TsBand.{TsBand}
use Rattle.state_parts.specs.declared.band.TsBand.TheVariants as ts
use Rattle.state_parts.specs.declared.phase.Phase.{Phase}
use Rattle.state_parts.specs.declared.phase.Phase.TheVariants.{Idle, Trickle, Precharge, Fast, Taper, Done, Suspended, Fault}
use Rattle.state_parts.specs.declared.state.State.{State}
use Rattle.settle_bands.specs.Joined.{either, joined_of, pack_band}
use Rattle.settle_bands.specs.Holding.{bands_of}
use Rattle.settle_bands.specs.Effect as effect
use Rattle.settle_bands.specs.Effect.{suspends_of}
use Rattle.state_fields.specs.Held.{field_of}
use Rattle.state_table.specs.Rows.{jeita_isetc, jeita_vset}
use Rattle.laws_account.proofs.Sharing.{cut-is}
use Rattle.settle_levels.specs.Clamps.{fault_of, pack_clamp_of, base_of}
use Rattle.settle_levels.specs.Comparators.{good_of, input_ok_of, input_over_of, short_of, low_of, pack_over_of, latches_of}
use Rattle.settle_levels.specs.Voltage.{charge_voltage_of, taper_of, below_recharge}
use Rattle.settle_permission.specs.Bits.{ce_high, regulated_of}
use Rattle.settle_permission.specs.Ending.{ending_of}
use Rattle.settle_permission.specs.Limits.{reached_of}
use Rattle.settle_permission.specs.Permission.{hiz_of, permitted_of}
use Rattle.settle_phases.specs.Order.{is_taper}
use Rattle.settle_phases.specs.declared.tests.Tests.{Tests}
use Rattle.settle_all.specs.Gather.{tests_of}
use Rattle.settle_all.specs.Settle.{stored_of, forced_of}
use Rattle.laws_account.specs.History.{Run, powered, ◌▸◌, since}
use Rattle.step_turns.specs.declared.later.Later.{Later}
use Rattle.laws_account.specs.Held.{profile_of, sample_of, was_observed, was_reset, cells_of}
use Rattle.laws_account.specs.Valued.{pin_fault, given_by, setting_of}
use Rattle.laws_account.specs.Judged.{vbat, pack_clamp, base_at, input_ok, input_over, input_good, cell_point, short, low, low_ends, pack_over, suspended_in, suspended, charge_voltage, permitted, tapering, recharge_due, ending}
use Rattle.laws_account.specs.Bands.{first_ts, second_ts, ts_band_at, join_table, bands_at, band_at}
use Rattle.laws_account.specs.Cycles.{is_done, was_done, limit_found, fault, phase_at}
use Rattle.laws_account.specs.States.{settings_at, registers_at, latches_at, watchdog_at}
use Rattle.laws_account.proofs.Choices.{held-since, forced-since, barred-since}
use Rattle.laws_account.proofs.Values.{force-is}
use Rattle.laws_account.proofs.Fields.{isetc, vset, vchg-lifted, ichg-lifted}
use Rattle.laws_account.proofs.Banding.{next-is}
use Rattle.laws_account.proofs.Found.{changed, given_at, cycle_found, found}

-- the paper's number of phase 4
taper-four : (q : Phase) → is_taper q ≡ eqb (phase_number q) 4
taper-four Idle = refl
taper-four Trickle = refl
taper-four Precharge = refl
taper-four Fast = refl
taper-four Taper = refl
taper-four Done = refl
taper-four Suspended = refl
taper-four Fault = refl

-- what a band does, by the registers of a run
suspends-in : (b : Band) (m : Run) → effect.suspended_in b (eqb (field_of jeita_isetc (registers_at m)) 0) (eqb (field_of jeita_vset (registers_at m)) 0) ≡ suspended_in b m
suspends-in Normal m = refl
suspends-in Cold m = refl
suspends-in Cool m = ap (λ n. eqb n 0) (isetc m)
suspends-in Warm m = ap (λ n. eqb n 0) (vset m)
suspends-in Hot m = refl
suspends-in Mixed m = refl

pub base-is : (m : Run) → base_of (profile_of m) (settings_at m) (registers_at m) ≡ base_at m
unfolding base_of pack_clamp_of base_at pack_clamp settings_at registers_at
base-is m = ap (λ n. lower_of (pack_of (setting_of 1 m)) (in_pack (pick (eqb n 1) (record { 0 = (profile_of m).ceiling }) (vchg_of (profile_of m))) (cells_of m))) (vchg-lifted m)

pub voltage-is : (m : Run) → charge_voltage_of (profile_of m) (settings_at m) (registers_at m) (band_at m) ≡ charge_voltage m
unfolding charge_voltage_of charge_voltage registers_at
voltage-is m = λ i. less_of (base-is m i) (in_pack (cut-is (band_at m) m i) (cells_of m))

pub fault-is : (m : Run) → fault_of (profile_of m) (registers_at m) ≡ pin_fault m
unfolding fault_of registers_at pin_fault
fault-is m =
    λ i. (eqb (cells_of m) 0 || (eqb (profile_of m).vchg 0 && not (eqb (vchg-lifted m i) 1))) || (eqb (profile_of m).ichg 0 && not (eqb (ichg-lifted m i) 1))

-- phase 4 is not done's
four-not-done : (r : Run) → phase_number (phase_at r) ≡ 4 → is_done phase_at r ≡ false
unfolding is_done since
four-not-done (powered p) h = rw h
four-not-done (r ▸ e) h = rw h (ap (λ b. b && is_done phase_at r) (and-false (not (was_reset (r ▸ e)))))

not-early : (r : Run) (w o : Bool) (t : Bool) → eqb (phase_number (phase_at r)) 4 ≡ t → ((w && is_done phase_at r) && (o && t)) ≡ false
not-early r w o true h = rw (four-not-done r (eqb-true (phase_number (phase_at r)) 4 h), and-false w)
not-early r w o false h = rw (and-false o, and-false (w && is_done phase_at r))

-- the order of 02, R-7 gives the table
pub joined-table : (a b : TsBand) → joined_of a b ≡ join_table a b
unfolding joined_of either
joined-table ts.Normal ts.Normal = refl
joined-table ts.Normal ts.Cold = refl
joined-table ts.Normal ts.Hot = refl
joined-table ts.Normal ts.Cool = refl
joined-table ts.Normal ts.Warm = refl
joined-table ts.Cold ts.Normal = refl
joined-table ts.Cold ts.Cold = refl
joined-table ts.Cold ts.Hot = refl
joined-table ts.Cold ts.Cool = refl
joined-table ts.Cold ts.Warm = refl
joined-table ts.Hot ts.Normal = refl
joined-table ts.Hot ts.Cold = refl
joined-table ts.Hot ts.Hot = refl
joined-table ts.Hot ts.Cool = refl
joined-table ts.Hot ts.Warm = refl
joined-table ts.Cool ts.Normal = refl
joined-table ts.Cool ts.Cold = refl
joined-table ts.Cool ts.Hot = refl
joined-table ts.Cool ts.Cool = refl
joined-table ts.Cool ts.Warm = refl
joined-table ts.Warm ts.Normal = refl
joined-table ts.Warm ts.Cold = refl
joined-table ts.Warm ts.Hot = refl
joined-table ts.Warm ts.Cool = refl
joined-table ts.Warm ts.Warm = refl

-- the pack's band, of the two that are held
pub pack-is : (m : Run) → pack_band (bands_at m) ≡ band_at m
unfolding bands_at band_at
pack-is m = joined-table (ts_band_at first_ts m) (ts_band_at second_ts m)

module _ (r : Run) (e : Later) where
  settings-are : stored_of (fault_of (profile_of (r ▸ e)) (registers_at (r ▸ e))) (given_at r e) ≡ settings_at (r ▸ e)
  unfolding settings_at setting_of
  settings-are = ap (λ b. stored_of b (given_at r e)) (fault-is (r ▸ e)) ∙ force-is (λ n. given_by n (r ▸ e) (setting_of n r)) (pin_fault (r ▸ e))

  abbrev pub ready : State
  ready = changed r (settings_at (r ▸ e)) (registers_at (r ▸ e)) (cycle_found (r ▸ e)) (watchdog_at (r ▸ e)) (sample_of (r ▸ e))

  pub forced-is : forced_of (found r e) ≡ ready
  unfolding forced_of found profile_of
  forced-is = λ i. changed r (settings-are i) (registers_at (r ▸ e)) (cycle_found (r ▸ e)) (watchdog_at (r ▸ e)) (sample_of (r ▸ e))

  abbrev m : Run
  m = r ▸ e

  -- the comparators by the account's pin fault and base voltage
  levels-are : latches_of (profile_of r) (settings_at (r ▸ e)) (registers_at (r ▸ e)) (sample_of (r ▸ e)) (latches_at r) ≡ record {
    inputok = input_ok_of (profile_of r) (sample_of m) (latches_at r).inputok;
    inputover = input_over_of (profile_of r) (sample_of m) (latches_at r).inputover;
    short = pin_fault m || short_of (profile_of r) (registers_at m) (sample_of m) (latches_at r).short;
    low = pin_fault m || low_of (profile_of r) (settings_at m) (base_at m) (sample_of m) (latches_at r).low;
    packover = not (pin_fault m) && pack_over_of (profile_of r) (base_at m) (sample_of m) (latches_at r).packover;
  }
  unfolding latches_of profile_of
  levels-are = λ i. record {
    inputok = input_ok_of (profile_of r) (sample_of m) (latches_at r).inputok;
    inputover = input_over_of (profile_of r) (sample_of m) (latches_at r).inputover;
    short = fault-is m i || short_of (profile_of r) (registers_at m) (sample_of m) (latches_at r).short;
    low = fault-is m i || low_of (profile_of r) (settings_at m) (base-is m i) (sample_of m) (latches_at r).low;
    packover = not (fault-is m i) && pack_over_of (profile_of r) (base-is m i) (sample_of m) (latches_at r).packover;
  }

  pub latches-are : latches_of (profile_of r) (settings_at (r ▸ e)) (registers_at (r ▸ e)) (sample_of (r ▸ e)) (latches_at r) ≡ latches_at (r ▸ e)
  unfolding latches_of latches_at input_ok input_over short low pack_over since short_of low_of pack_over_of vbat settings_at registers_at profile_of
  latches-are = levels-are ∙ λ i. record {
    inputok = held-since (leb 2900 (sample_of m).input) (leb 2350 (sample_of m).input) (input_ok r) i;
    inputover = held-since (leb 36300 (sample_of m).input) (leb 34500 (sample_of m).input) (input_over r) i;
    short = forced-since (pin_fault m) (below (vbat m) (cell_point 1850 2000 m)) (below (vbat m) (cell_point 2150 2200 m)) (short r) i;
    low = forced-since (pin_fault m) (below_share (vbat m) (base_at m) (low_ends m - 50)) (below_share (vbat m) (base_at m) (low_ends m)) (low r) i;
    packover = barred-since (pin_fault m) (not (below_share (vbat m) (base_at m) 1040)) (not (below_share (vbat m) (base_at m) 1020)) (pack_over r) i;
  }

  pub bands-are : bands_of (profile_of r) (registers_at (r ▸ e)) (sample_of (r ▸ e)) (bands_at r) ≡ bands_at (r ▸ e)
  unfolding bands_of bands_at
  bands-are = λ i. record { first = next-is first_ts r e i; second = next-is second_ts r e i }

  -- the tests after the event, as the account has them
  abbrev pub tests_at : Tests
  tests_at = record {
    permitted = permitted (r ▸ e);
    fault = fault phase_at (r ▸ e);
    suspended = suspended (r ▸ e);
    done = was_done phase_at (r ▸ e);
    recharge = recharge_due (r ▸ e);
    short = short (r ▸ e);
    low = low (r ▸ e);
    taper = tapering (r ▸ e);
    observed = was_observed (r ▸ e);
    tapered = eqb (phase_number (phase_at r)) 4;
    ending = ending (r ▸ e);
  }

  permitted-is : permitted_of (profile_of m) (settings_at m) (registers_at m) (sample_of m) (latches_at m) ≡ permitted m
  unfolding permitted_of permitted input_good settings_at latches_at
  permitted-is = λ i. good_of (latches_at m) && not (hiz_of (settings_at m) (sample_of m)) && (settings_at m).enchg && not (ce_high (sample_of m)) && not (fault-is m i)

  bad-is : (tests_of ready (latches_at m) (band_at m) (was_observed m)).fault ≡ fault phase_at m
  unfolding tests_of reached_of fault limit_found latches_at profile_of
  bad-is = refl

  suspends-is : suspends_of (profile_of m) (registers_at m) (band_at m) ≡ suspended m
  unfolding suspends_of suspended
  suspends-is = suspends-in (band_at m) m

  recharge-is : below_recharge (profile_of m) (settings_at m) (charge_voltage_of (profile_of m) (settings_at m) (registers_at m) (band_at m)) (sample_of m) ≡ recharge_due m
  unfolding below_recharge recharge_due vbat settings_at
  recharge-is = ap (λ v. below_recharge (profile_of m) (settings_at m) v (sample_of m)) (voltage-is m)

  taper-is : taper_of (charge_voltage_of (profile_of m) (settings_at m) (registers_at m) (band_at m)) (sample_of m) ≡ tapering m
  unfolding taper_of tapering vbat
  taper-is = ap (λ v. taper_of v (sample_of m)) (voltage-is m)

  ending-is : ending_of (settings_at m) (sample_of m) ≡ ending m
  unfolding ending_of regulated_of ending settings_at
  ending-is = refl

  pub tests-are : tests_of ready (latches_at (r ▸ e)) (band_at (r ▸ e)) (was_observed (r ▸ e)) ≡ tests_at
  unfolding tests_of latches_at profile_of
  tests-are = λ i. record {
    permitted = permitted-is i;
    fault = bad-is i;
    suspended = suspends-is i;
    done = was_done phase_at m;
    recharge = recharge-is i;
    short = short m;
    low = low m;
    taper = taper-is i;
    observed = was_observed m;
    tapered = taper-four (phase_at r) i;
    ending = ending-is i;
  }

  pub not-both : (was_done phase_at (r ▸ e) && (was_observed (r ▸ e) && eqb (phase_number (phase_at r)) 4)) ≡ false
  unfolding was_done
  not-both = not-early r (not (was_reset m)) (was_observed m) (eqb (phase_number (phase_at r)) 4) refl
