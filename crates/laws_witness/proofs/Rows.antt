-- The account's rows, each computed.
use mathlib.Core.Path.{refl}
use Rattle.base.specs.Units.{in_pack, below_share}
use Rattle.laws_account.specs.History.{since, sum_after, count, up_to, last_of, total}
use Rattle.laws_account.specs.Held.{profile_of, sample_of, elapsed, was_observed, was_reset, was_served, unserved, expired, cells_of, field_at}
use Rattle.laws_account.specs.Valued.{pin_fault, start_value, setting_of}
use Rattle.laws_account.specs.Judged.{vbat, pack_clamp, base_at, charge_clamp, input_ok, input_over, input_good, short, low, pack_over, suspended, charge_voltage, permitted, tapering, recharge_due, ending}
use Rattle.laws_account.specs.Bands.{cold_at, hot_at, cool_at, warm_at, ts_band_at, band_at}
use Rattle.laws_account.specs.Cycles.{units_after, gave, is_done, was_done, restarts, starts, time_in, time_found, limit_found, fault, charge_ends, phase_by, limit_reached, phases_of, phase_at}
use Rattle.laws_account.specs.Reported.{fast_at, limit_at, current_at, voltage_at, report_at}
use Rattle.laws_witness.specs.Days.{day, slow, unattended, beside, turning, warm}
use Rattle.laws_witness.specs.Rows.{told_of, RowsTold}

pub rows_told : RowsTold
unfolding day slow unattended beside turning warm told_of in_pack below_share since sum_after count up_to last_of total profile_of sample_of elapsed was_observed was_reset was_served unserved expired cells_of field_at pin_fault start_value setting_of vbat pack_clamp base_at charge_clamp input_ok input_over input_good short low pack_over cold_at hot_at cool_at warm_at ts_band_at band_at suspended charge_voltage permitted tapering recharge_due ending units_after gave is_done was_done restarts starts time_in time_found limit_found fault charge_ends phase_by limit_reached phases_of phase_at fast_at limit_at current_at voltage_at report_at
rows_told = (refl, (refl, (refl, (refl, (refl, (refl, (refl, (refl, (refl, (refl, (refl, (refl, (refl, (refl, (refl, (refl, (refl, (refl, (refl, (refl, (refl, (refl, (refl, (refl, (refl, (refl, (refl, (refl, (refl, (refl, (refl, (refl, (refl, (refl, (refl, (refl, (refl, (refl, (refl, (refl, (refl, (refl, (refl, tt)))))))))))))))))))))))))))))))))))))))))))
