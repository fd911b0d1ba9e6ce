-- 01, "Settling, in order": what the model reports.
use Rattle.std.specs.Prelude.{ℕ, ◌*◌, ◌/◌, min, not, ltb}
use Rattle.settle_bands.specs.Effect.{share_of}
use Rattle.settle_bands.specs.Joined.{pack_band}
use Rattle.base.specs.Pick.{pick}
use Rattle.base.specs.Volts.{pack_of}
use Rattle.settle_levels.specs.Voltage.{charge_voltage_of}
use Rattle.state_parts.specs.Pins.{ichg_of}
use Rattle.state_parts.specs.Stages.{charging}
use Rattle.state_parts.specs.declared.band.Band.{Band}
use Rattle.state_parts.specs.declared.phase.Phase.{Phase}
use Rattle.state_parts.specs.declared.phase.Phase.TheVariants.{Idle, Trickle, Precharge, Fast, Taper, Done, Suspended, Fault}
use Rattle.state_table.specs.Rows.{ichg_override}
use Rattle.state_fields.specs.Held.{is_set}
use Rattle.state_parts.specs.declared.profile.Profile.{Profile}
use Rattle.state_parts.specs.declared.registers.Registers.{Registers}
use Rattle.state_parts.specs.declared.settings.Settings.{Settings}
use Rattle.state_parts.specs.declared.state.State.{State}
use Rattle.report_state.specs.declared.answer.Report.{Report}

-- "Charge clamp: ichg's value; with override 3,300."
unfoldable pub charge_clamp_of : Profile → Registers → ℕ
charge_clamp_of p g = pick (is_set ichg_override g) 3300 (ichg_of p)

-- "else the lower of ICHG and clamp, times 20, 40, 100% in cool (ISETC 1-3), 40 or 100% in warm"
unfoldable pub fast_current : Profile → Settings → Registers → Band → ℕ
fast_current p s g b = min s.ichg (charge_clamp_of p g) * share_of p g b / 100

-- "Current: 100;"
abbrev pub trickle_current : Profile → ℕ
trickle_current p = 100

-- "Phases 1-4 report current and voltage, others zeros." "Current: 100; IPRECHG; else .."
abbrev pub current_in : Phase → ℕ → ℕ → ℕ → ℕ
current_in Idle trickle precharge fast = 0
current_in Trickle trickle precharge fast = trickle
current_in Precharge trickle precharge fast = precharge
current_in Fast trickle precharge fast = fast
current_in Taper trickle precharge fast = fast
current_in Done trickle precharge fast = 0
current_in Suspended trickle precharge fast = 0
current_in Fault trickle precharge fast = 0

-- "Input limit: IINDPM, or with EN_EXTILIM and ohms above 0 the lower of it and floor(3,333,000/ohms)."
unfoldable pub input_limit_of : Profile → Settings → ℕ
input_limit_of p s = pick (not s.enextilim) s.iindpm (pick (ltb p.ohms 1) s.iindpm (min s.iindpm (3333000 / p.ohms)))

unfoldable pub report_of : State → Report
report_of s = record {
  phase = s.phase;
  current = current_in s.phase (trickle_current s.profile) s.settings.iprechg (fast_current s.profile s.settings s.registers (pack_band s.bands));
  voltage = pick (charging s.phase) (charge_voltage_of s.profile s.settings s.registers (pack_band s.bands)) (pack_of 0);
  limit = input_limit_of s.profile s.settings;
}
