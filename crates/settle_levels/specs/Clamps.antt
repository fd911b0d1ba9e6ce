-- 01, "Settling, in order": pin faults and the base voltage.
use Rattle.std.specs.Prelude.{Bool, not, ◌&&◌, ◌||◌, eqb}
use Rattle.base.specs.Pick.{pick}
use Rattle.base.specs.Units.{in_pack, lower_of}
use Rattle.base.specs.declared.units.PackMv.{PackMv}
use Rattle.state_table.specs.Rows.{vchg_override, ichg_override}
use Rattle.state_fields.specs.Held.{is_set}
use Rattle.state_parts.specs.Pins.{vchg_of}
use Rattle.state_parts.specs.declared.profile.Profile.{Profile}
use Rattle.state_parts.specs.declared.registers.Registers.{Registers}
use Rattle.state_parts.specs.declared.settings.Settings.{Settings}

-- "Pin fault: CELL_PIN 0; vchg or ichg code 0 without its override."
unfoldable pub fault_of : Profile → Registers → Bool
fault_of p g = eqb g.cells 0 || (eqb p.vchg 0 && not (is_set vchg_override g)) || (eqb p.ichg 0 && not (is_set ichg_override g))

-- "the pack clamp, which is vchg x cells or, with VCHG override, ceiling x cells"
unfoldable pub pack_clamp_of : Profile → Registers → PackMv
pack_clamp_of p g = in_pack (pick (is_set vchg_override g) (record { 0 = p.ceiling }) (vchg_of p)) g.cells

-- "Base voltage: lower of VREG and the pack clamp"
unfoldable pub base_of : Profile → Settings → Registers → PackMv
base_of p s g = lower_of s.vreg (pack_clamp_of p g)
