-- 01: "Register reset restores start values, from the held codes, and the resets above, clears overrides, cycle and watchdog count; it leaves pin codes, flags, comparators
-- and 0x19 bit 7." The start values are those of the CELL_PIN held now, which is a pin code and stays.
use Rattle.state_fields.specs.Held.{restored_by}
use Rattle.state_parts.specs.With.{with_settings, with_registers, with_cycle, with_watchdog, with_words}
use Rattle.state_start.specs.Values.{start_settings, start_cycle, start_watchdog}
use Rattle.state_parts.specs.declared.profile.Profile.{Profile}
use Rattle.state_parts.specs.declared.registers.Registers.{Registers}
use Rattle.state_parts.specs.declared.state.State.{State}

unfoldable pub reset_registers : Profile → Registers → Registers
reset_registers p g = with_words g (restored_by p g.words)

unfoldable pub reset_of : State → State
reset_of s =
    let restarted = with_watchdog (with_cycle s start_cycle) start_watchdog in
    with_registers (with_settings restarted (start_settings s.profile s.registers.cells)) (reset_registers s.profile s.registers)
