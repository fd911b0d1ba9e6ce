-- 01, "Settling, in order": "STAT: low in 1-4, blinking in 6-7, else high; high if disabled."
use Rattle.std.specs.Prelude.{ℕ, leb}
use Rattle.base.specs.Pick.{pick}
use Rattle.state_parts.specs.Numbers.{phase_number}
use Rattle.state_parts.specs.Stages.{charging}
use Rattle.state_parts.specs.declared.phase.Phase.{Phase}
use Rattle.state_parts.specs.declared.state.State.{State}
use Rattle.report_state.specs.declared.answer.Stat.{Stat}
use Rattle.report_state.specs.declared.answer.Stat.TheVariants.{Low, Blinking, High}

abbrev pub stat_in : Phase → Stat
stat_in phase = pick (charging phase) Low (pick (leb 6 (phase_number phase)) Blinking High)

unfoldable pub stat_of : State → Stat
stat_of s = pick s.settings.disstat High (stat_in s.phase)

-- STAT's numbers (house), in the order in which 01 names them
abbrev pub stat_number : Stat → ℕ
stat_number Low = 0
stat_number Blinking = 1
stat_number High = 2
