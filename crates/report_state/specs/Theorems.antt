-- What is proved of every report.
use Rattle.std.specs.Prelude.{◌≡◌, false}
use Rattle.base.specs.Volts.{pack_of}
use Rattle.state_parts.specs.Stages.{charging}
use Rattle.state_parts.specs.declared.phase.Phase.TheVariants.{Trickle, Precharge}
use Rattle.state_parts.specs.declared.state.State.{State}
use Rattle.report_state.specs.Report.{report_of}

-- 01, "Slips to exclude": "scaling precharge by ICHG's band share". Whatever ICHG, the clamp and the band are, precharge has IPRECHG and trickle 100.
abbrev pub PrechargeWhole : Type 0
PrechargeWhole = (s : State) → s.phase ≡ Precharge → (report_of s).current ≡ s.settings.iprechg

abbrev pub TrickleWhole : Type 0
TrickleWhole = (s : State) → s.phase ≡ Trickle → (report_of s).current ≡ 100

-- 01: "Phases 1-4 report current and voltage, others zeros."
abbrev pub ZerosOutside : Type 0
ZerosOutside = (s : State) → charging s.phase ≡ false → ((report_of s).current ≡ 0) × ((report_of s).voltage ≡ pack_of 0)
