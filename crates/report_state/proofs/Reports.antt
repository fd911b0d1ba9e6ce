-- Laws of the report, by its phase.
use Prim.Native.Nat.{ℕ}
use mathlib.Core.Path.{◌≡◌, refl}
use mathlib.Core.Bool.{false, true≢false}
use Rattle.base.specs.Pick.{pick}
use Rattle.base.specs.Volts.{pack_of}
use Rattle.base.specs.declared.units.PackMv.{PackMv}
use Rattle.state_parts.specs.Stages.{charging}
use Rattle.state_parts.specs.declared.phase.Phase.{Phase}
use Rattle.state_parts.specs.declared.phase.Phase.TheVariants.{Idle, Trickle, Precharge, Fast, Taper, Done, Suspended, Fault}
use Rattle.report_state.specs.Report.{current_in, report_of}
use Rattle.report_state.specs.Theorems.{PrechargeWhole, TrickleWhole, ZerosOutside}

pub precharge-whole : PrechargeWhole
unfolding report_of
precharge-whole s e = simp e

pub trickle-whole : TrickleWhole
unfolding report_of
trickle-whole s e = simp e

zeros : (f : Phase) (trickle precharge fast : ℕ) (volts : PackMv) → charging f ≡ false → (current_in f trickle precharge fast ≡ 0) × (pick (charging f) volts (pack_of 0) ≡ pack_of 0)
zeros Idle trickle precharge fast volts e = (refl, refl)
zeros Trickle trickle precharge fast volts e = absurd (true≢false e)
zeros Precharge trickle precharge fast volts e = absurd (true≢false e)
zeros Fast trickle precharge fast volts e = absurd (true≢false e)
zeros Taper trickle precharge fast volts e = absurd (true≢false e)
zeros Done trickle precharge fast volts e = (refl, refl)
zeros Suspended trickle precharge fast volts e = (refl, refl)
zeros Fault trickle precharge fast volts e = (refl, refl)

pub zeros-outside : ZerosOutside
unfolding report_of
zeros-outside s = zeros s.phase _ _ _ _
