-- `kept_run`: one register after the other.
use Prim.Native.Nat.{ℕ, ◌+◌}
use mathlib.Core.Path.{◌≡◌}
use Rattle.log_raw.specs.Raw.{byte_of}
use Rattle.log_raw.specs.Struct.{raw_of}
use Rattle.log_raw.specs.declared.RawBytes.{RawBytes}
use Rattle.state_parts.specs.declared.profile.Profile.{Profile}
use Rattle.state_parts.specs.declared.registers.Registers.{Registers}
use Rattle.state_runs.specs.Bytes.{value_in, stepwise}
use Rattle.state_runs.specs.Registers.{register_taken}
use Rattle.state_runs.specs.declared.registers.Kept.{Kept}
use Rattle.state_runs.proofs.run.kept_run.Given as goal

-- what the register at byte i does
abbrev pub takes : Profile → Registers → ℕ → RawBytes → Kept → ℕ → Kept
takes p before first raw u i = register_taken p before (first + i) (value_in (byte_of (raw_of raw)) i) u

abbrev pub invariant-loop-i : goal.invariant-loop-i
invariant-loop-i l = l.u ≡ stepwise (takes l.p l.before l.first l.raw) l.i l.initial.u
