-- `bad_run`: one register after the other.
use Prim.Native.Nat.{ℕ, ◌+◌}
use mathlib.Core.Path.{◌≡◌}
use mathlib.Core.Bool.{Bool, false, ◌||◌}
use Rattle.log_raw.specs.Raw.{byte_of}
use Rattle.log_raw.specs.Struct.{raw_of}
use Rattle.log_raw.specs.declared.RawBytes.{RawBytes}
use Rattle.state_parts.specs.declared.profile.Profile.{Profile}
use Rattle.state_runs.specs.Bytes.{value_in, stepwise}
use Rattle.state_runs.specs.Registers.{bad_register}
use Rattle.state_runs.proofs.run.bad_run.Given as goal

-- what the register at byte i does
abbrev pub worse : Profile → ℕ → RawBytes → Bool → ℕ → Bool
worse p first raw bad i = bad || bad_register p (first + i) (value_in (byte_of (raw_of raw)) i)

abbrev pub invariant-loop-i : goal.invariant-loop-i
invariant-loop-i l = l.bad ≡ stepwise (worse l.p l.first l.raw) l.i false
