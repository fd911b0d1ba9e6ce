-- 02, R-3: "Reset and service bits act as kinds 7 and 6 after the run's other bytes."
use Rattle.std.specs.Prelude.{ℕ, ◌+◌, ◌-◌, ◌/◌, ◌%◌, ◌^◌, ◌≡◌, ◌&&◌, leb, ltb}
use Rattle.base.specs.Pick.{pick}
use Rattle.base.specs.Told.{accepted}
use Rattle.log_raw.specs.Raw.{Raw, byte_of}
use Rattle.state_parts.specs.declared.state.State.{State}
use Rattle.state_registers.specs.Resets.{reset_of}
use Rattle.state_runs.specs.Runs.{write_run_of}
use Rattle.step_turns.specs.declared.later.Later.TheVariants.{Service, Reset}
use Rattle.step_kinds.specs.Changes.{changed}
use Rattle.step_kinds.specs.declared.change.Way.TheVariants.{Plain}
use Rattle.step_kinds.specs.Plain.{run_from}
use Rattle.step_event.specs.Steps.{followed_of}

-- a bit of the byte that a run writes at an address, and 0 if it writes none there
abbrev pub bit_written : ℕ → Raw → ℕ → ℕ → ℕ
bit_written first raw address bit = pick (leb first address && ltb address (first + raw.count)) (byte_of raw (address - first) / 2 ^ bit % 2) 0

-- REG_RST is bit 7 of 0x10, WD_RST bit 2 of 0x12
abbrev pub reset_bit : ℕ → Raw → ℕ
reset_bit first raw = bit_written first raw 0x10 7

abbrev pub service_bit : ℕ → Raw → ℕ
service_bit first raw = bit_written first raw 0x12 2

-- t is the state with all of the run's bytes: with neither bit it is what the run writes; else the run writes what kind 7 or kind 6 writes on t, or kind 6 after kind 7
pub record ActsAfter (s : State) (first : ℕ) (raw : Raw) (t : State) : Type 0 where
  pub neither : reset_bit first raw ≡ 0 → service_bit first raw ≡ 0 → run_from s first raw ≡ changed t Plain
  pub reset : reset_bit first raw ≡ 1 → service_bit first raw ≡ 0 → run_from s first raw ≡ followed_of t Reset
  pub service : reset_bit first raw ≡ 0 → service_bit first raw ≡ 1 → run_from s first raw ≡ followed_of t Service
  pub both : reset_bit first raw ≡ 1 → service_bit first raw ≡ 1 → run_from s first raw ≡ followed_of (reset_of t) Service

-- of every run that isn't refused, on every state
abbrev pub BitsAct : Type 0
BitsAct = (s : State) (first : ℕ) (raw : Raw) (t : State) → write_run_of s first raw ≡ accepted t → ActsAfter s first raw t
