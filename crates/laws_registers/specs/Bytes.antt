-- What is proved of a run of one byte on 0x15-0x1C: it is 01's write.
use Rattle.std.specs.Prelude.{ℕ, ◌≤◌, ◌≡◌, true}
use Rattle.log_raw.specs.Raw.{Raw, byte_of, has_spelling}
use Rattle.log_raw.specs.Struct.{raw_of}
use Rattle.log_raw.specs.declared.RawBytes.{RawBytes}
use Rattle.state_parts.specs.declared.state.State.{State}
use Rattle.state_parts.specs.declared.state.Model.{Model}
use Rattle.step_turns.specs.declared.later.Later.TheVariants.{Write, WriteRun}
use Rattle.step_turns.specs.declared.turn.Turn.TheVariants.{Follows}
use Rattle.step_kinds.specs.Plain.{written_of, run_from}
use Rattle.step_event.specs.Steps.{turned_by}

-- one byte, and nothing past it
pub record OneByte (raw : Raw) : Type 0 where
  pub spelled : has_spelling raw ≡ true
  pub one : raw.count ≡ 1

-- "kind 3 keeps its addresses": there kind 8 with one byte writes what kind 3 writes and is refused as it is, on every state
abbrev pub RunAsWrite : Type 0
RunAsWrite = (s : State) (address : ℕ) (raw : Raw) → 0x15 ≤ address → address ≤ 0x1C → OneByte raw → run_from s address raw ≡ written_of s address (byte_of raw 0)

-- and so the two have one outcome, on every model
abbrev pub RunTurnsAsWrite : Type 0
RunTurnsAsWrite = (m : Model) (address : ℕ) (raw : RawBytes) → 0x15 ≤ address → address ≤ 0x1C → OneByte (raw_of raw)
    → turned_by m (Follows (WriteRun address raw)) ≡ turned_by m (Follows (Write address (byte_of (raw_of raw) 0)))
