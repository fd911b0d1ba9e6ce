-- 02, R-3: "a run is taken whole or not at all", with one settling; the override as it stood before it; "A read of a flag register clears its own flags". Wrong readings, each this product's step but for those kinds.
use Rattle.std.specs.Prelude.{ℕ, ◌+◌, eqb}
use Rattle.base.specs.Pick.{pick}
use Rattle.log_event.specs.declared.Event.TheVariants.{WriteRun}
use Rattle.log_raw.specs.Raw.{byte_of}
use Rattle.log_raw.specs.Struct.{raw_of}
use Rattle.log_raw.specs.declared.RawBytes.{RawBytes}
use Rattle.state_parts.specs.Edges.{no_flags}
use Rattle.state_parts.specs.With.{with_registers, with_flags}
use Rattle.state_parts.specs.declared.state.Model.{Model}
use Rattle.state_parts.specs.declared.state.Model.TheVariants.{Off, On}
use Rattle.state_table.specs.Rows.{cell_override}
use Rattle.state_runs.specs.Bytes.{stepwise, is_written, written_code}
use Rattle.step_turns.specs.Turns.{turn_of}
use Rattle.step_turns.specs.declared.later.Later.{Later}
use Rattle.step_turns.specs.declared.later.Later.TheVariants as later
use Rattle.step_turns.specs.declared.turn.Turn.{Turn}
use Rattle.step_turns.specs.declared.turn.Turn.TheVariants.{Opens, Follows, OpensOutside, FollowsOutside}
use Rattle.step_kinds.specs.Answers.{Outcome}
use Rattle.step_event.specs.Steps.{step_of}
use Rattle.laws_demands.specs.Product.{Step}
use Rattle.laws_demands.specs.Wrong.{with_model}
use Rattle.laws_demands.specs.Slips.{with_override}

-- another outcome for a run of bytes, or for a flag register's read
abbrev pub later_typed : (ℕ → RawBytes → Outcome) → (ℕ → Outcome) → Outcome → Later → Outcome
later_typed run read else (later.Set number value) = else
later_typed run read else (later.Write address byte) = else
later_typed run read else later.TakeFlags = else
later_typed run read else (later.Observe x) = else
later_typed run read else later.Service = else
later_typed run read else later.Reset = else
later_typed run read else (later.WriteRun first raw) = run first raw
later_typed run read else (later.ReadFlags address) = read address

abbrev pub typed_by : (ℕ → RawBytes → Outcome) → (ℕ → Outcome) → Outcome → Turn → Outcome
typed_by run read else (Opens p) = else
typed_by run read else (Follows e) = later_typed run read else e
typed_by run read else OpensOutside = else
typed_by run read else FollowsOutside = else

-- a run of one byte
abbrev pub one_byte : RawBytes → ℕ → RawBytes
one_byte raw i = record { length = 1; w0 = byte_of (raw_of raw) i; w1 = 0; w2 = 0; w3 = 0; w4 = 0; w5 = 0; w6 = 0; w7 = 0 }

-- half a run: its first byte is taken, and the others are dropped
unfoldable pub takes_half : Step
takes_half m e = typed_by (λ first raw. step_of m (WriteRun first (one_byte raw 0))) (λ address. step_of m e) (step_of m e) (turn_of e)

-- half a run in the other sense: one that is refused leaves its first byte taken
unfoldable pub keeps_front : Step
keeps_front m e =
    typed_by (λ first raw. pick (eqb (step_of m e).number 0) (step_of m e) (with_model (step_of m e) (step_of m (WriteRun first (one_byte raw 0))).model)) (λ address. step_of m e) (step_of m e)
    (turn_of e)

-- the model settles after each byte
unfoldable pub settles_between : Step
settles_between m e =
    typed_by (λ first raw. stepwise (λ (o : Outcome) (i : ℕ). step_of o.model (WriteRun (first + i) (one_byte raw i))) raw.length (with_model (step_of m e) m))
    (λ address. step_of m e) (step_of m e) (turn_of e)

-- CELL_PIN goes by the override that the same run's byte sets
abbrev pub as_typed : ℕ → RawBytes → Model → Model
as_typed first raw Off = Off
as_typed first raw (On s) =
    On (pick (is_written first raw.length cell_override) (with_registers s (with_override (eqb (written_code (byte_of (raw_of raw)) first cell_override) 1) s.registers)) s)

unfoldable pub same_run : Step
same_run m e = typed_by (λ first raw. step_of (as_typed first raw m) e) (λ address. step_of m e) (step_of m e) (turn_of e)

-- a read of one flag register clears the other's flags too
abbrev pub flagless : Model → Model
flagless Off = Off
flagless (On s) = On (with_flags s no_flags)

unfoldable pub clears_both : Step
clears_both m e =
    typed_by (λ first raw. step_of m e) (λ address. pick (eqb (step_of m e).number 0) (with_model (step_of m e) (flagless (step_of m e).model)) (step_of m e)) (step_of m e) (turn_of e)
