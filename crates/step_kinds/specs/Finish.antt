-- 01: what every accepted event ends with. "4. Settle." "Other accepted events settle on the held sample". Flags "on an edge between the state before the event and the
-- state after settling". "One pulse per event with an unmasked edge, by the masks after it."
use Rattle.std.specs.Prelude.{ℕ, ◌*◌, ◌/◌, ◌%◌, Bool, true, false, eqb}
use Rattle.base.specs.Pick.{pick}
use Rattle.report_registers.specs.Reads.{flag_byte}
use Rattle.state_parts.specs.declared.profile.Profile.{Profile}
use Rattle.state_parts.specs.Edges.{merged, pulse_of, no_flags, power_on_flags}
use Rattle.state_parts.specs.With.{with_flags}
use Rattle.state_parts.specs.declared.state.State.{State}
use Rattle.state_parts.specs.declared.state.Model.TheVariants.{On}
use Rattle.settle_all.specs.Settle.{settle_of}
use Rattle.step_flags.specs.Edges.{seen_of, edges_of}
use Rattle.step_flags.specs.declared.between.Seen.{Seen}
use Rattle.step_kinds.specs.Answers.{Outcome}
use Rattle.step_kinds.specs.declared.change.Way.{Way}
use Rattle.step_kinds.specs.declared.change.Way.TheVariants.{Plain, Observes, Takes, Reads, Powers}

-- "Done begins, and 5 is reported, only on an observation"
abbrev pub observing : Way → Bool
observing Plain = false
observing Observes = true
observing Takes = false
observing (Reads address) = false
observing Powers = false

-- 02, R-3: "A read of a flag register clears its own flags": bits 0-7 for 0x20, 8-11 for 0x21
abbrev pub flags_left : ℕ → ℕ → ℕ
flags_left address all = pick (eqb address 0x20) (all / 256 * 256) (all % 256)

-- "take flags | none; hands back the held flags and clears them", those of its own settling too. "Power-on sets flags to 32"
abbrev pub kept_by : Way → ℕ → ℕ
kept_by Plain all = all
kept_by Observes all = all
kept_by Takes all = no_flags
kept_by (Reads address) all = flags_left address all
kept_by Powers all = power_on_flags

-- a read of a flag register hands back its byte, as it reads with them
abbrev pub handed_by : Profile → Way → ℕ → ℕ
handed_by p Plain all = no_flags
handed_by p Observes all = no_flags
handed_by p Takes all = all
handed_by p (Reads address) all = flag_byte p address all
handed_by p Powers all = no_flags

-- "Power-on .. pulses."
abbrev pub pulses_by : Way → Bool → Bool
pulses_by Plain edge = edge
pulses_by Observes edge = edge
pulses_by Takes edge = edge
pulses_by (Reads address) edge = edge
pulses_by Powers edge = true

-- what was seen of the state before the event, and the state that it wrote, whose flags are still those held before; however it settles
abbrev pub finish_by : (State → Bool → State) → Seen → State → Way → Outcome
finish_by settle before written way =
    let after = settle written (observing way) in
    let edges = edges_of before (seen_of after) in
    let all = merged written.flags edges in
    record {
      number = 0;
      place = 0;
      model = On (with_flags after (kept_by way all));
      pulse = pulses_by way (pulse_of edges after.settings.masks);
      handed = handed_by after.profile way all;
    }

unfoldable pub finish_of : Seen → State → Way → Outcome
finish_of before written way = finish_by settle_of before written way
