-- What is promised of flags as a number.
use Rattle.std.specs.Prelude.{ℕ, ◌≤◌, ◌≡◌, ◌||◌}
use Rattle.state_parts.specs.Edges.{flags_number, merged, all_flags}
use Rattle.state_parts.specs.declared.flags.Edges.{Edges}

-- flag by flag, what is among the one or the other
abbrev pub either_of : Edges → Edges → Edges
either_of a b = record {
  good = a.good || b.good;
  lost = a.lost || b.lost;
  iindpm = a.iindpm || b.iindpm;
  vindpm = a.vindpm || b.vindpm;
  thermal = a.thermal || b.thermal;
  expired = a.expired || b.expired;
  phase = a.phase || b.phase;
  band = a.band || b.band;
  inputover = a.inputover || b.inputover;
  shutdown = a.shutdown || b.shutdown;
  packover = a.packover || b.packover;
  limit = a.limit || b.limit;
}

-- held flags and edges come together flag by flag
abbrev pub FlagsJoin : Type 0
FlagsJoin = (held edges : Edges) → merged (flags_number held) edges ≡ flags_number (either_of held edges)

-- and stay twelve bits
abbrev pub FlagsFit : Type 0
FlagsFit = (held : ℕ) (edges : Edges) → held ≤ all_flags → merged held edges ≤ all_flags
