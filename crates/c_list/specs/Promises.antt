-- What is promised of a state's numbers: the types of the theorems that proofs/ proves.
use Rattle.std.specs.Prelude.{◌≤◌, ◌≡◌}
use Rattle.state_parts.specs.Edges.{all_flags}
use Rattle.state_parts.specs.declared.state.State.{State}
use Rattle.c_list.specs.Numbers.{state_numbers}
use Rattle.c_list.specs.Back.{state_from}

-- a state's numbers make the state again; there are twelve flags
abbrev pub MadeAgain : Type 0
MadeAgain = (s : State) → s.flags ≤ all_flags → state_from (state_numbers s) ≡ s
