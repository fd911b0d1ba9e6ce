-- What an event writes before it settles, and how it then ends; or the number with which it is refused.
use Rattle.std.specs.Prelude.{Result, Ok, Err}
use Rattle.base.specs.Refusals.{refusal_number}
use Rattle.base.specs.declared.refusal.Refusal.{Refusal}
use Rattle.base.specs.Told.{Told, accepted, refused}
use Rattle.state_parts.specs.declared.state.State.{State}
use Rattle.step_kinds.specs.declared.change.Way.{Way}

pub record Changed : Type 0 where
  pub state : State
  pub way : Way

abbrev pub changed : State → Way → Told Changed
changed s way = accepted (record { state = s; way = way })

abbrev pub made_told : State × Way → Told Changed
made_told made = changed made.0 made.1

abbrev pub change_told : Result (State × Way) Refusal → Told Changed
change_told (Ok made) = made_told made
change_told (Err r) = refused (refusal_number r)
