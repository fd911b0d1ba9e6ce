-- What the step's functions ask, over plain values.
use Rattle.std.proofs.Common.{◌≡◌, Bool, true, false, sym, ap, ◌∙◌}
use Rattle.base.specs.Told.{refused}
use Rattle.state_parts.specs.declared.state.State.{State}
use Rattle.state_parts.specs.declared.state.Model.{Model}
use Rattle.state_parts.specs.declared.state.Model.TheVariants.{On}
use Rattle.state_valid.specs.Holds.{state_ok}
use Rattle.step_turns.specs.declared.turn.Turn.{Turn}
use Rattle.step_event.specs.Steps.{moved_of, change_of, model_ok}

-- a model that is on, and is known to hold what it may, or not
pub known_on : (m : Model) (s : State) (t : Turn) {ok : Bool} → ok ≡ model_ok m → m ≡ On s → ok ≡ true → moved_of s t ≡ change_of m t
unfolding change_of model_ok
known_on m s t k on e = let good : state_ok s ≡ true = sym (ap model_ok on) ∙ sym k ∙ e in rw on (simp good)

pub unknown-on : (m : Model) (s : State) (t : Turn) {ok : Bool} → ok ≡ model_ok m → m ≡ On s → ok ≡ false → refused 5 ≡ change_of m t
unfolding change_of model_ok
unknown-on m s t k on e = let bad : state_ok s ≡ false = sym (ap model_ok on) ∙ sym k ∙ e in rw on (simp bad)
