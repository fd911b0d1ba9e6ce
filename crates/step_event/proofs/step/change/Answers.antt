-- `change`: off, on, or on and holding what it may not.
use Rattle.std.proofs.Common.{sym, ap, ◌∙◌}
use Rattle.step_event.specs.Steps.{change_of, model_ok}
use Rattle.step_event.proofs.Events.{known_on, unknown-on}
use Rattle.step_event.proofs.step.change.Goals as goal

pub invariant_of-moved : goal.invariant_of-moved
unfolding model_ok
invariant_of-moved c = record { passes = sym (sym c.if-ok.true ∙ c.requires ∙ ap model_ok c.in-On.is) }

pub returns-in-Off : goal.returns-in-Off
unfolding change_of
returns-in-Off c = simp (c.first.ensures, c.in-Off.is)

pub returns-then-ok : goal.returns-then-ok
returns-then-ok c = c.moved.ensures ∙ known_on _ _ _ c.requires c.in-On.is c.if-ok.true

pub returns-else-ok : goal.returns-else-ok
returns-else-ok c = unknown-on _ _ _ c.requires c.in-On.is c.if-ok.false
