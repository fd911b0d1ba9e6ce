-- `acted`: a reset, or a service.
use mathlib.Core.Path.{sym, ap, ◌∙◌}
use mathlib.Core.Bool.{Bool}
use Rattle.base.specs.Pick.{pick}
use Rattle.log_raw.specs.Struct.{raw_of}
use Rattle.state_parts.specs.With.{with_watchdog}
use Rattle.state_start.specs.Values.{start_watchdog}
use Rattle.state_runs.specs.Runs.{with_kept}
use Rattle.step_kinds.proofs.Writing.{acts-reset, acts-plain}
use Rattle.step_kinds.proofs.plain.acted.Goals as goal

pub returns-then-resets : goal.returns-then-resets
returns-then-resets c =
    let a = c.args in
    c.kept_reset.ensures ∙ acts-reset (with_kept a.s a.k) a.address (raw_of a.raw) (sym c.resets.ensures ∙ c.if-resets.true)

pub returns-else-resets : goal.returns-else-resets
returns-else-resets c =
    let a = c.args in
    c.kept_in.ensures ∙ ap (λ (t : Bool). with_watchdog (with_kept a.s a.k) (pick t start_watchdog a.s.watchdog)) c.serves-serves.ensures
    ∙ acts-plain a.s a.k a.address (raw_of a.raw) (sym c.resets.ensures ∙ c.if-resets.false)
