-- `times`: each stage's time by `added`.
use Rattle.state_valid.proofs.Bounds.{profile-bounds, stages-apart}
use Rattle.step_event.specs.Clock.{times_of}
use Rattle.step_event.proofs.clock.times.Goals as goal

pub added-trickle-requires : goal.added-trickle-requires
added-trickle-requires c = let k = stages-apart c.args.c c.args.p c.args.held c.requires.1 in (rw c.in_trickle.ensures k.trickle, (profile-bounds c.args.p c.requires.0).trickle, c.requires.2)

pub added-precharge-requires : goal.added-precharge-requires
added-precharge-requires c = let k = stages-apart c.args.c c.args.p c.args.held c.requires.1 in (rw c.in_precharge.ensures k.precharge, (profile-bounds c.args.p c.requires.0).precharge, c.requires.2)

pub added-fast-requires : goal.added-fast-requires
added-fast-requires c = let k = stages-apart c.args.c c.args.p c.args.held c.requires.1 in (rw c.in_fast.ensures k.fast, (profile-bounds c.args.p c.requires.0).fast, c.requires.2)

pub returns : goal.returns
unfolding times_of
returns c = simp (c.added-fast.ensures, c.in_fast.ensures, c.added-precharge.ensures, c.in_precharge.ensures, c.added-trickle.ensures, c.in_trickle.ensures)
