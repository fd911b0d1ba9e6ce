-- `observed`: each part by its own function, on a state that holds what it may.
use Rattle.step_event.proofs.Clocks.{few-units}
use Rattle.state_valid.proofs.Wholes.{apart}
use Rattle.step_event.specs.Clock.{observed_of}
use Rattle.step_event.proofs.clock.observed.Goals as goal

pub times-cycle-requires : goal.times-cycle-requires
times-cycle-requires c = let h = apart c.args.valid.state c.args.valid.passes in (h.profile, h.cycle, few-units _ _ c.requires c.units-n.ensures c.elapsed-ms.ensures)

pub counted-watchdog-requires : goal.counted-watchdog-requires
counted-watchdog-requires c = (apart c.args.valid.state c.args.valid.passes).profile

pub returns : goal.returns
unfolding observed_of
returns c = simp (c.cleared-registers.ensures, c.expires-expires.ensures, c.counted-watchdog.ensures, c.times-cycle.ensures, c.units-n.ensures, c.elapsed-ms.ensures)
