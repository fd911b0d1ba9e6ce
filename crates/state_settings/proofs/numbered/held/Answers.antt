-- `held`: the number at its place.
use Rattle.state_settings.specs.Numbered.{held_of, setting_numbers}
use Rattle.state_settings.proofs.numbered.held.Goals as goal

pub returns : goal.returns
unfolding held_of setting_numbers
returns c = simp (c.of.ensures, c.bit-disstat.ensures.0, c.bit-enextilim.ensures.0, c.bit-enhiz.ensures.0, c.bit-enterm.ensures.0, c.bit-enchg.ensures.0, c.from-vsysmin.ensures, c.from-vreg.ensures)
