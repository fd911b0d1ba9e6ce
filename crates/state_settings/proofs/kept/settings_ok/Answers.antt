-- `settings_ok`: its calls' results, test by test.
use Rattle.state_settings.proofs.Kepts.{kept-is}
use Rattle.state_settings.proofs.kept.settings_ok.Goals as goal

pub returns : goal.returns
returns c = simp (c.may_hold-masks.ensures, c.may_hold-vrechg.ensures, c.may_hold-lowv.ensures, c.may_hold-vsysmin.ensures, c.may_hold-iindpm.ensures, c.may_hold-iterm.ensures, c.may_hold-iprechg.ensures, c.may_hold-ichg.ensures, c.may_hold-vreg.ensures, c.from-least.ensures, c.from-volts.ensures) (kept-is c.args.p c.args.s)
