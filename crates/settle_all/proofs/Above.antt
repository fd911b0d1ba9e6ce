-- No state is tested as one that tapers below the recharge point, once short has ended.
use mathlib.Core.Path.{◌≡◌, refl}
use mathlib.Core.Bool.{Bool, true, false, not, ◌&&◌}
use Rattle.settle_levels.proofs.Shorts.{no-taper-below-unless-short}
use Rattle.settle_levels.specs.Comparators.{latches_of}
use Rattle.state_parts.specs.declared.band.Band.{Band}
use Rattle.state_parts.specs.declared.latches.Latches.{Latches}
use Rattle.state_parts.specs.declared.state.State.{State}
use Rattle.settle_phases.proofs.Again.{NoneBelow}
use Rattle.settle_all.specs.Gather.{tests_of}

not-all : (short taper recharge : Bool) → (short ≡ false → taper ≡ true → recharge ≡ false) → (not short && (taper && recharge)) ≡ false
not-all true taper recharge h = refl
not-all false false recharge h = refl
not-all false true recharge h = h refl refl

pub none_below : (s : State) (was : Latches) (b : Band) (observed : Bool)
    → NoneBelow (tests_of s (latches_of s.profile s.settings s.registers s.sample was) b observed)
unfolding tests_of
none_below s was b observed = not-all _ _ _ (no-taper-below-unless-short s.profile s.settings s.registers b s.sample was)
