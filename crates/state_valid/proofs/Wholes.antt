-- A state holds what it may if and only if each of its parts does.
use mathlib.Core.Path.{◌≡◌}
use mathlib.Core.Bool.{true}
use lib.Dec.{leb}
use Rattle.base.proofs.Tests.{and-iff}
use Rattle.state_parts.specs.Edges.{all_flags}
use Rattle.state_parts.specs.declared.state.State.{State}
use Rattle.state_settings.specs.Kept.{settings_ok}
use Rattle.state_valid.specs.Holds.{profile_ok, sample_ok, registers_ok, cycle_ok, watchdog_ok, state_ok}

pub record Holding (s : State) : Type 0 where
  pub profile : profile_ok s.profile ≡ true
  pub settings : settings_ok s.profile s.settings ≡ true
  pub registers : registers_ok s.profile s.registers ≡ true
  pub cycle : cycle_ok s.cycle s.profile s.phase ≡ true
  pub watchdog : watchdog_ok s.watchdog s.profile ≡ true
  pub sample : sample_ok s.sample ≡ true
  pub flags : leb s.flags all_flags ≡ true

pub apart : (s : State) → state_ok s ≡ true → Holding s
unfolding state_ok
apart s e =
    let k = simp (and-iff) at e in
    record { profile = k.0.0.0.0.0.0; settings = k.0.0.0.0.0.1; registers = k.0.0.0.0.1; cycle = k.0.0.0.1; watchdog = k.0.0.1; sample = k.0.1; flags = k.1 }

pub whole : (s : State) → Holding s → state_ok s ≡ true
unfolding state_ok
whole s k = simp (k.profile, k.settings, k.registers, k.cycle, k.watchdog, k.sample, k.flags)
