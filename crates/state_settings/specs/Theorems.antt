-- What is proved of settings that hold what they may.
use Rattle.std.specs.Prelude.{◌≤◌, ◌≡◌, true}
use Rattle.base.specs.Volts.{millivolts_of}
use Rattle.state_parts.specs.declared.profile.Profile.{Profile}
use Rattle.state_parts.specs.declared.settings.Settings.{Settings}
use Rattle.state_settings.specs.Kept.{settings_ok}

-- "1 VREG 2,400-33,000": the least VREG, on which it rests that no sample tapers below the recharge point (02, R-2)
abbrev pub LeastVreg : Type 0
LeastVreg = (p : Profile) (s : Settings) → settings_ok p s ≡ true → 2400 ≤ millivolts_of s.vreg
