-- 01: "a handed-in model's field outside what it may hold" (5). Settings may hold exactly what a set may give them.
use Rattle.std.specs.Prelude.{ℕ, zero, suc, Bool, true, ◌&&◌}
use Rattle.state_parts.specs.declared.profile.Profile.{Profile}
use Rattle.state_parts.specs.declared.settings.Settings.{Settings}
use Rattle.state_settings.specs.Numbered.{held_of}
use Rattle.state_settings.specs.Ranges.{last_setting, may_hold}

-- every setting up to a number holds what it may
abbrev pub holds_to : Profile → Settings → ℕ → Bool
holds_to p s zero = true
holds_to p s (suc number) = holds_to p s number && may_hold p (suc number) (held_of s (suc number))

unfoldable pub settings_ok : Profile → Settings → Bool
settings_ok p s = holds_to p s last_setting
