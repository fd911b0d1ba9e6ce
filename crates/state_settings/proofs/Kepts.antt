-- What settings may hold, test by test: those that are on or off may hold what they do.
use mathlib.Core.Path.{◌≡◌, refl}
use mathlib.Core.Bool.{Bool, true, false, ◌&&◌}
use Rattle.base.specs.Pick.{bit_of}
use Rattle.base.specs.Volts.{millivolts_of}
use Rattle.state_parts.specs.declared.profile.Profile.{Profile}
use Rattle.state_parts.specs.declared.settings.Settings.{Settings}
use Rattle.state_settings.specs.Kept.{settings_ok}
use Rattle.state_settings.specs.Numbered.{held_of, setting_numbers}
use Rattle.state_settings.specs.Ranges.{range, ranges, range_of, in_range, may_hold}

test-kept : (t : Bool) → in_range (range 0 1 1) (bit_of t) ≡ true
test-kept true = refl
test-kept false = refl

five-true : (a b : Bool) → (a && b) ≡ (a && true && true && true && true && true && b)
five-true true b = refl
five-true false b = refl

-- five settings are on or off
tests-kept : (p : Profile) (s : Settings)
    → (may_hold p 9 (bit_of s.enchg) ≡ true) × (may_hold p 10 (bit_of s.enterm) ≡ true) × (may_hold p 11 (bit_of s.enhiz) ≡ true)
    × (may_hold p 12 (bit_of s.enextilim) ≡ true) × (may_hold p 13 (bit_of s.disstat) ≡ true)
unfolding may_hold range_of ranges
tests-kept p s = (test-kept s.enchg, test-kept s.enterm, test-kept s.enhiz, test-kept s.enextilim, test-kept s.disstat)

-- the settings before them
abbrev first : Profile → Settings → Bool
first p s =
    may_hold p 1 (millivolts_of s.vreg)
    && may_hold p 2 s.ichg
    && may_hold p 3 s.iprechg
    && may_hold p 4 s.iterm
    && may_hold p 5 s.iindpm
    && may_hold p 6 (millivolts_of s.vsysmin)
    && may_hold p 7 s.lowv
    && may_hold p 8 s.vrechg

pub kept-is : (p : Profile) (s : Settings) → (first p s && may_hold p 14 s.masks) ≡ settings_ok p s
unfolding settings_ok held_of setting_numbers
kept-is p s =
    let k = tests-kept p s in
    rw (k.0, k.1, k.2, k.3, k.4) (five-true (first p s) (may_hold p 14 s.masks))
