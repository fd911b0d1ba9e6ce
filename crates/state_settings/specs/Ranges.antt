-- 01, "Settings (start values are house)": each setting's range and step, and "setting value outside its range or off its step" (9).
use Rattle.std.specs.Prelude.{ℕ, suc, ◌%◌, Bool, ◌&&◌, List, [], ◌∷◌, get_or, leb, eqb}
use Rattle.state_parts.specs.declared.profile.Profile.{Profile}
use Rattle.state_settings.specs.declared.ranges.Range.{Range}

abbrev pub range : ℕ → ℕ → ℕ → Range
range low high step = record { low = low; high = high; step = step }

-- the last setting's number: the table below has a row for each number up to it (`one_each`)
abbrev pub last_setting : ℕ
last_setting = 14

-- "setting number not 1-14" (8)
abbrev pub known_setting : Profile → ℕ → Bool
known_setting p number = leb 1 number && leb number last_setting

-- a row for each setting at its number, low, high and step; nothing is in the range at 0
unfoldable pub ranges : List Range
ranges =
    range 1 0 1
    ∷ range 2400 33000 10  -- VREG
    ∷ range 40 3300 20  -- ICHG
    ∷ range 20 620 20  -- IPRECHG
    ∷ range 20 620 20  -- ITERM
    ∷ range 40 3300 20  -- IINDPM
    ∷ range 3000 28000 20  -- VSYSMIN
    ∷ range 0 3 1  -- VBAT_LOWV
    ∷ range 0 3 1  -- VRECHG
    ∷ range 0 1 1  -- EN_CHG
    ∷ range 0 1 1  -- EN_TERM
    ∷ range 0 1 1  -- EN_HIZ
    ∷ range 0 1 1  -- EN_EXTILIM
    ∷ range 0 1 1  -- DIS_STAT_PIN
    ∷ range 0 4095 1  -- masks
    ∷ []

unfoldable pub range_of : Profile → ℕ → Range
range_of p number = get_or ranges (number % suc last_setting) (range 0 0 0)

abbrev pub in_range : Range → ℕ → Bool
in_range r value = leb r.low value && leb value r.high && eqb (value % r.step) 0

unfoldable pub may_hold : Profile → ℕ → ℕ → Bool
may_hold p number value = known_setting p number && in_range (range_of p number) value
