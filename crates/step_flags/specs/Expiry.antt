-- 01, "One observation, in order": "reaching its period expires it .. and it rests until service or a reset zeroes it"; "a period 0 counts nothing".
use Rattle.std.specs.Prelude.{◌*◌, Bool, not, ◌&&◌, leb, eqb}
use Rattle.state_parts.specs.declared.profile.Profile.{Profile}
use Rattle.state_parts.specs.declared.watchdog.Watchdog.{Watchdog}

-- a period of s seconds is reached at 1,000s ms
unfoldable pub expired_of : Profile → Watchdog → Bool
expired_of p w = not (eqb p.watchdog 0) && leb (p.watchdog * 1000) w.count

-- it wasn't, and now is
abbrev pub begins : Bool → Bool → Bool
begins was is = not was && is

-- "reaching its period expires it": between two counts
unfoldable pub expires_of : Profile → Watchdog → Watchdog → Bool
expires_of p was is = begins (expired_of p was) (expired_of p is)
