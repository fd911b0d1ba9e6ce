-- 02, R-8, the pack sheet's second edition: what a thermistor's band becomes, by the edition, the band that is held, the registers as they stand and its TS.
use Rattle.std.specs.Prelude.{ℕ, ◌+◌, Bool, true, false, not, ◌&&◌, ◌||◌, leb, eqb}
use Rattle.base.specs.Pick.{pick}
use Rattle.state_parts.specs.declared.band.Bands.{Bands}
use Rattle.state_parts.specs.declared.band.TsBand.{TsBand}
use Rattle.state_parts.specs.declared.band.TsBand.TheVariants.{Normal, Cold, Cool, Warm, Hot}
use Rattle.state_parts.specs.declared.profile.Profile.{Profile}
use Rattle.state_parts.specs.declared.registers.Registers.{Registers}
use Rattle.state_parts.specs.declared.sample.Sample.{Sample}
use Rattle.settle_bands.specs.Thresholds.{band_by, marks_of, band_of}
use Rattle.settle_bands.specs.Joined.{is_band}
use Rattle.settle_bands.specs.declared.thresholds.Marks.{Marks}

-- "an edition number 1 or 2": whether bands are held
abbrev pub holds_bands : Profile → Bool
holds_bands p = eqb p.edition 2

-- by a band: nothing is held of normal
abbrev pub by_held : TsBand → Bool → Bool → Bool → Bool → Bool
by_held Normal cold hot cool warm = true
by_held Cold cold hot cool warm = cold
by_held Cool cold hot cool warm = cool
by_held Warm cold hot cool warm = warm
by_held Hot cold hot cool warm = hot

-- "a band other than normal, once entered, held until TS is 1,000 units or more back past the threshold that let it in"; "Moved thresholds are read as they stand at each event."
abbrev pub back_by : Marks → TsBand → ℕ → Bool
back_by m held ts = by_held held (leb (ts + 1000) m.th1) (leb (m.th5 + 1000) ts) (leb (ts + 1000) m.th2) (leb (m.th3 + 1000) ts)

-- "EN_TS 0 ends any holding at once, EN_JEITA 0 that of cool and warm."
abbrev pub ended_by : Marks → TsBand → Bool
ended_by m held = m.off || by_held held false false (not m.jeita) (not m.jeita)

-- "Cold and hot are entered at once."
abbrev pub at_once : TsBand → Bool
at_once fresh = is_band Cold fresh || is_band Hot fresh

-- whether what is held stays, beside what the first edition would judge
unfoldable pub stays_by : Marks → TsBand → ℕ → Bool
stays_by m held ts = not (at_once (band_by m ts)) && not (ended_by m held) && not (back_by m held ts)

-- "A band that is left is judged afresh by the first edition's order."; the first edition holds nothing
unfoldable pub next_by : Bool → Marks → TsBand → ℕ → TsBand
next_by holds m held ts = pick (holds && stays_by m held ts) held (band_by m ts)

-- one thermistor's next band
unfoldable pub next_of : Profile → Registers → TsBand → ℕ → TsBand
next_of p g held ts = next_by (holds_bands p) (marks_of p g) held ts

-- "for each thermistor by itself"
unfoldable pub bands_of : Profile → Registers → Sample → Bands → Bands
bands_of p g x held = record { first = next_of p g held.first x.ts; second = next_of p g held.second x.secondts }

-- by the first edition, whatever the power-on says, and by the second
unfoldable pub fresh_bands : Profile → Registers → Sample → Bands → Bands
fresh_bands p g x held = record { first = band_of p g x.ts; second = band_of p g x.secondts }

unfoldable pub held_bands : Profile → Registers → Sample → Bands → Bands
held_bands p g x held = record { first = next_by true (marks_of p g) held.first x.ts; second = next_by true (marks_of p g) held.second x.secondts }
