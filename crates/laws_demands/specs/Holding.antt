-- 02, R-8, wrong readings of the hold: each is this product's step, but that it settles by other bands.
use Rattle.std.specs.Prelude.{ℕ, Bool, not, ◌&&◌, ◌||◌}
use Rattle.base.specs.Pick.{pick}
use Rattle.state_parts.specs.declared.band.TsBand.{TsBand}
use Rattle.state_parts.specs.declared.band.TsBand.TheVariants.{Normal}
use Rattle.state_parts.specs.declared.profile.Profile.{Profile}
use Rattle.state_parts.specs.declared.registers.Registers.{Registers}
use Rattle.state_parts.specs.declared.state.Model.TheVariants.{Off, On}
use Rattle.settle_bands.specs.Thresholds.{marks_of, band_of}
use Rattle.settle_bands.specs.Joined.{is_band}
use Rattle.settle_bands.specs.Holding.{holds_bands, back_by, ended_by, at_once, stays_by}
use Rattle.settle_all.specs.Settle.{Bander}
use Rattle.step_event.specs.Steps.{step_of}
use Rattle.laws_demands.specs.Product.{Step}
use Rattle.laws_demands.specs.Slips.{step_banded}

-- each thermistor by itself, by whatever rule for one
abbrev pub each_by : (Profile → Registers → TsBand → ℕ → TsBand) → Bander
each_by next p g x held = record { first = next p g held.first x.ts; second = next p g held.second x.secondts }

abbrev pub lasts : Profile → Registers → TsBand → ℕ → Bool
lasts p g held ts = holds_bands p && stays_by (marks_of p g) held ts

-- one hold for both thermistors: what is held of each lasts while that of either does
abbrev pub together : Bander
together p g x held =
    let both = lasts p g held.first x.ts || lasts p g held.second x.secondts in
    record { first = pick both held.first (band_of p g x.ts); second = pick both held.second (band_of p g x.secondts) }

unfoldable pub one_hold : Step
one_hold m e = step_banded together m e

-- the threshold of the entry: where an event moves a threshold, the hold still goes by the registers of before it
abbrev pub as_entered : Registers → Profile → Registers → TsBand → ℕ → TsBand
as_entered was p g held ts =
    pick (holds_bands p && not (at_once (band_of p g ts)) && not (ended_by (marks_of p g) held) && not (back_by (marks_of p was) held ts)) held (band_of p g ts)

unfoldable pub keeps_entry : Step
keeps_entry Off e = step_of Off e
keeps_entry (On s) e = step_banded (each_by (as_entered s.registers)) (On s) e

-- cold, and hot, entered late: what is held lasts, though the first edition would judge one of them
unfoldable pub cold_late : Step
cold_late m e = step_banded (each_by (λ p g held ts. pick (holds_bands p && not (ended_by (marks_of p g) held) && not (back_by (marks_of p g) held ts)) held (band_of p g ts))) m e

-- a band that is left is normal, without being judged
unfoldable pub left_normal : Step
left_normal m e =
    step_banded (each_by (λ p g held ts. pick (not (holds_bands p) || is_band Normal held || at_once (band_of p g ts)) (band_of p g ts) (pick (lasts p g held ts) held Normal))) m e
