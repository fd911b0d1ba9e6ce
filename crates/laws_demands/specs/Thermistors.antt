-- 02, R-7: two thermistors. What every product that meets the demands does with an observation of two equal values, and wrong readings of the request, each this product's step but that it
-- settles by other bands.
use Rattle.std.specs.Prelude.{min, eqb}
use Rattle.base.specs.Pick.{pick}
use Rattle.state_parts.specs.Numbers.{band_number}
use Rattle.state_parts.specs.declared.band.Band.TheVariants.{Mixed}
use Rattle.state_parts.specs.declared.band.Bands.{Bands}
use Rattle.state_parts.specs.declared.band.TsBand.{TsBand}
use Rattle.settle_bands.specs.Joined.{pack_band}
use Rattle.settle_bands.specs.Holding.{next_of, bands_of}
use Rattle.laws_step.specs.Observed.{EqualActAsFive, ExchangedActAlike}
use Rattle.laws_demands.specs.Product.{Step, Product}
use Rattle.laws_demands.specs.First.{FirstDemand}
use Rattle.laws_demands.specs.Second.{SecondDemand}
use Rattle.laws_demands.specs.Slips.{step_banded}

-- of every product that meets demands 1 and 2, on every model
abbrev pub EveryProductActsAsFive : Type 0
EveryProductActsAsFive = (p : Product) → FirstDemand p → SecondDemand p → EqualActAsFive p.step

abbrev pub EveryProductActsAlike : Type 0
EveryProductActsAlike = (p : Product) → FirstDemand p → SecondDemand p → ExchangedActAlike p.step

-- ---- wrong readings
abbrev pub both : TsBand → Bands
both b = record { first = b; second = b }

-- one thermistor alone: the first, or the second
unfoldable pub by_first : Step
by_first m e = step_banded (λ p g x held. both (next_of p g held.first x.ts)) m e

unfoldable pub by_second : Step
by_second m e = step_banded (λ p g x held. both (next_of p g held.second x.secondts)) m e

-- the warmer one: its TS is the lower
unfoldable pub by_warmer : Step
by_warmer m e = step_banded (λ p g x held. both (next_of p g held.first (min x.ts x.secondts))) m e

-- another band for cool beside warm
abbrev pub instead_of_mixed : TsBand → Bands → Bands
instead_of_mixed other b = pick (eqb (band_number (pack_band b)) (band_number Mixed)) (both other) b

-- each of normal, cool and warm would charge
unfoldable pub mixed_as : TsBand → Step
mixed_as other m e = step_banded (λ p g x held. instead_of_mixed other (bands_of p g x held)) m e
