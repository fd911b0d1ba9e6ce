-- The join of two thermistors' bands is what the request says, and whatever is so is this join.
use mathlib.Core.Path.{◌≡◌, refl, sym, ap, ◌∙◌}
use mathlib.Core.Bool.{false, ◌&&◌, or_comm}
use Rattle.state_parts.specs.declared.band.Band.{Band}
use Rattle.state_parts.specs.declared.band.Band.TheVariants as pack
use Rattle.state_parts.specs.declared.band.TsBand.{TsBand}
use Rattle.state_parts.specs.declared.band.TsBand.TheVariants.{Normal, Cold, Cool, Warm, Hot}
use Rattle.settle_bands.specs.Effect.{suspends_of}
use Rattle.settle_bands.specs.Joined.{is_band, either, first_joined, joined_of}
use Rattle.settle_bands.specs.Holding.{next_of, bands_of}
use Rattle.settle_bands.specs.Joining.{alone, Joins, JoinsAsSaid, JoinedSuspends, EitherEnd, EqualActAsOne}

swapped : (is a b : TsBand) → either is a b ≡ either is b a
unfolding either
swapped is a b = or_comm (is_band is a) (is_band is b)

either_way : (a b : TsBand) → joined_of a b ≡ joined_of b a
unfolding joined_of
either_way a b = λ i. first_joined (swapped Cold a b i) (swapped Hot a b i) (swapped Cool a b i && swapped Warm a b i) (swapped Cool a b i) (swapped Warm a b i)

beside-hot : (b : TsBand) → is_band Cold b ≡ false → joined_of Hot b ≡ pack.Hot
unfolding joined_of either
beside-hot b warmer = rw warmer

beside-normal : (b : TsBand) → joined_of Normal b ≡ alone b
unfolding joined_of either
beside-normal Normal = refl
beside-normal Cold = refl
beside-normal Cool = refl
beside-normal Warm = refl
beside-normal Hot = refl

alike : (b : TsBand) → joined_of b b ≡ alone b
unfolding joined_of either
alike Normal = refl
alike Cold = refl
alike Cool = refl
alike Warm = refl
alike Hot = refl

our-joins : Joins joined_of
unfolding joined_of either
our-joins = record { either_way = either_way; cold = λ b. refl; hot = beside-hot; apart = refl; decides = beside-normal; alike = alike }

-- a band that comes before in the order settles the join from either side
module _ (join : TsBand → TsBand → Band) (k : Joins join) where
  turned : (a b : TsBand) (c : Band) → join b a ≡ c → join a b ≡ c
  turned a b c e = k.either_way a b ∙ e

  same : (a b : TsBand) → join a b ≡ joined_of a b
  unfolding joined_of either
  same Normal b = k.decides b ∙ sym (beside-normal b)
  same Cold b = k.cold b
  same Hot Cold = turned Hot Cold _ (k.cold Hot)
  same Hot Normal = k.hot Normal refl
  same Hot Hot = k.hot Hot refl
  same Hot Cool = k.hot Cool refl
  same Hot Warm = k.hot Warm refl
  same Cool Normal = turned Cool Normal _ (k.decides Cool)
  same Cool Cold = turned Cool Cold _ (k.cold Cool)
  same Cool Hot = turned Cool Hot _ (k.hot Cool refl)
  same Cool Cool = k.alike Cool
  same Cool Warm = k.apart
  same Warm Normal = turned Warm Normal _ (k.decides Warm)
  same Warm Cold = turned Warm Cold _ (k.cold Warm)
  same Warm Hot = turned Warm Hot _ (k.hot Warm refl)
  same Warm Cool = turned Warm Cool _ k.apart
  same Warm Warm = k.alike Warm

pub joins-as-said : JoinsAsSaid
joins-as-said = record { ours = our-joins; only = same }

pub joined-suspends : JoinedSuspends
unfolding suspends_of
joined-suspends = record { cold = λ p g. refl; hot = λ p g. refl; mixed = λ p g. refl }

pub either_end : EitherEnd
unfolding bands_of
either_end = record { judged = λ p g x held. refl; joined = λ b. either_way b.second b.first }

pub equal-act-as-one : EqualActAsOne
unfolding bands_of
equal-act-as-one p g x held same = ap (λ ts. joined_of (next_of p g held x.ts) (next_of p g held ts)) same ∙ alike (next_of p g held x.ts)
