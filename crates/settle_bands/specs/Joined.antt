-- 02, R-7: "New packs have one at each end. The sample gets a second TS value, judged by the same registers." What two thermistors' bands come to.
use Rattle.std.specs.Prelude.{Bool, ◌&&◌, ◌||◌, eqb}
use Rattle.base.specs.Pick.{pick}
use Rattle.state_parts.specs.Numbers.{ts_band_number}
use Rattle.state_parts.specs.declared.band.Band.{Band}
use Rattle.state_parts.specs.declared.band.Band.TheVariants.{Normal, Cold, Cool, Warm, Hot, Mixed}
use Rattle.state_parts.specs.declared.band.Bands.{Bands}
use Rattle.state_parts.specs.declared.band.TsBand.{TsBand}
use Rattle.state_parts.specs.declared.band.TsBand.TheVariants as ts

-- whether a thermistor's band is this one, and whether one of two is
abbrev pub is_band : TsBand → TsBand → Bool
is_band is a = eqb (ts_band_number a) (ts_band_number is)

unfoldable pub either : TsBand → TsBand → TsBand → Bool
either is a b = is_band is a || is_band is b

-- "If either is cold the band is cold, else if either is hot it is hot; cool beside warm counts as a new band, apart, which suspends; otherwise the one that isn't normal decides."
abbrev pub first_joined : Bool → Bool → Bool → Bool → Bool → Band
first_joined cold hot mixed cool warm = pick cold Cold (pick hot Hot (pick mixed Mixed (pick cool Cool (pick warm Warm Normal))))

unfoldable pub joined_of : TsBand → TsBand → Band
joined_of a b = first_joined (either ts.Cold a b) (either ts.Hot a b) (either ts.Cool a b && either ts.Warm a b) (either ts.Cool a b) (either ts.Warm a b)

-- of what is held
abbrev pub pack_band : Bands → Band
pack_band b = joined_of b.first b.second
