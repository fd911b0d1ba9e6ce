-- What is promised of two thermistors' bands, joined: the sentence of 02, R-7, part by part, and that the parts leave no choice.
use Rattle.std.specs.Prelude.{◌≡◌, true, false}
use Rattle.state_parts.specs.declared.band.Band.{Band}
use Rattle.state_parts.specs.declared.band.Band.TheVariants.{Normal, Cold, Cool, Warm, Hot, Mixed}
use Rattle.state_parts.specs.declared.band.Bands.{Bands}
use Rattle.state_parts.specs.declared.band.TsBand.{TsBand}
use Rattle.state_parts.specs.declared.band.TsBand.TheVariants as ts
use Rattle.state_parts.specs.declared.profile.Profile.{Profile}
use Rattle.state_parts.specs.declared.registers.Registers.{Registers}
use Rattle.state_parts.specs.declared.sample.Sample.{Sample}
use Rattle.settle_bands.specs.Effect.{suspends_of}
use Rattle.settle_bands.specs.Joined.{is_band, joined_of, pack_band}
use Rattle.settle_bands.specs.Holding.{next_of, bands_of}

-- one thermistor's band as the pack's
abbrev pub alone : TsBand → Band
alone ts.Normal = Normal
alone ts.Cold = Cold
alone ts.Cool = Cool
alone ts.Warm = Warm
alone ts.Hot = Hot

pub record Joins (join : TsBand → TsBand → Band) : Type 0 where
  -- it doesn't matter which thermistor is which
  pub either_way : (a b : TsBand) → join a b ≡ join b a
  -- "If either is cold the band is cold": cold is never lost
  pub cold : (b : TsBand) → join ts.Cold b ≡ Cold
  -- "else if either is hot it is hot"
  pub hot : (b : TsBand) → is_band ts.Cold b ≡ false → join ts.Hot b ≡ Hot
  -- "cool beside warm counts as a new band, apart"
  pub apart : join ts.Cool ts.Warm ≡ Mixed
  -- "otherwise the one that isn't normal decides"; two equal bands join to that band
  pub decides : (b : TsBand) → join ts.Normal b ≡ alone b
  pub alike : (b : TsBand) → join b b ≡ alone b

-- the join meets them, and nothing else does
pub record JoinsAsSaid : Type 0 where
  pub ours : Joins joined_of
  pub only : (join : TsBand → TsBand → Band) → Joins join → (a b : TsBand) → join a b ≡ joined_of a b

-- "a new band, apart, which suspends", as cold and hot do: whatever the registers say
pub record JoinedSuspends : Type 0 where
  pub cold : (p : Profile) (g : Registers) → suspends_of p g Cold ≡ true
  pub hot : (p : Profile) (g : Registers) → suspends_of p g Hot ≡ true
  pub mixed : (p : Profile) (g : Registers) → suspends_of p g Mixed ≡ true

-- so it doesn't matter of a sample either: with the two values in each other's place, and what is held of them, so are the bands, and the pack's is the same
abbrev pub exchanged : Sample → Sample
exchanged x = record { stamp = x.stamp; input = x.input; pack = x.pack; ibat = x.ibat; ts = x.secondts; secondts = x.ts; bits = x.bits }

abbrev pub exchanged_bands : Bands → Bands
exchanged_bands b = record { first = b.second; second = b.first }

pub record EitherEnd : Type 0 where
  pub judged : (p : Profile) (g : Registers) (x : Sample) (held : Bands) → bands_of p g (exchanged x) (exchanged_bands held) ≡ exchanged_bands (bands_of p g x held)
  pub joined : (b : Bands) → pack_band (exchanged_bands b) ≡ pack_band b

-- "kind 5 stands for two equal ones": from two equal bands the pack's is then that of the one value
abbrev pub EqualActAsOne : Type 0
EqualActAsOne =
    (p : Profile) (g : Registers) (x : Sample) (held : TsBand) → x.secondts ≡ x.ts
    → pack_band (bands_of p g x (record { first = held; second = held })) ≡ alone (next_of p g held x.ts)
