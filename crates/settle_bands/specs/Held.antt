-- What is promised of a band that is held: the sentences of 02, R-8, part by part, and that the parts leave no choice.
use Rattle.std.specs.Prelude.{ℕ, ◌+◌, ◌≤◌, ◌≡◌, true, false, ◌⊎◌, ◌≢◌}
use Rattle.state_parts.specs.declared.band.Bands.{Bands}
use Rattle.state_parts.specs.declared.band.TsBand.{TsBand}
use Rattle.state_parts.specs.declared.band.TsBand.TheVariants.{Normal, Cold, Cool, Warm, Hot}
use Rattle.state_parts.specs.declared.profile.Profile.{Profile}
use Rattle.state_parts.specs.declared.registers.Registers.{Registers}
use Rattle.state_parts.specs.declared.sample.Sample.{Sample}
use Rattle.settle_bands.specs.Thresholds.{th1_of, th2_of, th3_of, th5_of, ts_off, jeita_on, band_of}
use Rattle.settle_bands.specs.Holding.{next_of, bands_of, fresh_bands, held_bands}

-- "TS is 1,000 units or more back past the threshold that let it in"
abbrev pub Back : Profile → Registers → TsBand → ℕ → Type 0
Back p g Normal ts = Unit {0}
Back p g Cold ts = ts + 1000 ≤ th1_of p g
Back p g Hot ts = th5_of p g + 1000 ≤ ts
Back p g Cool ts = ts + 1000 ≤ th2_of p g
Back p g Warm ts = th3_of p g + 1000 ≤ ts

-- "EN_TS 0 ends any holding at once, EN_JEITA 0 that of cool and warm."
abbrev pub Ended : Registers → TsBand → Type 0
Ended g Normal = Unit {0}
Ended g Cold = ts_off g ≡ true
Ended g Hot = ts_off g ≡ true
Ended g Cool = (ts_off g ≡ true) ⊎ (jeita_on g ≡ false)
Ended g Warm = (ts_off g ≡ true) ⊎ (jeita_on g ≡ false)

abbrev pub Next : Type 0
Next = Profile → Registers → TsBand → ℕ → TsBand

pub record Holds (next : Next) : Type 0 where
  -- "Kinds 1 and 9 mean the first", which judges afresh
  pub first : (p : Profile) (g : Registers) (held : TsBand) (ts : ℕ) → p.edition ≢ 2 → next p g held ts ≡ band_of p g ts
  -- "Cold and hot are entered at once."
  pub once : (p : Profile) (g : Registers) (held : TsBand) (ts : ℕ) → (band_of p g ts ≡ Cold) ⊎ (band_of p g ts ≡ Hot) → next p g held ts ≡ band_of p g ts
  -- "a band other than normal, once entered, held until .."
  pub stays : (p : Profile) (g : Registers) (held : TsBand) (ts : ℕ) → p.edition ≡ 2 → band_of p g ts ≢ Cold → band_of p g ts ≢ Hot → ¬ Ended g held → ¬ Back p g held ts
      → next p g held ts ≡ held
  -- "A band that is left is judged afresh by the first edition's order."
  pub left : (p : Profile) (g : Registers) (held : TsBand) (ts : ℕ) → Back p g held ts → next p g held ts ≡ band_of p g ts
  pub ended : (p : Profile) (g : Registers) (held : TsBand) (ts : ℕ) → Ended g held → next p g held ts ≡ band_of p g ts

-- one thermistor's next band meets them, and nothing else does
pub record HoldsAsSaid : Type 0 where
  pub ours : Holds next_of
  pub only : (next : Next) → Holds next → (p : Profile) (g : Registers) (held : TsBand) (ts : ℕ) → next p g held ts ≡ next_of p g held ts

-- the bands of a pack are those of the edition that its power-on says
pub record ByEdition : Type 0 where
  pub first : (p : Profile) (g : Registers) (x : Sample) (held : Bands) → p.edition ≢ 2 → bands_of p g x held ≡ fresh_bands p g x held
  pub second : (p : Profile) (g : Registers) (x : Sample) (held : Bands) → p.edition ≡ 2 → bands_of p g x held ≡ held_bands p g x held

-- judged again, with neither a new event nor time, bands stay what they are, whichever edition judges
abbrev pub Rests : (Profile → Registers → Sample → Bands → Bands) → Type 0
Rests band = (p : Profile) (g : Registers) (x : Sample) (held : Bands) → band p g x (band p g x held) ≡ band p g x held

pub record HeldOnce : Type 0 where
  pub ours : Rests bands_of
  pub first : Rests fresh_bands
  pub second : Rests held_bands
