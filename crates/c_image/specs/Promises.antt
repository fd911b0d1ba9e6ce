-- What is promised of images: the types of the theorems that proofs/ proves.
use Rattle.std.specs.Prelude.{ℕ, ◌≤◌, ◌<◌, ◌≡◌, List, ◌≢◌, length}
use Rattle.base.specs.Told.{accepted, refused}
use Rattle.state_parts.specs.declared.state.Model.{Model}
use Rattle.state_parts.specs.declared.state.Model.TheVariants.{Off, On}
use Rattle.c_words.specs.Words.{word_at}
use Rattle.c_words.specs.Promises.{AllWords}
use Rattle.state_parts.specs.Edges.{all_flags}
use Rattle.c_list.specs.Numbers.{state_numbers}
use Rattle.c_image.specs.Images.{zeros, image_format, image_of, model_in}

-- every number of the model has 32 bits, and the flags twelve
abbrev pub Storable : Model → Type 0
Storable Off = Unit {0}
Storable (On s) = AllWords (state_numbers s) × (s.flags ≤ all_flags)

-- load after save is the model
abbrev pub LoadsBack : Type 0
LoadsBack = (m : Model) → Storable m → model_in (image_of m) ≡ accepted m

-- one image each: whatever loads as a model is that model's image, byte for byte
abbrev pub OneImage : Type 0
OneImage = (bytes : List ℕ) (m : Model) → model_in bytes ≡ accepted m → bytes ≡ image_of m

-- every image has the header's length
abbrev pub ImageLong : Type 0
ImageLong = (m : Model) → length (image_of m) ≡ 232

-- two models never have one image
abbrev pub ImagesDiffer : Type 0
ImagesDiffer = (m n : Model) → Storable m → Storable n → image_of m ≡ image_of n → m ≡ n

-- "It is never 0": the first word tells a model that is on from one that is off
abbrev pub FormatNotZero : Type 0
FormatNotZero = image_format ≢ 0

-- "zeroed bytes are the image of a model that is off", in every format
abbrev pub OffIsZeros : Type 0
OffIsZeros = image_of Off ≡ zeros 232

-- "an image of another format is 5"
abbrev pub OtherFormat : Type 0
OtherFormat = (bytes : List ℕ) → word_at bytes 0 ≢ 0 → word_at bytes 0 ≢ image_format → model_in bytes ≡ refused 5

-- "an older one too": format 1 was the base's, whose recharge point was another, so that a log had led to other states (02, R-1); format 2 told a refusal's place otherwise (R-4); format 3 had no kind 9 (R-5); format 4 held eight registers, format 5 had no kinds 8 and 14 (R-3), and format 6 held one thermistor (R-7)
abbrev pub OlderFormat : Type 0
OlderFormat = (bytes : List ℕ) → word_at bytes 0 ≢ 0 → word_at bytes 0 < 8 → model_in bytes ≡ refused 5
