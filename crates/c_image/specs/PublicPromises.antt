-- What loading and saving an image promise, and that each promise allows one outcome.
use Rattle.std.specs.Prelude.{ℕ, ◌≡◌, Bool, List, Option}
use Rattle.base.specs.Outcomes.{One, OfTwo}
use Rattle.state_parts.specs.declared.state.Model.{Model}
use Rattle.c_image.specs.Images.{loaded_told, model_in, is_long, saved_in}

abbrev pub LoadPromise : List ℕ → Option Model → Type 0
LoadPromise image r = loaded_told r ≡ model_in image

abbrev pub SavePromise : List ℕ → Model → Bool → List ℕ → Type 0
SavePromise image m r after = (r ≡ is_long image) × (after ≡ saved_in image m)

-- "equal inputs allow one outcome"
pub record OneOutcome : Type 0 where
  pub load : (image : List ℕ) → One (LoadPromise image)
  pub save : (image : List ℕ) (m : Model) → One (OfTwo (SavePromise image m))
