-- What is told of a loaded image settles it, and each call's promise allows one outcome.
use Prim.Native.Nat.{ℕ}
use mathlib.Core.Path.{◌≡◌, refl}
use native.Mathlib.Omega.{arith}
use Rattle.std.specs.Prelude.{Some, None}
use Rattle.base.specs.Outcomes.{Settled}
use Rattle.base.proofs.Outcomes.{contract-settles, contract-settles-bytes, itself-settles}
use Rattle.c_image.specs.PublicPromises.{OneOutcome}
use Rattle.c_image.specs.Images.{loaded_told}

loaded-one : Settled loaded_told
loaded-one (Some m) (Some n) e = cc
loaded-one (Some m) None e = absurd (let z : ◌≡◌ {A = ℕ} 0 1 = cc in omega arith)
loaded-one None (Some n) e = absurd (let z : ◌≡◌ {A = ℕ} 0 1 = cc in omega arith)
loaded-one None None e = refl

pub one-outcome : OneOutcome
one-outcome = record { load = λ image. contract-settles _ _ _ loaded-one _; save = λ image m. contract-settles-bytes _ _ _ itself-settles _ _ }
