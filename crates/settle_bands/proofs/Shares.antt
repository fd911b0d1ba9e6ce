-- No band's share of the current is above 100.
use Prim.Native.Nat.{ℕ, ◌≤◌}
use mathlib.Core.List.{[], ◌∷◌}
use native.Mathlib.Omega.{arith}
use lib.Dec.{leb, leb→le}
use Rattle.base.proofs.Table.{at}
use Rattle.state_fields.specs.Held.{field_of}
use Rattle.state_table.specs.Rows.{jeita_isetc, jeita_iseth}
use Rattle.state_parts.specs.declared.band.Band.{Band}
use Rattle.state_parts.specs.declared.band.Band.TheVariants.{Normal, Cold, Cool, Warm, Hot, Mixed}
use Rattle.state_parts.specs.declared.profile.Profile.{Profile}
use Rattle.state_parts.specs.declared.registers.Registers.{Registers}
use Rattle.settle_bands.specs.Effect.{share_of}

pub share-most : (p : Profile) (g : Registers) (b : Band) → share_of p g b ≤ 100
unfolding share_of
share-most p g Normal = omega arith
share-most p g Cold = omega arith
share-most p g Cool = leb→le _ 100 (at (λ (k x : ℕ). leb x 100) (0 ∷ 20 ∷ 40 ∷ 100 ∷ []) tt (field_of jeita_isetc g) (omega arith))
share-most p g Warm = leb→le _ 100 (at (λ (k x : ℕ). leb x 100) (40 ∷ 100 ∷ []) tt (field_of jeita_iseth g) (omega arith))
share-most p g Hot = omega arith
share-most p g Mixed = omega arith
