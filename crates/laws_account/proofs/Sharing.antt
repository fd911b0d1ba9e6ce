-- A band's share and cut by the account's registers are the account's.
use mathlib.Core.Path.{◌≡◌, refl, ap}
use Rattle.state_parts.specs.declared.band.Band.{Band}
use Rattle.state_parts.specs.declared.band.Band.TheVariants.{Normal, Cold, Cool, Warm, Hot, Mixed}
use Rattle.settle_bands.specs.Effect.{cool_share, warm_share, warm_cut, share_of, cut_of}
use Rattle.laws_account.specs.History.{Run}
use Rattle.laws_account.specs.Held.{profile_of}
use Rattle.laws_account.specs.Judged.{share_in, cut_in}
use Rattle.laws_account.specs.States.{registers_at}
use Rattle.laws_account.proofs.Fields.{isetc, iseth, vset}

pub share-is : (b : Band) (r : Run) → share_of (profile_of r) (registers_at r) b ≡ share_in b r
unfolding share_of
share-is Normal r = refl
share-is Cold r = refl
share-is Cool r = ap (cool_share (profile_of r)) (isetc r)
share-is Warm r = ap (warm_share (profile_of r)) (iseth r)
share-is Hot r = refl
share-is Mixed r = refl

pub cut-is : (b : Band) (r : Run) → cut_of (profile_of r) (registers_at r) b ≡ cut_in b r
unfolding cut_of
cut-is Normal r = refl
cut-is Cold r = refl
cut-is Cool r = refl
cut-is Warm r = ap (warm_cut (profile_of r)) (vset r)
cut-is Hot r = refl
cut-is Mixed r = refl
