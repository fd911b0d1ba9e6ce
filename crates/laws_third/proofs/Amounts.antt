-- What settings, clamp and share are at least and at most after a run of accepted events: so the current of a phase that charges is above zero.
use Prim.Native.Nat.{ℕ, zero, suc, ◌*◌, ◌/◌, ◌≤◌, ◌<◌, min}
use native.Mathlib.Omega.{arith}
use native.Mathlib.Nat.{mul-le-mul}
use mathlib.Core.Path.{◌≡◌, refl}
use mathlib.Core.Bool.{Bool, true, false}
use lib.Dec.{leb}
use borrow.Author.Tests.{ne_eqb, leb-true}
use Rattle.base.specs.Pick.{pick}
use Rattle.base.proofs.Span.{tested}
use Rattle.state_parts.specs.Pins.{ichg_of}
use Rattle.state_parts.specs.declared.band.Band.{Band}
use Rattle.state_parts.specs.declared.band.Band.TheVariants.{Normal, Cold, Cool, Warm, Hot, Mixed}
use Rattle.state_parts.specs.declared.profile.Profile.{Profile}
use Rattle.state_parts.specs.declared.settings.Settings.{Settings}
use Rattle.settle_bands.specs.Effect.{cool_share, warm_share}
use Rattle.state_start.specs.Values.{start_ichg, start_settings}
use Rattle.state_settings.specs.Kept.{settings_ok}
use Rattle.state_settings.specs.Numbered.{setting_numbers, held_of}
use Rattle.state_settings.specs.Ranges.{last_setting, ranges, range_of}
use Rattle.state_settings.proofs.Steps.{at_least}
use Rattle.state_settings.proofs.Stores.{each-may}
use Rattle.state_valid.specs.Holds.{profile_ok}
use Rattle.state_valid.proofs.Begins.{start-settings-pass}
use Rattle.state_valid.proofs.Bounds.{profile-bounds}
use Rattle.laws_account.specs.History.{Run}
use Rattle.laws_account.specs.Held.{profile_of, ichg, overridden, field_at}
use Rattle.laws_account.proofs.Fields.{small}
use Rattle.state_table.specs.Rows.{jeita_isetc, jeita_iseth}
use Rattle.laws_account.specs.Valued.{setting_of}
use Rattle.laws_account.specs.Judged.{charge_clamp, share_in}
use Rattle.laws_account.specs.Refused.{Accepted}
use Rattle.laws_account.specs.States.{settings_at, state_by}
use Rattle.laws_third.specs.Banded.{SuspendingIn}
use Rattle.laws_third.proofs.Packs.{holding, profile-holds}

settings-hold : (r : Run) → Accepted r → settings_ok (profile_of r) (settings_at r) ≡ true
unfolding state_by
settings-hold r h = (holding r h).settings

-- each setting is at least its range's low end
setting-least : (p : Profile) (s : Settings) → settings_ok p s ≡ true → (n : ℕ) → 1 ≤ n → n ≤ last_setting → (range_of p n).low ≤ held_of s n
unfolding settings_ok
setting-least p s h n l u = at_least p n (held_of s n) (each-may p s last_setting n h l u)

pub ichg-least : (r : Run) → Accepted r → 40 ≤ setting_of 2 r
unfolding range_of ranges held_of setting_numbers settings_at
ichg-least r h = setting-least (profile_of r) (settings_at r) (settings-hold r h) 2 (omega arith) (omega arith)

pub iprechg-least : (r : Run) → Accepted r → 20 ≤ setting_of 3 r
unfolding range_of ranges held_of setting_numbers settings_at
iprechg-least r h = setting-least (profile_of r) (settings_at r) (settings-hold r h) 3 (omega arith) (omega arith)

-- every pin code but 0 is a current, and ICHG starts at it
pin-least : (p : Profile) → profile_ok p ≡ true → (p.ichg ≡ 0 → ⊥) → 40 ≤ ichg_of p
unfolding range_of ranges held_of setting_numbers start_settings start_ichg
pin-least p h n =
    let b = profile-bounds p h in
    let start = start-settings-pass p 0 b.vchg b.ichg (omega arith) in
    rw (ne_eqb p.ichg 0 n) at (setting-least p (start_settings p 0) start 2 (omega arith) (omega arith))

pub clamp-least : (r : Run) → Accepted r → (((profile_of r).ichg ≡ 0) × (overridden ichg r ≡ false) → ⊥) → 40 ≤ charge_clamp r
unfolding charge_clamp
clamp-least r h n = go (overridden ichg r) refl
  where
    go : (t : Bool) → overridden ichg r ≡ t → 40 ≤ pick t 3300 (ichg_of (profile_of r))
    go true e = omega arith
    go false e = pin-least (profile_of r) (profile-holds r h) (λ z. n (z, e))

some : (n : ℕ) → (n ≡ 0 → ⊥) → 1 ≤ n
some zero h = absurd (h refl)
some (suc n) h = omega arith

-- the band's share
pub share-least : (b : Band) (r : Run) → (SuspendingIn b r → ⊥) → 20 ≤ share_in b r
share-least Normal r h = omega arith
share-least Cold r h = omega arith
share-least Cool r h = leb-true 20 _ (tested (λ (k : ℕ). leb 20 (cool_share (profile_of r) k)) 1 3 (field_at jeita_isetc r) refl (some (field_at jeita_isetc r) h) (omega (arith, small jeita_isetc (omega arith) r)))
share-least Warm r h = leb-true 20 _ (tested (λ (k : ℕ). leb 20 (warm_share (profile_of r) k)) 0 2 (field_at jeita_iseth r) refl (omega arith) (omega (arith, small jeita_iseth (omega arith) r)))
share-least Hot r h = omega arith
share-least Mixed r h = omega arith

pub share-most : (b : Band) (r : Run) → share_in b r ≤ 100
share-most Normal r = omega arith
share-most Cold r = omega arith
share-most Cool r = leb-true _ 100 (tested (λ (k : ℕ). leb (cool_share (profile_of r) k) 100) 0 4 (field_at jeita_isetc r) refl (omega arith) (omega (arith, small jeita_isetc (omega arith) r)))
share-most Warm r = leb-true _ 100 (tested (λ (k : ℕ). leb (warm_share (profile_of r) k) 100) 0 2 (field_at jeita_iseth r) refl (omega arith) (omega (arith, small jeita_iseth (omega arith) r)))
share-most Hot r = omega arith
share-most Mixed r = omega arith

-- a share of the lower of two
pub some_share : (a b share : ℕ) → 40 ≤ a → 40 ≤ b → 20 ≤ share → 0 < min a b * share / 100
some_share a b share h k l =
    let m : 40 ≤ min a b = omega arith in
    let p : 40 * 20 ≤ min a b * share = mul-le-mul m l in
    omega arith

pub share-below : (a b share : ℕ) → share ≤ 100 → (min a b * share / 100 ≤ a) × (min a b * share / 100 ≤ b)
share-below a b share h =
    let m : min a b ≤ min a b = omega arith in
    let p : min a b * share ≤ min a b * 100 = mul-le-mul m h in
    (omega arith, omega arith)

pub share-of-each : (a b share : ℕ) → (min a b * share / 100 * 100 ≤ a * share) × (min a b * share / 100 * 100 ≤ b * share)
share-of-each a b share =
    let s : share ≤ share = omega arith in
    let m : min a b ≤ a = omega arith in
    let n : min a b ≤ b = omega arith in
    let p : min a b * share ≤ a * share = mul-le-mul m s in
    let q : min a b * share ≤ b * share = mul-le-mul n s in
    (omega arith, omega arith)
