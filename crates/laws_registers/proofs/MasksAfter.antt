-- What one register leaves in the bits of one mask: all ones or zeros by its own field, if that is the register's, and else what was held.
use Prim.Native.Nat.{ℕ, ◌+◌, ◌-◌, ◌*◌, ◌%◌, ◌^◌, ◌<◌}
use mathlib.Core.Path.{◌≡◌, refl, ap, subst, ◌∙◌}
use mathlib.Core.Bool.{Bool, true, false, not, ◌||◌}
use native.Mathlib.Nat.{mod-eq_of_lt}
use native.Mathlib.Omega.{arith}
use lib.Dec.{eqb, leb}
use lib.ListN.{length}
use lib.Pow.{pow_pos}
use borrow.Author.Tests.{ne_eqb, leb-true, not-true}
use Rattle.base.specs.Pick.{pick}
use Rattle.state_fields.specs.Words.{bits_at}
use Rattle.state_fields.proofs.Gathers.{nth}
use Rattle.state_fields.proofs.Puts.{put-there, put-below, put-above}
use Rattle.state_parts.specs.declared.profile.Profile.{Profile}
use Rattle.state_parts.specs.declared.settings.Settings.{Settings}
use Rattle.state_runs.specs.Registers.{masked, setting_by, settings_taken}
use Rattle.state_settings.specs.Numbered.{store_of}
use Rattle.state_table.specs.Rows.{Field, fields, fields_of, bit_of, digit_of}
use Rattle.state_table.specs.declared.Access.{Access}
use Rattle.state_table.specs.declared.Access.TheVariants.{Reserved, Fixed, Status, Flag, Stored, Setting, Mask, Counted, Pin, Acts}
use Rattle.state_table.proofs.Tested.{every, at, long}
use Rattle.laws_registers.proofs.Gets.{over-gets}
use Rattle.laws_registers.proofs.Mates.{or-second}
use Rattle.laws_registers.proofs.Places.{in_table, bits-apart}

-- a field that has no part in these bits of setting 14
abbrev clear : ℕ → ℕ → Access → Bool
clear from count Reserved = true
clear from count (Fixed value) = true
clear from count (Status number) = true
clear from count (Flag first many) = true
clear from count Stored = true
clear from count (Setting m step) = not (eqb m 14)
clear from count (Mask first many) = leb (first + many) from || leb (from + count) first
clear from count Counted = true
clear from count (Pin number) = true
clear from count (Acts number) = true

abbrev only : Field → Access → Bool
only f Reserved = true
only f (Fixed value) = true
only f (Status number) = true
only f (Flag first count) = true
only f Stored = true
only f (Setting n step) = true
only f (Mask from count) = every (λ (g : Field). eqb (bit_of g) (bit_of f) || clear from count g.access) fields
only f Counted = true
only f (Pin number) = true
only f (Acts number) = true

all-only : every (λ (f : Field). only f f.access) fields ≡ true
unfolding fields
all-only = refl

differs : (i from count j : ℕ) → i < 147 → (nth i).access ≡ Mask from count → j < 147 → (j ≡ i → ⊥) → clear from count (nth j).access ≡ true
differs i from count j h e l other =
    let near : Field → Bool = λ g. eqb (bit_of g) (bit_of (nth i)) || clear from count g.access in
    let test : only (nth i) (Mask from count) ≡ true = subst (λ (x : Access). only (nth i) x ≡ true) e (at (λ (g : Field). only g g.access) fields i all-only (in_table i h)) in
    or-second (eqb (bit_of (nth j)) (bit_of (nth i))) (clear from count (nth j).access) (ne_eqb (bit_of (nth j)) (bit_of (nth i)) (bits-apart i j h l other)) (at near fields j test (in_table j l))

-- all ones or all zeros fit
ones-fit : (count : ℕ) (t : Bool) → pick t 0 (2 ^ count - 1) % 2 ^ count ≡ pick t 0 (2 ^ count - 1)
ones-fit count t = mod-eq_of_lt (low t)
  where
    low : (b : Bool) → pick b 0 (2 ^ count - 1) < 2 ^ count
    low true = pow_pos count
    low false = let h = pow_pos count in omega arith

module _ (p : Profile) (a value i from count : ℕ) (h : i < 147) (e : (nth i).access ≡ Mask from count) where
  abbrev got : Settings → ℕ
  got u = bits_at from count u.masks

  abbrev on : Field → Bool
  on f = eqb f.address a

  abbrev new : ℕ
  new = pick (eqb (digit_of (nth i) value) 0) 0 (2 ^ count - 1)

  -- another field leaves them
  stands : (x : Access) (code : ℕ) (u : Settings) → clear from count x ≡ true → got (setting_by x code u) ≡ got u
  unfolding store_of
  stands Reserved code u k = refl
  stands (Fixed v) code u k = refl
  stands (Status v) code u k = refl
  stands (Flag v w) code u k = refl
  stands Stored code u k = refl
  stands (Setting m v) code u k = ap (λ (b : Bool). bits_at from count (pick b (code * v) u.masks)) (not-true (eqb m 14) k)
  stands (Mask v w) code u k = go (leb (v + w) from) refl k
    where
      go : (b : Bool) → leb (v + w) from ≡ b → (b || leb (from + count) v) ≡ true → bits_at from count (masked v w code u.masks) ≡ bits_at from count u.masks
      go true q z = put-above v w (pick (eqb code 0) 0 (2 ^ w - 1)) u.masks from count (leb-true (v + w) from q)
      go false q z = put-below v w (pick (eqb code 0) 0 (2 ^ w - 1)) u.masks from count (leb-true (from + count) v z)
  stands Counted code u k = refl
  stands (Pin v) code u k = refl
  stands (Acts v) code u k = refl

  own : (u : Settings) → got (setting_by (nth i).access (digit_of (nth i) value) u) ≡ new
  unfolding store_of
  own u =
      ap (λ (x : Access). got (setting_by x (digit_of (nth i) value) u)) e ∙ put-there from count new u.masks ∙ ones-fit count (eqb (digit_of (nth i) value) 0)

  pub masks-taken : (t : Settings) → got (settings_taken p a value t) ≡ pick (eqb (nth i).address a) new (got t)
  unfolding settings_taken fields_of
  masks-taken t = over-gets got on (λ (u : Settings) (f : Field). setting_by f.access (digit_of f value) u) fields i (on (nth i)) new (in_table i h) (λ u. mine u (on (nth i))) others t
    where
      mine : (u : Settings) (b : Bool) → got (pick b (setting_by (nth i).access (digit_of (nth i) value) u) u) ≡ pick b new (got u)
      mine u true = own u
      mine u false = refl

      others : (j : ℕ) → j < length fields → (j ≡ i → ⊥) → (u : Settings) → got (pick (on (nth j)) (setting_by (nth j).access (digit_of (nth j) value) u) u) ≡ got u
      others j l other u = go (on (nth j))
        where
          go : (b : Bool) → got (pick b (setting_by (nth j).access (digit_of (nth j) value) u) u) ≡ got u
          go true = stands (nth j).access (digit_of (nth j) value) u (differs i from count j h e (subst (λ (x : ℕ). j < x) long l) other)
          go false = refl
