-- A register's settings that are written: where no field's value is one that its setting can't hold, the settings hold what they may.
use Prim.Native.Nat.{ℕ, ◌+◌, ◌-◌, ◌*◌, ◌^◌, ◌<◌}
use mathlib.Core.Path.{◌≡◌, refl, sym, ap, ◌∙◌}
use mathlib.Core.Bool.{Bool, true, false, ◌||◌, false≢true}
use mathlib.Core.List.{List, [], ◌∷◌}
use native.Mathlib.Nat.{mod-one}
use native.Mathlib.Omega.{arith}
use lib.Dec.{leb, eqb}
use borrow.Author.Tests.{leb-true, le-leb, not-false}
use Rattle.base.specs.Pick.{pick}
use Rattle.base.proofs.Tests.{and-iff}
use Rattle.state_parts.specs.declared.profile.Profile.{Profile}
use Rattle.state_parts.specs.declared.settings.Settings.{Settings}
use Rattle.state_settings.specs.Kept.{settings_ok}
use Rattle.state_settings.specs.Numbered.{held_of, setting_numbers}
use Rattle.state_settings.specs.Ranges.{last_setting, ranges, range_of, may_hold}
use Rattle.state_settings.proofs.Steps.{at_most}
use Rattle.state_settings.proofs.Stores.{store-passes, each-may}
use Rattle.state_table.specs.Rows.{Field, fields, fields_of, over, digit_of}
use Rattle.state_table.specs.declared.Access.{Access}
use Rattle.state_table.specs.declared.Access.TheVariants.{Reserved, Fixed, Status, Flag, Stored, Setting, Mask, Counted, Pin, Acts}
use Rattle.state_table.proofs.Tested.{every}
use Rattle.state_fields.proofs.Puts.{put_small}
use Rattle.state_runs.specs.Registers.{masked, setting_by, settings_taken, bad_by, bad_register}

-- masks are bits 0 to 11 of setting 14
abbrev pub low_mask : Access → Bool
low_mask Reserved = true
low_mask (Fixed value) = true
low_mask (Status number) = true
low_mask (Flag first count) = true
low_mask Stored = true
low_mask (Setting number step) = true
low_mask (Mask first count) = leb (first + count) 12
low_mask Counted = true
low_mask (Pin number) = true
low_mask (Acts number) = true

pub low-masks : every (λ (f : Field). low_mask f.access) fields ≡ true
unfolding fields
low-masks = refl

-- setting 14 may hold any number of 12 bits, and holds no other
pub masks-may : (p : Profile) (v : ℕ) → v < 2 ^ 12 → may_hold p 14 v ≡ true
unfolding may_hold range_of ranges
masks-may p v h = simp (le-leb 0 v (omega arith), le-leb v 4095 (omega arith), mod-one v)

pub masks-low : (p : Profile) (t : Settings) → settings_ok p t ≡ true → t.masks < 2 ^ 12
unfolding settings_ok held_of setting_numbers range_of ranges
masks-low p t ok = let h = at_most p 14 (held_of t 14) (each-may p t last_setting 14 ok (omega arith) (omega arith)) in omega arith

module _ (p : Profile) where
  -- one field
  pub one-keeps : (a : Access) (code : ℕ) (t : Settings) → low_mask a ≡ true → bad_by p a code ≡ false → settings_ok p t ≡ true → settings_ok p (setting_by a code t) ≡ true
  one-keeps Reserved code t low none ok = ok
  one-keeps (Fixed value) code t low none ok = ok
  one-keeps (Status number) code t low none ok = ok
  one-keeps (Flag first count) code t low none ok = ok
  one-keeps Stored code t low none ok = ok
  one-keeps (Setting number step) code t low none ok = store-passes p t number (code * step) (not-false (may_hold p number (code * step)) none) ok
  one-keeps (Mask first count) code t low none ok =
      store-passes p t 14 (masked first count code t.masks)
      (masks-may p _ (put_small first count (pick (eqb code 0) 0 (2 ^ count - 1)) t.masks 12 (leb-true _ 12 low) (masks-low p t ok))) ok
  one-keeps Counted code t low none ok = ok
  one-keeps (Pin number) code t low none ok = ok
  one-keeps (Acts number) code t low none ok = ok

  module _ (a value : ℕ) where
    abbrev on : Field → Bool
    on f = eqb f.address a

    abbrev sets : Settings → Field → Settings
    sets u f = setting_by f.access (digit_of f value) u

    abbrev worse : Bool → Field → Bool
    worse bad f = bad || bad_by p f.access (digit_of f value)

    -- what is bad stays bad
    still-bad : (fs : List Field) → over on worse fs true ≡ true
    still-bad [] = refl
    still-bad (f ∷ fs) = ap (over on worse fs) (same (on f)) ∙ still-bad fs
      where
        same : (t : Bool) → pick t true true ≡ true
        same true = refl
        same false = refl

    all_keep : (fs : List Field) → every (λ (f : Field). low_mask f.access) fs ≡ true → over on worse fs false ≡ false
        → (t : Settings) → settings_ok p t ≡ true → settings_ok p (over on sets fs t) ≡ true
    all_keep [] low none t ok = ok
    all_keep (f ∷ fs) low none t ok =
        let both = (and-iff (low_mask f.access) (every (λ (g : Field). low_mask g.access) fs)).0 low in
        go (on f) (bad_by p f.access (digit_of f value)) refl none (λ e u k. all_keep fs both.1 e u k) both.0
      where
        go : (here bad : Bool) → bad_by p f.access (digit_of f value) ≡ bad → over on worse fs (pick here bad false) ≡ false
            → (over on worse fs false ≡ false → (u : Settings) → settings_ok p u ≡ true → settings_ok p (over on sets fs u) ≡ true) → low_mask f.access ≡ true
            → settings_ok p (over on sets fs (pick here (sets t f) t)) ≡ true
        go true true eb e rest l = absurd (false≢true (sym e ∙ still-bad fs))
        go true false eb e rest l = rest e (sets t f) (one-keeps f.access (digit_of f value) t l eb ok)
        go false bad eb e rest l = rest e t ok

    pub settings-keep : bad_register p a value ≡ false → (t : Settings) → settings_ok p t ≡ true → settings_ok p (settings_taken p a value t) ≡ true
    unfolding bad_register settings_taken fields_of
    settings-keep none t ok = all_keep fields low-masks none t ok
