-- Laws of a register that is written: over gathered fields, and field by field.
use Prim.Native.Nat.{ℕ, ◌<◌}
use mathlib.Core.Path.{◌≡◌, sym, ap, subst, ◌∙◌}
use mathlib.Core.Bool.{Bool, true, ◌&&◌, ◌||◌}
use native.Mathlib.Nat.{mod-lt, mod-eq_of_lt}
use lib.Dec.{eqb}
use lib.Pow.{pow_pos}
use Rattle.base.specs.Pick.{pick}
use Rattle.base.proofs.Tests.{and-iff}
use Rattle.state_parts.specs.declared.profile.Profile.{Profile}
use Rattle.state_parts.specs.declared.words.Words.{Words}
use Rattle.state_table.specs.Rows.{Field, fields, fields_of, bit_of, digit_of, vchg_override, cell_override, ichg_override}
use Rattle.state_fields.specs.Held.{field_in, gathered, taken_by, restored_by, words_ok, without_overrides}
use Rattle.state_fields.proofs.Fields.{Whole}
use Rattle.state_fields.proofs.Gathers.{nth, stored, gathered-whole, field_put, over-gathered}
use Rattle.state_fields.proofs.Sound.{own-fields, gathered-sound}

module _ (p : Profile) (a value : ℕ) where
  pub taken-gathered : (code : Field → ℕ) → taken_by p a value (gathered p code) ≡ gathered p (λ (f : Field). pick (stored f && eqb f.address a) (digit_of f value) (code f))
  unfolding taken_by fields_of
  taken-gathered code =
      over-gathered p (λ (f : Field). stored f && eqb f.address a) (λ (f : Field). digit_of f value) code (λ f e. ((and-iff (stored f) (eqb f.address a)).0 e).0)

  -- each stored field of the register has its code, and every other field stands
  pub taken-field : (w : Words) → Whole w → (i : ℕ) → i < 147
      → field_in (nth i) (taken_by p a value w) ≡ pick (stored (nth i) && eqb (nth i).address a) (digit_of (nth i) value) (field_in (nth i) w)
  unfolding taken_by fields_of
  taken-field w whole i h =
      field_put (λ (f : Field). stored f && eqb f.address a) (λ (f : Field). digit_of f value) w whole i h
      ∙ ap (λ (x : ℕ). pick (stored (nth i) && eqb (nth i).address a) x (field_in (nth i) w)) (mod-eq_of_lt (mod-lt _ (pow_pos (nth i).width)))

module _ (p : Profile) where
  pub sound-whole : (w : Words) → words_ok p w ≡ true → Whole w
  sound-whole w ok = subst Whole (sym (own-fields p w ok)) (gathered-whole p (λ (f : Field). field_in f w))

  pub taken-sound : (a value : ℕ) (w : Words) → words_ok p w ≡ true → words_ok p (taken_by p a value w) ≡ true
  taken-sound a value w ok =
      subst (λ (v : Words). words_ok p v ≡ true) (sym (ap (taken_by p a value) (own-fields p w ok) ∙ taken-gathered p a value (λ (f : Field). field_in f w)))
      (gathered-sound p (λ (f : Field). pick (stored f && eqb f.address a) (digit_of f value) (field_in f w)))

  pub restored-sound : (w : Words) → words_ok p (restored_by p w) ≡ true
  unfolding restored_by
  restored-sound w = gathered-sound p (λ (f : Field). pick f.restored f.reset (field_in f w))

  -- the three overrides, put at 0
  abbrev lifts : Field → Bool
  lifts f = stored f && (eqb (bit_of f) (bit_of cell_override) || eqb (bit_of f) (bit_of vchg_override) || eqb (bit_of f) (bit_of ichg_override))

  pub cleared-gathered : (code : Field → ℕ) → without_overrides (gathered p code) ≡ gathered p (λ (f : Field). pick (lifts f) 0 (code f))
  unfolding without_overrides fields
  cleared-gathered code = over-gathered p lifts (λ (f : Field). 0) code (λ f e. ((and-iff (stored f) (eqb (bit_of f) (bit_of cell_override) || eqb (bit_of f) (bit_of vchg_override) || eqb (bit_of f) (bit_of ichg_override))).0 e).0)

  pub cleared-sound : (w : Words) → words_ok p w ≡ true → words_ok p (without_overrides w) ≡ true
  cleared-sound w ok =
      subst (λ (v : Words). words_ok p v ≡ true) (sym (ap without_overrides (own-fields p w ok) ∙ cleared-gathered (λ (f : Field). field_in f w)))
      (gathered-sound p (λ (f : Field). pick (lifts f) 0 (field_in f w)))
