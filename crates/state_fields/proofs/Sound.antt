-- Words that hold what they may: they are what their own stored fields come to; and what is gathered or put of stored fields is sound again.
use Prim.Native.Nat.{ℕ, zero, suc, ◌+◌, ◌*◌, ◌/◌, ◌%◌, ◌^◌, ◌≤◌, ◌<◌}
use mathlib.Core.Path.{◌≡◌, refl, sym, ap, subst, ◌∙◌}
use mathlib.Core.Bool.{Bool, true, false, ◌&&◌, ◌||◌}
use mathlib.Core.List.{List, [], ◌∷◌}
use native.Mathlib.Nat.{mod-lt, mod-eq_of_lt, not-suc-le-zero, mul-le-mul, le_refl}
use native.Mathlib.Omega.{arith}
use borrow.Author.Tests.{eqb-true, eq-eqb}
use lib.Dec.{eqb}
use lib.ListN.{length, get_or}
use lib.Pow.{pow_pos, pow-add, shr_lt}
use Rattle.base.specs.Pick.{pick}
use Rattle.base.proofs.Tests.{and-iff, eqb-iff}
use Rattle.state_parts.specs.declared.profile.Profile.{Profile}
use Rattle.state_parts.specs.declared.words.Words.{Words}
use Rattle.state_table.specs.Rows.{Field, fields, is_stored}
use Rattle.state_table.specs.Packed.{no_field}
use Rattle.state_table.proofs.Tested.{long}
use Rattle.state_fields.specs.Words.{words_of, bits_in}
use Rattle.state_fields.specs.Held.{field_in, gathered, same_words, words_ok}
use Rattle.state_fields.proofs.Maps.{Fit, number_of, map_of, get-map}
use Rattle.state_fields.proofs.Fields.{Whole}
use Rattle.state_fields.proofs.Gathers.{nth, stored, gathered-whole, gathered-ends, gathered-field, gathered-is}

-- a bit that is no stored field's is 0, and so is one past the map's end: field by field, in the table's order
abbrev pub empty_outside : List Field → Words → Bool
empty_outside [] w = eqb (bits_in 312 8 w) 0
empty_outside (f ∷ fs) w = (is_stored f.access || eqb (field_in f w) 0) && empty_outside fs w

empty-at : (fs : List Field) (w : Words) (i : ℕ) → empty_outside fs w ≡ true → i < length fs → (stored (get_or fs i no_field) || eqb (field_in (get_or fs i no_field) w) 0) ≡ true
empty-at [] w i e h = absurd (not-suc-le-zero h)
empty-at (f ∷ fs) w zero e h = ((and-iff (stored f || eqb (field_in f w) 0) (empty_outside fs w)).0 e).0
empty-at (f ∷ fs) w (suc i) e h = empty-at fs w i ((and-iff (stored f || eqb (field_in f w) 0) (empty_outside fs w)).0 e).1 (omega arith)

empty-end : (fs : List Field) (w : Words) → empty_outside fs w ≡ true → bits_in 312 8 w ≡ 0
empty-end [] w e = eqb-true (bits_in 312 8 w) 0 e
empty-end (f ∷ fs) w e = empty-end fs w ((and-iff (stored f || eqb (field_in f w) 0) (empty_outside fs w)).0 e).1

empty-from : (fs : List Field) (w : Words) → ((i : ℕ) → i < length fs → (stored (get_or fs i no_field) || eqb (field_in (get_or fs i no_field) w) 0) ≡ true) → bits_in 312 8 w ≡ 0 → empty_outside fs w ≡ true
empty-from [] w each top = eq-eqb (bits_in 312 8 w) 0 top
empty-from (f ∷ fs) w each top =
    (and-iff (stored f || eqb (field_in f w) 0) (empty_outside fs w)).1 (each 0 (omega arith), empty-from fs w (λ i h. each (suc i) (omega arith)) top)

-- the number of the words is below 2^320, so what is past the map is eight bits
abbrev bits_of : List ℕ → ℕ
bits_of [] = 0
bits_of (x ∷ xs) = bits_of xs + 64

number_small : (xs : List ℕ) → Fit xs → number_of xs < 2 ^ bits_of xs
number_small [] f = omega arith
number_small (x ∷ xs) f =
    let more : suc (number_of xs) * 2 ^ 64 ≤ 2 ^ bits_of xs * 2 ^ 64 = mul-le-mul (number_small xs f.1) (le_refl (2 ^ 64)) in
    let one = f.0 in
    subst (λ (n : ℕ). number_of xs * 2 ^ 64 + x < n) (sym (pow-add 2 (bits_of xs) 64)) (omega arith)

map-small : (w : Words) → Whole w → map_of w < 2 ^ 320
unfolding map_of
map-small w whole = number_small (words_of w) whole

top-bits : (w : Words) → Whole w → bits_in 312 8 w ≡ map_of w / 2 ^ 312
top-bits w whole = get-map w whole 312 8 (omega arith) (omega arith) ∙ mod-eq_of_lt (shr_lt 8 312 (map-small w whole))

either-zero : (s : Bool) (n : ℕ) → (s || eqb n 0) ≡ true → n ≡ pick s n 0
either-zero true n e = refl
either-zero false n e = eqb-true n 0 e

zero-either : (s : Bool) (n m : ℕ) → n ≡ pick s m 0 → (s || eqb n 0) ≡ true
zero-either true n m e = refl
zero-either false n m e = eq-eqb n 0 e

module _ (p : Profile) where
  own-empty : (w : Words) → Whole w → empty_outside fields w ≡ true → w ≡ gathered p (λ (f : Field). field_in f w)
  own-empty w whole ok =
      gathered-is p (λ (f : Field). field_in f w) w whole (sym (top-bits w whole) ∙ empty-end fields w ok)
      (λ i h.
      either-zero (stored (nth i)) (field_in (nth i) w) (empty-at fields w i ok (rw long h))
      ∙ ap (λ (x : ℕ). pick (stored (nth i)) x 0) (sym (mod-eq_of_lt (field-small (nth i) w))))
    where
      field-small : (f : Field) (v : Words) → field_in f v < 2 ^ f.width
      field-small f v = mod-lt _ (pow_pos f.width)

  gathered-empty : (code : Field → ℕ) → empty_outside fields (gathered p code) ≡ true
  gathered-empty code =
      empty-from fields (gathered p code)
      (λ i h. zero-either (stored (nth i)) (field_in (nth i) (gathered p code)) (code (nth i) % 2 ^ (nth i).width) (gathered-field p code i (subst (λ (n : ℕ). i < n) long h)))
      (top-bits (gathered p code) (gathered-whole p code) ∙ gathered-ends p code)

  same-is : (a b : Words) → same_words a b ≡ true → a ≡ b
  same-is a b e =
      let k = simp (and-iff, eqb-iff) at e in
      λ i. record { w0 = k.0.0.0.0 i; w1 = k.0.0.0.1 i; w2 = k.0.0.1 i; w3 = k.0.1 i; w4 = k.1 i }

  same_self : (a : Words) → same_words a a ≡ true
  same_self a = simp (self a.w0, self a.w1, self a.w2, self a.w3, self a.w4)
    where
      self : (n : ℕ) → eqb n n ≡ true
      self n = eq-eqb n n refl

  -- sound words are what their own stored fields come to
  pub own-fields : (w : Words) → words_ok p w ≡ true → w ≡ gathered p (λ (f : Field). field_in f w)
  unfolding words_ok
  own-fields w ok = same-is w (gathered p (λ (f : Field). field_in f w)) ok

  pub gathered-sound : (code : Field → ℕ) → words_ok p (gathered p code) ≡ true
  unfolding words_ok
  gathered-sound code =
      subst (λ (w : Words). same_words (gathered p code) w ≡ true) (own-empty (gathered p code) (gathered-whole p code) (gathered-empty code)) (same_self (gathered p code))

  -- of words of 64 bits the test of what is outside is the test
  pub empty-sound : (w : Words) → Whole w → empty_outside fields w ≡ words_ok p w
  unfolding words_ok
  empty-sound w whole = both (empty_outside fields w) (words_ok p w)
      (λ e. subst (λ (v : Words). same_words w v ≡ true) (own-empty w whole e) (same_self w))
      (λ e. subst (λ (v : Words). empty_outside fields v ≡ true) (sym (same-is w (gathered p (λ (f : Field). field_in f w)) e)) (gathered-empty (λ (f : Field). field_in f w)))
    where
      both : (s t : Bool) → (s ≡ true → t ≡ true) → (t ≡ true → s ≡ true) → s ≡ t
      both true t f g = sym (f refl)
      both false true f g = g refl
      both false false f g = refl
