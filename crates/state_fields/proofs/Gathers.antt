-- Laws of the table's stored fields: words that hold them and nothing else are settled by their codes.
use Prim.Native.Nat.{ℕ, ◌/◌, ◌%◌, ◌^◌, ◌<◌}
use mathlib.Core.Path.{◌≡◌, refl, sym, ap, subst, ◌∙◌}
use mathlib.Core.Bool.{Bool, true, false, false≢true}
use native.Mathlib.Nat.{zero-div, zero-mod}
use native.Mathlib.Omega.{arith}
use lib.ListN.{get_or}
use Rattle.base.specs.Pick.{pick}
use Rattle.state_parts.specs.declared.profile.Profile.{Profile}
use Rattle.state_parts.specs.declared.words.Words.{Words}
use Rattle.state_table.specs.Rows.{Field, fields, fields_of, bit_of, is_stored}
use Rattle.state_table.specs.Packed.{no_field, fits}
use Rattle.state_table.proofs.Tested.{at, stacks, all_fit, long}
use Rattle.state_fields.specs.Words.{no_words}
use Rattle.state_fields.specs.Held.{field_in, puts, gathered}
use Rattle.state_fields.proofs.Maps.{map_of}
use Rattle.state_fields.proofs.Fields.{Whole, field-map, puts_whole, puts-at, puts-top, settled}

-- the field at a place of the table
abbrev pub nth : ℕ → Field
nth i = get_or fields i no_field

-- the map's end: nothing is held past it
abbrev pub Ends : Words → Type 0
Ends w = map_of w / 2 ^ 312 ≡ 0

module _ (on : Field → Bool) (code : Field → ℕ) (w : Words) (whole : Whole w) where
  pub all_whole : Whole (puts on code fields w)
  all_whole = puts_whole on code fields w all_fit whole

  pub field_put : (i : ℕ) → i < 147 → field_in (nth i) (puts on code fields w) ≡ pick (on (nth i)) (code (nth i) % 2 ^ (nth i).width) (field_in (nth i) w)
  field_put i h = puts-at on code fields i 0 312 w all_fit stacks whole (rw long h)

  pub put-ends : Ends w → Ends (puts on code fields w)
  put-ends e = puts-top on code fields 0 312 w all_fit stacks whole ∙ e

-- words are settled by the table's fields
pub by-fields : (a b : Words) → Whole a → Whole b → Ends a → Ends b → ((i : ℕ) → i < 147 → field_in (nth i) a ≡ field_in (nth i) b) → a ≡ b
by-fields a b wa wb ea eb same =
    settled a b wa wb fields 312 all_fit stacks (λ i h. same i (subst (λ (n : ℕ). i < n) long h)) (ea ∙ sym eb)

none-whole : Whole no_words
none-whole = (omega arith, (omega arith, (omega arith, (omega arith, (omega arith, tt)))))

none-ends : Ends no_words
unfolding map_of
none-ends = refl

none-field : (i : ℕ) → i < 147 → field_in (nth i) no_words ≡ 0
unfolding map_of
none-field i h =
    field-map (nth i) (at fits fields i all_fit (rw long h)) no_words none-whole
    ∙ ap (λ (n : ℕ). n % 2 ^ (nth i).width) (zero-div (2 ^ bit_of (nth i))) ∙ zero-mod (2 ^ (nth i).width)

abbrev pub stored : Field → Bool
stored f = is_stored f.access

module _ (p : Profile) (code : Field → ℕ) where
  pub gathered-whole : Whole (gathered p code)
  unfolding gathered fields_of
  gathered-whole = all_whole stored code no_words none-whole

  pub gathered-ends : Ends (gathered p code)
  unfolding gathered fields_of
  gathered-ends = put-ends stored code no_words none-whole none-ends

  -- of gathered fields each has its code, and what isn't stored is 0
  pub gathered-field : (i : ℕ) → i < 147 → field_in (nth i) (gathered p code) ≡ pick (stored (nth i)) (code (nth i) % 2 ^ (nth i).width) 0
  unfolding gathered fields_of
  gathered-field i h =
      field_put stored code no_words none-whole i h ∙ ap (λ (x : ℕ). pick (stored (nth i)) (code (nth i) % 2 ^ (nth i).width) x) (none-field i h)

-- words that have these codes in their stored fields and nothing else are the gathered ones
pub gathered-is : (p : Profile) (code : Field → ℕ) (w : Words) → Whole w → Ends w
    → ((i : ℕ) → i < 147 → field_in (nth i) w ≡ pick (stored (nth i)) (code (nth i) % 2 ^ (nth i).width) 0) → w ≡ gathered p code
gathered-is p code w whole ends each =
    by-fields w (gathered p code) whole (gathered-whole p code) ends (gathered-ends p code) (λ i h. each i h ∙ sym (gathered-field p code i h))

-- codes that agree in the table's stored fields come to the same
pub gathered-each : (p : Profile) (one other : Field → ℕ) → ((i : ℕ) → i < 147 → stored (nth i) ≡ true → one (nth i) ≡ other (nth i)) → gathered p one ≡ gathered p other
gathered-each p one other same =
    gathered-is p other (gathered p one) (gathered-whole p one) (gathered-ends p one) (λ i h. gathered-field p one i h ∙ go i (stored (nth i)) (same i h))
  where
    go : (i : ℕ) (t : Bool) → (t ≡ true → one (nth i) ≡ other (nth i)) → pick t (one (nth i) % 2 ^ (nth i).width) 0 ≡ pick t (other (nth i) % 2 ^ (nth i).width) 0
    go i true e = ap (λ (n : ℕ). n % 2 ^ (nth i).width) (e refl)
    go i false e = refl

chosen : (s t : Bool) (a b : ℕ) → (t ≡ true → s ≡ true) → pick t a (pick s b 0) ≡ pick s (pick t a b) 0
chosen true t a b h = refl
chosen false true a b h = absurd (false≢true (h refl))
chosen false false a b h = refl

pick-mod : (t : Bool) (a b m : ℕ) → pick t (a % m) (b % m) ≡ pick t a b % m
pick-mod true a b m = refl
pick-mod false a b m = refl

-- stored fields that are put over gathered ones
pub over-gathered : (p : Profile) (on : Field → Bool) (code old : Field → ℕ) → ((f : Field) → on f ≡ true → stored f ≡ true)
    → puts on code fields (gathered p old) ≡ gathered p (λ (f : Field). pick (on f) (code f) (old f))
over-gathered p on code old inside =
    gathered-is p (λ (f : Field). pick (on f) (code f) (old f)) (puts on code fields (gathered p old)) (all_whole on code (gathered p old) (gathered-whole p old))
    (put-ends on code (gathered p old) (gathered-whole p old) (gathered-ends p old))
    (λ i h.
    field_put on code (gathered p old) (gathered-whole p old) i h
    ∙ ap (λ (x : ℕ). pick (on (nth i)) (code (nth i) % 2 ^ (nth i).width) x) (gathered-field p old i h)
    ∙ chosen (stored (nth i)) (on (nth i)) (code (nth i) % 2 ^ (nth i).width) (old (nth i) % 2 ^ (nth i).width) (inside (nth i))
    ∙ ap (λ (x : ℕ). pick (stored (nth i)) x 0) (pick-mod (on (nth i)) (code (nth i)) (old (nth i)) (2 ^ (nth i).width)))
