-- The stored fields of one register: which they are, and one's turn.
use Prim.Native.Nat.{ℕ, ◌+◌, ◌*◌, ◌≤◌, ◌<◌}
use mathlib.Core.Path.{◌≡◌, refl, ap, ◌∙◌}
use mathlib.Core.Bool.{Bool, true, false, ◌&&◌}
use borrow.Author.Tests.{eq-eqb, ne_eqb}
use lib.Dec.{eqb}
use Rattle.base.specs.Pick.{pick}
use Rattle.state_parts.specs.declared.words.Words.{Words}
use Rattle.state_table.specs.Rows.{Field, fields, digit_of, is_stored}
use Rattle.state_table.specs.Packed.{field_at, row_of, below}
use Rattle.state_table.specs.declared.Row.{Row}
use Rattle.state_table.proofs.Turns.{its-address}
use Rattle.state_fields.specs.Words.{bits_at, put_in}
use Rattle.state_fields.specs.Held.{with_field}

module _ (a value : ℕ) where
  abbrev pub on : Field → Bool
  on f = is_stored f.access && eqb f.address a

  abbrev pub step : Words → Field → Words
  step w f = with_field f (digit_of f value) w

  both : (s t : Bool) → t ≡ false → (s && t) ≡ false
  both true t e = e
  both false t e = refl

  pub off : (f : Field) → (f.address ≡ a → ⊥) → on f ≡ false
  off f other = both (is_stored f.access) (eqb f.address a) (ne_eqb f.address a other)

  all_of : (s t : Bool) → t ≡ true → (s && t) ≡ s
  all_of true t e = e
  all_of false t e = refl

  pub taken-turn : (i : ℕ) → below a fields ≤ i → i < below (a + 1) fields → (r : Row) → r ≡ row_of (field_at i) → (u next : Words)
      → next ≡ pick (is_stored r.access) (put_in (r.address * 8 + r.low) r.width (bits_at r.low r.width value) u) u → next ≡ pick (on (field_at i)) (step u (field_at i)) u
  taken-turn i first last r er u next e =
      let f = field_at i in
      let kept : on f ≡ is_stored f.access = all_of (is_stored f.access) (eqb f.address a) (eq-eqb f.address a (its-address a i first last)) in
      e ∙ ap (λ (x : Row). pick (is_stored x.access) (put_in (x.address * 8 + x.low) x.width (bits_at x.low x.width value) u) u) er ∙ rw kept refl
