-- Stored fields that are written with what they hold.
use Prim.Native.Nat.{ℕ, ◌<◌}
use mathlib.Core.Path.{◌≡◌, refl, sym, ap, ◌∙◌}
use mathlib.Core.Bool.{Bool, true, false, ◌&&◌, false≢true}
use lib.Dec.{eqb}
use borrow.Author.Tests.{eqb-true}
use Rattle.base.specs.Pick.{pick}
use Rattle.report_registers.specs.Reads.{code_by, code_of}
use Rattle.state_fields.specs.Held.{field_in, field_of, taken_by}
use Rattle.state_fields.proofs.Gathers.{nth, stored, gathered-each}
use Rattle.state_fields.proofs.Sound.{own-fields}
use Rattle.state_fields.proofs.Taken.{taken-gathered}
use Rattle.state_parts.specs.declared.state.State.{State}
use Rattle.state_parts.specs.declared.words.Words.{Words}
use Rattle.state_registers.proofs.Keeps.{parts-apart}
use Rattle.state_table.specs.Rows.{Field, digit_of, is_stored}
use Rattle.state_table.specs.declared.Access.{Access}
use Rattle.state_table.specs.declared.Access.TheVariants.{Reserved, Fixed, Status, Flag, Stored, Setting, Mask, Counted, Pin, Acts}
use Rattle.state_valid.specs.Holds.{state_ok}
use Rattle.state_valid.proofs.Wholes.{apart}

-- a stored field reads as it is held
pub stored-code : (s : State) (g : Field) → stored g ≡ true → code_of s g ≡ field_of g s.registers
unfolding code_of
stored-code s g e = go g.access e
  where
    go : (x : Access) → is_stored x ≡ true → code_by x s g ≡ field_of g s.registers
    go Reserved e = absurd (false≢true e)
    go (Fixed x) e = absurd (false≢true e)
    go (Status x) e = absurd (false≢true e)
    go (Flag x y) e = absurd (false≢true e)
    go Stored e = refl
    go (Setting m k) e = absurd (false≢true e)
    go (Mask x y) e = absurd (false≢true e)
    go Counted e = absurd (false≢true e)
    go (Pin x) e = absurd (false≢true e)
    go (Acts x) e = absurd (false≢true e)

-- a register whose stored fields are given what they hold leaves the words
module _ (s : State) (ok : state_ok s ≡ true) (a value : ℕ) where
  abbrev w : Words
  w = s.registers.words

  pub words-held : ((j : ℕ) → j < 147 → stored (nth j) ≡ true → (nth j).address ≡ a → digit_of (nth j) value ≡ field_in (nth j) w) → taken_by s.profile a value w ≡ w
  words-held same =
      let p = s.profile in
      let sound = (parts-apart p s.registers (apart s ok).registers).words in
      let old : Field → ℕ = λ g. field_in g w in
      ap (taken_by p a value) (own-fields p w sound) ∙ taken-gathered p a value old
      ∙ gathered-each p (λ (g : Field). pick (stored g && eqb g.address a) (digit_of g value) (old g)) old (λ j l st. kept j l st (eqb (nth j).address a) refl)
      ∙ sym (own-fields p w sound)
    where
      kept : (j : ℕ) → j < 147 → stored (nth j) ≡ true → (b : Bool) → eqb (nth j).address a ≡ b
          → pick (stored (nth j) && b) (digit_of (nth j) value) (field_in (nth j) w) ≡ field_in (nth j) w
      kept j l st true q = ap (λ (c : Bool). pick (c && true) (digit_of (nth j) value) (field_in (nth j) w)) st ∙ same j l st (eqb-true (nth j).address a q)
      kept j l st false q = ap (λ (c : Bool). pick (c && false) (digit_of (nth j) value) (field_in (nth j) w)) st
