-- What a register takes goes by its fields' codes: values that agree in every field with a part in a write are taken alike.
use Prim.Native.Nat.{ℕ, suc, ◌<◌}
use mathlib.Core.Path.{◌≡◌, refl, sym, ap, subst, ◌∙◌}
use mathlib.Core.Bool.{Bool, true, false, ◌&&◌, ◌||◌, false≢true}
use mathlib.Core.List.{List, [], ◌∷◌}
use native.Mathlib.Omega.{arith}
use lib.Dec.{eqb}
use lib.ListN.{length, get_or}
use borrow.Author.Tests.{eqb-true}
use Rattle.base.specs.Pick.{pick}
use Rattle.state_fields.specs.Held.{with_field, taken_by}
use Rattle.state_fields.proofs.Gathers.{nth}
use Rattle.state_parts.specs.declared.profile.Profile.{Profile}
use Rattle.state_parts.specs.declared.registers.Registers.{Registers}
use Rattle.state_parts.specs.declared.settings.Settings.{Settings}
use Rattle.state_parts.specs.declared.words.Words.{Words}
use Rattle.state_runs.specs.Registers.{setting_by, settings_taken, bad_by, bad_register, register_taken}
use Rattle.state_runs.specs.declared.registers.Kept.{Kept}
use Rattle.state_table.specs.Rows.{Field, fields, fields_of, over, digit_of, is_stored, cell_pin}
use Rattle.state_table.specs.Packed.{no_field}
use Rattle.state_table.specs.declared.Access.{Access}
use Rattle.state_table.specs.declared.Access.TheVariants.{Reserved, Fixed, Status, Flag, Stored, Setting, Mask, Counted, Pin, Acts}
use Rattle.state_table.proofs.Tested.{long}
use Rattle.laws_registers.specs.Alike.{is_writable}

-- steps that do the same for each field
over-alike : {A : Type 0} (on : Field → Bool) (step other : A → Field → A) (fs : List Field) (u : A)
    → ((j : ℕ) → j < length fs → (v : A) → pick (on (get_or fs j no_field)) (step v (get_or fs j no_field)) v ≡ pick (on (get_or fs j no_field)) (other v (get_or fs j no_field)) v)
    → over on step fs u ≡ over on other fs u
over-alike on step other [] u same = refl
over-alike on step other (f ∷ fs) u same =
    ap (over on step fs) (same 0 (omega arith) u) ∙ over-alike on step other fs (pick (on f) (other u f) u) (λ j h. same (suc j) (omega arith))

stored-written : (x : Access) → is_stored x ≡ true → is_writable x ≡ true
stored-written Reserved e = absurd (false≢true e)
stored-written (Fixed n) e = absurd (false≢true e)
stored-written (Status n) e = absurd (false≢true e)
stored-written (Flag n m) e = absurd (false≢true e)
stored-written Stored e = refl
stored-written (Setting n k) e = refl
stored-written (Mask n m) e = refl
stored-written Counted e = refl
stored-written (Pin n) e = absurd (false≢true e)
stored-written (Acts n) e = refl

-- CELL_PIN is the table's field 85
count-row : nth 85 ≡ cell_pin
unfolding fields
count-row = refl

module _ (p : Profile) (a v w : ℕ) (alike : (i : ℕ) → i < 147 → (nth i).address ≡ a → is_writable (nth i).access ≡ true → digit_of (nth i) v ≡ digit_of (nth i) w) where
  sets-alike : (x : Access) (c d : ℕ) → (is_writable x ≡ true → c ≡ d) → (t : Settings) → setting_by x c t ≡ setting_by x d t
  sets-alike Reserved c d e t = refl
  sets-alike (Fixed n) c d e t = refl
  sets-alike (Status n) c d e t = refl
  sets-alike (Flag n m) c d e t = refl
  sets-alike Stored c d e t = refl
  sets-alike (Setting n k) c d e t = ap (λ (x : ℕ). setting_by (Setting n k) x t) (e refl)
  sets-alike (Mask n m) c d e t = ap (λ (x : ℕ). setting_by (Mask n m) x t) (e refl)
  sets-alike Counted c d e t = refl
  sets-alike (Pin n) c d e t = refl
  sets-alike (Acts n) c d e t = refl

  bad-alike : (x : Access) (c d : ℕ) → (is_writable x ≡ true → c ≡ d) → bad_by p x c ≡ bad_by p x d
  bad-alike Reserved c d e = refl
  bad-alike (Fixed n) c d e = refl
  bad-alike (Status n) c d e = refl
  bad-alike (Flag n m) c d e = refl
  bad-alike Stored c d e = refl
  bad-alike (Setting n k) c d e = ap (bad_by p (Setting n k)) (e refl)
  bad-alike (Mask n m) c d e = refl
  bad-alike Counted c d e = refl
  bad-alike (Pin n) c d e = refl
  bad-alike (Acts n) c d e = refl

  -- in a field of the register
  here : {A : Type 0} (g : Field) (x y z : A) → (g.address ≡ a → x ≡ y) → pick (eqb g.address a) x z ≡ pick (eqb g.address a) y z
  here g x y z e = go (eqb g.address a) refl
    where
      go : (t : Bool) → eqb g.address a ≡ t → pick t x z ≡ pick t y z
      go true q = e (eqb-true g.address a q)
      go false q = refl

  in-147 : (j : ℕ) → j < length fields → j < 147
  in-147 j h = subst (λ (n : ℕ). j < n) long h

  settings-alike : (t : Settings) → settings_taken p a v t ≡ settings_taken p a w t
  unfolding settings_taken fields_of
  settings-alike t =
      over-alike (λ (f : Field). eqb f.address a) _ _ fields t
      (λ j h u. here (nth j) _ _ u (λ there. sets-alike (nth j).access _ _ (alike j (in-147 j h) there) u))

  pub judged-alike : bad_register p a v ≡ bad_register p a w
  unfolding bad_register fields_of
  judged-alike =
      over-alike (λ (f : Field). eqb f.address a) _ _ fields false
      (λ j h u. here (nth j) _ _ u (λ there. ap (λ (b : Bool). u || b) (bad-alike (nth j).access _ _ (alike j (in-147 j h) there))))

  words-alike : (k : Words) → taken_by p a v k ≡ taken_by p a w k
  unfolding taken_by fields_of
  words-alike k =
      over-alike (λ (f : Field). is_stored f.access && eqb f.address a) _ _ fields k
      (λ j h u. go (nth j) u (is_stored (nth j).access) (eqb (nth j).address a) (λ st at. alike j (in-147 j h) (eqb-true (nth j).address a at) (stored-written (nth j).access st)) refl refl)
    where
      go : (g : Field) (u : Words) (st at : Bool) → (is_stored g.access ≡ true → eqb g.address a ≡ true → digit_of g v ≡ digit_of g w) → is_stored g.access ≡ st → eqb g.address a ≡ at
          → pick (st && at) (with_field g (digit_of g v) u) u ≡ pick (st && at) (with_field g (digit_of g w) u) u
      go g u true true e est eat = ap (λ (c : ℕ). with_field g c u) (e est eat)
      go g u true false e est eat = refl
      go g u false at e est eat = refl

  -- the count, where it is written
  count_same : eqb a cell_pin.address ≡ true → digit_of cell_pin v ≡ digit_of cell_pin w
  count_same e =
      subst (λ (g : Field). g.address ≡ a → is_writable g.access ≡ true → digit_of g v ≡ digit_of g w) count-row (alike 85 (omega arith)) (sym (eqb-true a cell_pin.address e)) refl

  pub taken-alike : (before : Registers) (k : Kept) → register_taken p before a v k ≡ register_taken p before a w k
  unfolding register_taken
  taken-alike before k = go (eqb a cell_pin.address) refl
    where
      go : (t : Bool) → eqb a cell_pin.address ≡ t → register_taken p before a v k ≡ register_taken p before a w k
      go true e = rw (count_same e, settings-alike k.settings, words-alike k.words) refl
      go false e = rw (e, settings-alike k.settings, words-alike k.words) refl
