-- What stands beside a field that is a setting, by tests over the table: in its register no masks, no FSW, no CELL_PIN, no WD_RST, no field of the same setting.
use Prim.Native.Nat.{ℕ, ◌≤◌, ◌<◌}
use mathlib.Core.Path.{◌≡◌, refl, subst}
use mathlib.Core.Bool.{Bool, true, false, not, ◌&&◌, ◌||◌, true≢false, false≢true}
use mathlib.Core.Logic.{◌⊎◌, inl, inr, ⊎_elim}
use lib.Dec.{eqb, leb}
use borrow.Author.Tests.{eqb-true, eq-eqb, ne_eqb, not-true}
use Rattle.base.proofs.Tests.{and-iff, leb-iff}
use Rattle.state_parts.specs.declared.profile.Profile.{Profile}
use Rattle.state_settings.specs.Ranges.{last_setting}
use Rattle.state_table.specs.Rows.{Field, fields, fields_of, bit_of, fsw, reg_rst, wd_rst, cell_pin}
use Rattle.state_table.specs.declared.Access.{Access}
use Rattle.state_table.specs.declared.Access.TheVariants.{Reserved, Fixed, Status, Flag, Stored, Setting, Mask, Counted, Pin, Acts}
use Rattle.state_table.proofs.Tested.{every, at}
use Rattle.state_fields.proofs.Gathers.{nth}
use Rattle.state_runs.specs.Bytes.{is_written}
use Rattle.laws_registers.specs.Fields.{register_size}
use Rattle.laws_registers.proofs.Places.{in_table}

-- a field that may stand in the register of setting n
abbrev pub mate : ℕ → Access → Bool
mate n Reserved = true
mate n (Fixed value) = true
mate n (Status number) = true
mate n (Flag first count) = true
mate n Stored = true
mate n (Setting number step) = not (eqb number n)
mate n (Mask first count) = false
mate n Counted = false
mate n (Pin number) = true
mate n (Acts number) = true

abbrev alone : Profile → ℕ → ℕ → Bool
alone p n a =
    leb 1 n && leb n last_setting && not (is_written a (register_size p a) fsw) && not (is_written a (register_size p a) wd_rst)
    && (not (is_written a (register_size p a) reg_rst) || eqb a reg_rst.address) && not (eqb a cell_pin.address)

abbrev beside : Profile → Field → Access → Bool
beside p f Reserved = true
beside p f (Fixed value) = true
beside p f (Status number) = true
beside p f (Flag first count) = true
beside p f Stored = true
beside p f (Setting n step) = alone p n f.address && every (λ (g : Field). not (eqb g.address f.address) || eqb (bit_of g) (bit_of f) || mate n g.access) fields
beside p f (Mask first count) = true
beside p f Counted = true
beside p f (Pin number) = true
beside p f (Acts number) = true

all-beside : (p : Profile) → every (λ (f : Field). beside p f f.access) fields ≡ true
unfolding fields fields_of
all-beside p = refl

-- what the tests say of the field of setting n at place i
pub record Alone (p : Profile) (n i : ℕ) : Type 0 where
  pub some : 1 ≤ n
  pub known : n ≤ last_setting
  pub no-frequency : is_written (nth i).address (register_size p (nth i).address) fsw ≡ false
  pub no-service : is_written (nth i).address (register_size p (nth i).address) wd_rst ≡ false
  pub reset : (is_written (nth i).address (register_size p (nth i).address) reg_rst ≡ false) ⊎ ((nth i).address ≡ reg_rst.address)
  pub no-count : eqb (nth i).address cell_pin.address ≡ false
  pub mates : (j : ℕ) → j < 147 → (nth j).address ≡ (nth i).address → (bit_of (nth j) ≡ bit_of (nth i) → ⊥) → mate n (nth j).access ≡ true

pub or-second : (s t : Bool) → s ≡ false → (s || t) ≡ true → t ≡ true
or-second true t es e = absurd (true≢false es)
or-second false t es e = e

third : (s t u : Bool) → s ≡ true → t ≡ false → (not s || t || u) ≡ true → u ≡ true
third true false u es et e = e
third true true u es et e = absurd (true≢false et)
third false t u es et e = absurd (false≢true es)

one_of : (s t : Bool) → (not s || t) ≡ true → (s ≡ false) ⊎ (t ≡ true)
one_of true t e = inr e
one_of false t e = inl refl

pub alone_at : (p : Profile) (i n step : ℕ) → i < 147 → (nth i).access ≡ Setting n step → Alone p n i
alone_at p i n step h e =
    let f = nth i in
    let a = f.address in
    let size = register_size p a in
    let near : Field → Bool = λ g. not (eqb g.address a) || eqb (bit_of g) (bit_of f) || mate n g.access in
    let test : beside p f (Setting n step) ≡ true =
    subst (λ (x : Access). beside p f x ≡ true) e (at (λ (g : Field). beside p g g.access) fields i (all-beside p) (in_table i h)) in
    let both = (and-iff (alone p n a) (every near fields)).0 test in
    let k = simp (and-iff, leb-iff) at both.0 in
    record {
      some = k.0.0.0.0.0;
      known = k.0.0.0.0.1;
      no-frequency = not-true (is_written a size fsw) k.0.0.0.1;
      no-service = not-true (is_written a size wd_rst) k.0.0.1;
      reset = ⊎_elim (λ none. inl none) (λ same. inr (eqb-true a reg_rst.address same)) (one_of (is_written a size reg_rst) (eqb a reg_rst.address) k.0.1);
      no-count = not-true (eqb a cell_pin.address) k.1;
      mates = λ j l here apart.
          third (eqb (nth j).address a) (eqb (bit_of (nth j)) (bit_of f)) (mate n (nth j).access) (eq-eqb (nth j).address a here)
          (ne_eqb (bit_of (nth j)) (bit_of f) apart) (at near fields j both.1 (in_table j l));
    }
