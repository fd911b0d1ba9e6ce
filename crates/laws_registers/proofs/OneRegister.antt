-- A run of one register's bytes: what it writes, and what is refused of it, is that register's alone. An address in the middle of a register has no field and takes nothing.
use Prim.Native.Nat.{ℕ, ◌+◌, ◌≤◌}
use mathlib.Core.Path.{◌≡◌, refl, ap, subst, ◌∙◌}
use mathlib.Core.Bool.{Bool, true, false, ◌&&◌, ◌||◌, false≢true}
use native.Mathlib.Nat.{add-zero, le_refl}
use lib.Dec.{eqb, ltb}
use borrow.Author.Tests.{eqb-true, ne_eqb}
use Rattle.base.specs.Pick.{pick}
use Rattle.base.proofs.Tests.{and-iff}
use Rattle.state_fields.specs.Held.{taken_by}
use Rattle.state_parts.specs.declared.profile.Profile.{Profile}
use Rattle.state_parts.specs.declared.registers.Registers.{Registers}
use Rattle.state_parts.specs.declared.settings.Settings.{Settings}
use Rattle.state_parts.specs.declared.words.Words.{Words}
use Rattle.state_runs.specs.Bytes.{value_in}
use Rattle.state_runs.specs.Registers.{settings_taken, bad_register, register_taken}
use Rattle.state_runs.specs.Runs.{in_middle, bad_run, kept_run}
use Rattle.state_runs.specs.declared.registers.Kept.{Kept}
use Rattle.state_table.specs.Rows.{Field, fields, fields_of, over, is_stored, cell_pin}
use Rattle.state_table.specs.Packed.{below, upper_half}
use Rattle.state_table.proofs.Turns.{skipped, finished}
use Rattle.laws_registers.specs.Fields.{register_size}

module _ (p : Profile) (a : ℕ) (middle : in_middle p a ≡ true) where
  upper : upper_half p a ≡ true
  upper = ((and-iff (ltb a 39) (upper_half p a)).0 middle).1

  none_between : below (a + 1) fields ≤ below a fields
  unfolding fields_of
  none_between = subst (λ (n : ℕ). n ≤ below a fields) (eqb-true (below a fields) (below (a + 1) fields) upper) (le_refl (below a fields))

  no_field : {A : Type 0} (on : Field → Bool) (step : A → Field → A) → ((f : Field) → (f.address ≡ a → ⊥) → on f ≡ false) → (u : A) → over on step fields u ≡ u
  no_field on step off u = skipped on step a off fields u ∙ finished on step a off (below a fields) u none_between

  never : (s t : Bool) → t ≡ false → (s && t) ≡ false
  never true t e = e
  never false t e = refl

  settings-stand : (value : ℕ) (t : Settings) → settings_taken p a value t ≡ t
  unfolding settings_taken fields_of
  settings-stand value t = no_field _ _ (λ f other. ne_eqb f.address a other) t

  words-stand : (value : ℕ) (w : Words) → taken_by p a value w ≡ w
  unfolding taken_by fields_of
  words-stand value w = no_field _ _ (λ f other. never (is_stored f.access) (eqb f.address a) (ne_eqb f.address a other)) w

  pub middle-fine : (value : ℕ) → bad_register p a value ≡ false
  unfolding bad_register fields_of
  middle-fine value = no_field _ _ (λ f other. ne_eqb f.address a other) false

  -- CELL_PIN's register isn't the upper half of one
  no-count : eqb a cell_pin.address ≡ false
  unfolding fields_of fields
  no-count = ne_eqb a 0x1B (λ e. false≢true (subst (λ (n : ℕ). upper_half p n ≡ true) e upper))

  pub middle-stands : (before : Registers) (value : ℕ) (k : Kept) → register_taken p before a value k ≡ k
  unfolding register_taken
  middle-stands before value k = simp (no-count, settings-stand value k.settings, words-stand value k.words)

module _ (p : Profile) (a : ℕ) (byte : ℕ → ℕ) where
  abbrev value : ℕ
  value = value_in byte 0

  pub one-taken : (before : Registers) (k : Kept) → kept_run byte a (register_size p a) p before k ≡ register_taken p before a value k
  unfolding kept_run
  one-taken before k = go (in_middle p (a + 1)) refl
    where
      first : register_taken p before (a + 0) value k ≡ register_taken p before a value k
      first = ap (λ (n : ℕ). register_taken p before n value k) (add-zero a)

      go : (t : Bool) → in_middle p (a + 1) ≡ t → kept_run byte a (pick t 2 1) p before k ≡ register_taken p before a value k
      go true e = middle-stands p (a + 1) e before (value_in byte 1) _ ∙ first
      go false e = first

  pub one-judged : bad_run byte a (register_size p a) p ≡ bad_register p a value
  unfolding bad_run
  one-judged = go (in_middle p (a + 1)) refl
    where
      either : (s t : Bool) → t ≡ false → (s || t) ≡ s
      either true t e = refl
      either false t e = e

      first : bad_register p (a + 0) value ≡ bad_register p a value
      first = ap (λ (n : ℕ). bad_register p n value) (add-zero a)

      go : (t : Bool) → in_middle p (a + 1) ≡ t → bad_run byte a (pick t 2 1) p ≡ bad_register p a value
      go true e = either (bad_register p (a + 0) value) (bad_register p (a + 1) (value_in byte 1)) (middle-fine p (a + 1) e (value_in byte 1)) ∙ first
      go false e = first
