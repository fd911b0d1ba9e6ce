-- What the registers of a run leave, one after the other, is what the account says: settings number by number, stored fields one by one, and the count.
use Prim.Native.Nat.{ℕ, zero, suc, ◌+◌, ◌-◌, ◌*◌, ◌%◌, ◌^◌, ◌<◌}
use mathlib.Core.Path.{◌≡◌, refl, sym, ap, ◌∙◌}
use mathlib.Core.Bool.{Bool, true, false, not, ◌&&◌}
use mathlib.Core.List.{List, [], ◌∷◌}
use native.Mathlib.Nat.{mod-lt, mod-eq_of_lt}
use native.Mathlib.Omega.{arith}
use lib.Pow.{pow_pos}
use lib.Dec.{leb, ltb, eqb}
use borrow.Author.Tests.{leb-true, ltb-true, ltb-false, eqb-true, eqb-false, le-leb, lt-ltb, le-ltb}
use Rattle.base.specs.Pick.{pick}
use Rattle.state_parts.specs.declared.settings.Settings.{Settings}
use Rattle.state_table.specs.Rows.{Field, fields_of, over, digit_of, cell_pin}
use Rattle.state_table.specs.declared.Access.{Access}
use Rattle.state_table.specs.declared.Access.TheVariants.{Reserved, Fixed, Status, Flag, Stored, Setting, Mask, Counted, Pin, Acts}
use Rattle.state_fields.specs.Held.{field_in, gathered, taken_by}
use Rattle.state_fields.proofs.Gathers.{nth, stored, gathered-field, gathered-each}
use Rattle.state_fields.proofs.Restores.{gathered-same}
use Rattle.state_fields.proofs.Taken.{taken-gathered}
use Rattle.state_settings.specs.Numbered.{store_of}
use Rattle.state_registers.specs.Writes as registers
use Rattle.state_runs.specs.Bytes.{value_in, stepwise, is_written, written_code}
use Rattle.state_runs.specs.Registers.{setting_by, settings_taken, register_taken}
use Rattle.state_runs.specs.Runs.{kept_run}
use Rattle.state_runs.specs.declared.registers.Kept.{Kept}
use Rattle.laws_account.specs.History.{Run}
use Rattle.laws_account.specs.Held.{profile_of, cell, overridden, takes, cells_of, field_at}
use Rattle.laws_account.specs.Valued.{setting_of, field_gives, register_gives}
use Rattle.laws_account.specs.States.{numbered, settings_at, registers_at}
use Rattle.laws_account.proofs.Fields.{small, reset-small, in-register, count-taken}
use Rattle.laws_account.proofs.Values.{store_is, count-is}

-- ---- settings
field-gives : (a : Access) (code : ℕ) (g : ℕ → ℕ) → setting_by a code (numbered g) ≡ numbered (λ k. field_gives k a code (g k))
unfolding store_of
field-gives Reserved code g = refl
field-gives (Fixed value) code g = refl
field-gives (Status which) code g = refl
field-gives (Flag first count) code g = refl
field-gives Stored code g = refl
field-gives (Setting n step) code g = store_is g n (code * step)
field-gives (Mask first count) code g = refl
field-gives Counted code g = refl
field-gives (Pin which) code g = refl
field-gives (Acts which) code g = refl

module _ (a value : ℕ) where
  abbrev on : Field → Bool
  on f = eqb f.address a

  fields_give : (fs : List Field) (g : ℕ → ℕ)
      → over on (λ (u : Settings) (f : Field). setting_by f.access (digit_of f value) u) fs (numbered g)
      ≡ numbered (λ k. over on (λ (h : ℕ) (f : Field). field_gives k f.access (digit_of f value) h) fs (g k))
  fields_give [] g = refl
  fields_give (f ∷ fs) g = go (on f) (fields_give fs)
    where
      sets : Settings → Settings
      sets t = over on (λ (u : Settings) (h : Field). setting_by h.access (digit_of h value) u) fs t

      go : (here : Bool)
          → ((g : ℕ → ℕ) → sets (numbered g) ≡ numbered (λ k. over on (λ (h : ℕ) (e : Field). field_gives k e.access (digit_of e value) h) fs (g k)))
          → sets (pick here (setting_by f.access (digit_of f value) (numbered g)) (numbered g))
          ≡ numbered (λ k. over on (λ (h : ℕ) (e : Field). field_gives k e.access (digit_of e value) h) fs (pick here (field_gives k f.access (digit_of f value) (g k)) (g k)))
      go true rest = ap sets (field-gives f.access (digit_of f value) g) ∙ rest (λ k. field_gives k f.access (digit_of f value) (g k))
      go false rest = rest g

-- ---- which fields a run writes
never : (first : ℕ) (f : Field) → is_written first 0 f ≡ false
never first f = go (leb first f.address) refl
  where
    go : (t : Bool) → leb first f.address ≡ t → (t && ltb f.address (first + 0)) ≡ false
    go true e = le-ltb f.address (first + 0) (let h = leb-true first f.address e in omega arith)
    go false e = refl

-- with one more register: a field that is there, and one that isn't
there : (first i : ℕ) (f : Field) → f.address ≡ first + i → is_written first (suc i) f ≡ true
there first i f e = rw (le-leb first f.address (omega arith), lt-ltb f.address (first + suc i) (omega arith)) refl

elsewhere : (first i : ℕ) (f : Field) → (f.address ≡ first + i → ⊥) → is_written first (suc i) f ≡ is_written first i f
elsewhere first i f other = go (ltb f.address (first + i)) refl
  where
    go : (t : Bool) → ltb f.address (first + i) ≡ t → (leb first f.address && ltb f.address (first + suc i)) ≡ (leb first f.address && t)
    go true e = ap (λ (t : Bool). leb first f.address && t) (lt-ltb f.address (first + suc i) (let h = ltb-true f.address (first + i) e in omega arith))
    go false e =
        ap (λ (t : Bool). leb first f.address && t)
        (le-ltb f.address (first + suc i) (let h = ltb-false f.address (first + i) e in let k : f.address ≡ first + i → ⊥ = other in omega arith))

-- a field's code after one more register
one-more : (byte : ℕ → ℕ) (first i : ℕ) (f : Field) (old : ℕ)
    → pick (eqb f.address (first + i)) (digit_of f (value_in byte i)) (pick (is_written first i f) (written_code byte first f) old) ≡ pick (is_written first (suc i) f) (written_code byte first f) old
one-more byte first i f old = go (eqb f.address (first + i)) refl
  where
    go : (t : Bool) → eqb f.address (first + i) ≡ t
        → pick t (digit_of f (value_in byte i)) (pick (is_written first i f) (written_code byte first f) old) ≡ pick (is_written first (suc i) f) (written_code byte first f) old
    go true e =
        let same = eqb-true f.address (first + i) e in
        let place : i ≡ f.address - first = omega arith in
        ap (λ (n : ℕ). digit_of f (value_in byte n)) place ∙ ap (λ (t : Bool). pick t (written_code byte first f) old) (sym (there first i f same))
    go false e = ap (λ (t : Bool). pick t (written_code byte first f) old) (sym (elsewhere first i f (eqb-false f.address (first + i) e)))

-- and CELL_PIN's: a count is said at its own address alone
one-count : (byte : ℕ → ℕ) (first i : ℕ) (fine : ℕ → Bool) (old : ℕ)
    → pick (eqb (first + i) 0x1B && fine (value_in byte i)) (digit_of cell_pin (value_in byte i)) (pick (is_written first i cell_pin && fine (value_in byte (0x1B - first))) (written_code byte first cell_pin) old)
    ≡ pick (is_written first (suc i) cell_pin && fine (value_in byte (0x1B - first))) (written_code byte first cell_pin) old
one-count byte first i fine old = go (eqb (first + i) 0x1B) refl
  where
    after : Bool → ℕ
    after t = pick (t && fine (value_in byte (0x1B - first))) (written_code byte first cell_pin) old

    before : (b : Bool) (new : ℕ) → is_written first i cell_pin ≡ false → pick b new (after (is_written first i cell_pin)) ≡ pick b new old
    before b new e = ap (λ (t : Bool). pick b new (after t)) e

    go : (t : Bool) → eqb (first + i) 0x1B ≡ t
        → pick (t && fine (value_in byte i)) (digit_of cell_pin (value_in byte i)) (after (is_written first i cell_pin)) ≡ after (is_written first (suc i) cell_pin)
    go true e =
        let same = eqb-true (first + i) 0x1B e in
        let place : i ≡ 0x1B - first = omega arith in
        let none : is_written first i cell_pin ≡ false = ap (λ (t : Bool). leb first 0x1B && t) (le-ltb 0x1B (first + i) (omega arith)) ∙ and_none (leb first 0x1B) in
        before (fine (value_in byte i)) (digit_of cell_pin (value_in byte i)) none
        ∙ ap (λ (n : ℕ). pick (fine (value_in byte n)) (digit_of cell_pin (value_in byte n)) old) place
        ∙ ap after (sym (there first i cell_pin (sym same)))
      where
        and_none : (b : Bool) → (b && false) ≡ false
        and_none true = refl
        and_none false = refl
    go false e = ap after (sym (elsewhere first i cell_pin (λ q. eqb-false (first + i) 0x1B e (sym q))))

-- its address is tested first
address-first : (r : Run) (a v : ℕ) → takes r (cells_of r) a v ≡ (eqb a 0x1B && takes r (cells_of r) 0x1B v)
address-first r a v = go (eqb a 0x1B)
  where
    go : (t : Bool) → (t && overridden cell r && not (eqb (digit_of cell_pin v) 0) && not (eqb (digit_of cell_pin v) (cells_of r)))
        ≡ (t && takes r (cells_of r) 0x1B v)
    go true = refl
    go false = refl

-- ---- the registers of a run
module _ (r : Run) (first : ℕ) (byte : ℕ → ℕ) where
  -- what the account says after so many of them
  abbrev given_to : ℕ → ℕ → ℕ
  given_to i k = stepwise (λ (h : ℕ) (j : ℕ). register_gives k r (first + j) (value_in byte j) h) i (setting_of k r)

  abbrev code_to : ℕ → Field → ℕ
  code_to i f = pick (is_written first i f) (written_code byte first f) (field_at f r)

  abbrev cells_to : ℕ → ℕ
  cells_to i = pick (is_written first i cell_pin && takes r (cells_of r) 0x1B (value_in byte (0x1B - first))) (written_code byte first cell_pin) (cells_of r)

  abbrev pub kept_to : ℕ → Kept
  kept_to i = record { settings = numbered (given_to i); words = gathered (profile_of r) (code_to i); cells = cells_to i }

  settings-next : (i : ℕ)
      → pick (registers.count_taken (registers_at r) (first + i) (value_in byte i)) (registers.recounted (profile_of r) (digit_of cell_pin (value_in byte i)) (settings_taken (profile_of r) (first + i) (value_in byte i) (numbered (given_to i)))) (settings_taken (profile_of r) (first + i) (value_in byte i) (numbered (given_to i)))
      ≡ numbered (given_to (suc i))
  unfolding settings_taken
  settings-next i =
      let a = first + i in
      let v = value_in byte i in
      let g : ℕ → ℕ = λ k. over (λ (f : Field). eqb f.address a) (λ (h : ℕ) (f : Field). field_gives k f.access (digit_of f v) h) (fields_of (profile_of r)) (given_to i k) in
      ap (λ (t : Settings). pick (registers.count_taken (registers_at r) a v) (registers.recounted (profile_of r) (digit_of cell_pin v) t) t) (fields_give a v (fields_of (profile_of r)) (given_to i))
      ∙ ap (λ (t : Bool). pick t (registers.recounted (profile_of r) (digit_of cell_pin v) (numbered g)) (numbered g)) (count-taken r a v)
      ∙ count-is g (profile_of r) (digit_of cell_pin v) (takes r (cells_of r) a v)

  words-next : (i : ℕ) → taken_by (profile_of r) (first + i) (value_in byte i) (gathered (profile_of r) (code_to i)) ≡ gathered (profile_of r) (code_to (suc i))
  words-next i =
      taken-gathered (profile_of r) (first + i) (value_in byte i) (code_to i)
      ∙ gathered-same (profile_of r) (λ (f : Field). pick (stored f && eqb f.address (first + i)) (digit_of f (value_in byte i)) (code_to i f)) (code_to (suc i))
      (λ f e. in-register (stored f) (eqb f.address (first + i)) (digit_of f (value_in byte i)) (code_to i f) e ∙ one-more byte first i f (field_at f r))

  cells-next : (i : ℕ) → pick (registers.count_taken (registers_at r) (first + i) (value_in byte i)) (digit_of cell_pin (value_in byte i)) (cells_to i) ≡ cells_to (suc i)
  cells-next i =
      ap (λ (t : Bool). pick t (digit_of cell_pin (value_in byte i)) (cells_to i)) (count-taken r (first + i) (value_in byte i) ∙ address-first r (first + i) (value_in byte i))
      ∙ one-count byte first i (λ (v : ℕ). takes r (cells_of r) 0x1B v) (cells_of r)

  pub kept-to : (i : ℕ) → kept_run byte first i (profile_of r) (registers_at r) (record { settings = settings_at r; words = (registers_at r).words; cells = cells_of r }) ≡ kept_to i
  unfolding kept_run settings_at registers_at register_taken
  kept-to zero = λ j. record {
    settings = numbered (λ k. setting_of k r);
    words = gathered-same (profile_of r) (λ (f : Field). field_at f r) (code_to 0) (λ f e. sym (ap (λ (t : Bool). pick t (written_code byte first f) (field_at f r)) (never first f))) j;
    cells = ap (λ (t : Bool). pick (t && takes r (cells_of r) 0x1B (value_in byte (0x1B - first))) (written_code byte first cell_pin) (cells_of r)) (sym (never first cell_pin)) j;
  }
  kept-to (suc i) =
      ap (register_taken (profile_of r) (registers_at r) (first + i) (value_in byte i)) (kept-to i)
      ∙ (λ j. record { settings = settings-next i j; words = words-next i j; cells = cells-next i j })

  -- what a reset restores of them
  small-to : (i : ℕ) (f : Field) → f.reset < 2 ^ f.width → code_to i f < 2 ^ f.width
  small-to i f h = go (is_written first i f) (small f h r)
    where
      go : (t : Bool) → field_at f r < 2 ^ f.width → pick t (written_code byte first f) (field_at f r) < 2 ^ f.width
      go true k = mod-lt _ (pow_pos f.width)
      go false k = k

  pub restored-codes : (i : ℕ) → gathered (profile_of r) (λ (f : Field). pick f.restored f.reset (field_in f (gathered (profile_of r) (code_to i)))) ≡ gathered (profile_of r) (λ (f : Field). pick f.restored f.reset (code_to i f))
  restored-codes i =
      gathered-each (profile_of r) (λ (f : Field). pick f.restored f.reset (field_in f (gathered (profile_of r) (code_to i)))) (λ (f : Field). pick f.restored f.reset (code_to i f))
      (λ j h e. ap (λ (n : ℕ). pick (nth j).restored (nth j).reset n) (gathered-field (profile_of r) (code_to i) j h ∙ held j h e))
    where
      held : (j : ℕ) → j < 147 → stored (nth j) ≡ true → pick (stored (nth j)) (code_to i (nth j) % 2 ^ (nth j).width) 0 ≡ code_to i (nth j)
      held j h e = ap (λ (t : Bool). pick t (code_to i (nth j) % 2 ^ (nth j).width) 0) e ∙ mod-eq_of_lt (small-to i (nth j) (reset-small j h))
