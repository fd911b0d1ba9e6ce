-- What a run writes is what its registers write, one run after the other.
use Prim.Native.Nat.{ℕ, zero, suc, ◌+◌, ◌≤◌, ◌<◌}
use mathlib.Core.Path.{◌≡◌, refl, sym, ap, subst, ◌∙◌}
use mathlib.Core.Bool.{Bool, true, false, not, ◌&&◌}
use mathlib.Core.Logic.{⊎_elim}
use native.Mathlib.Nat.{add-zero, add-suc, add_assoc, eq-or-lt_of_le}
use native.Mathlib.Omega.{arith}
use lib.Dec.{eqb}
use borrow.Author.Tests.{eqb-true, ne_eqb}
use Rattle.base.specs.Pick.{pick}
use Rattle.log_raw.specs.Raw.{Raw, byte_of}
use Rattle.log_raw.proofs.Soundness.{spelling-told}
use Rattle.state_fields.specs.Held.{field_in, field_of, is_set, taken_by}
use Rattle.state_fields.proofs.Fields.{Whole}
use Rattle.state_fields.proofs.Gathers.{nth, stored, all_whole}
use Rattle.state_fields.proofs.Puts.{same-below}
use Rattle.state_fields.proofs.Taken.{sound-whole, taken-field}
use Rattle.state_parts.specs.declared.profile.Profile.{Profile}
use Rattle.state_parts.specs.declared.registers.Registers.{Registers}
use Rattle.state_parts.specs.declared.state.State.{State}
use Rattle.state_parts.specs.declared.words.Words.{Words}
use Rattle.state_registers.specs.Writes.{count_taken}
use Rattle.state_registers.proofs.Keeps.{parts-apart}
use Rattle.state_runs.specs.Bytes.{value_in, stepwise}
use Rattle.state_runs.specs.Registers.{register_taken}
use Rattle.state_runs.specs.Runs.{in_middle, kept_run, kept_of, with_kept, written_run}
use Rattle.state_runs.specs.declared.registers.Kept.{Kept}
use Rattle.state_runs.proofs.Steps.{all_keep}
use Rattle.state_table.specs.Rows.{Field, fields, fields_of, digit_of, cell_pin, cell_override}
use Rattle.state_valid.specs.Holds.{state_ok}
use Rattle.state_valid.proofs.Wholes.{apart}
use Rattle.laws_registers.specs.Fields.{register_size}
use Rattle.laws_registers.specs.Alike.{is_writable}
use Rattle.laws_registers.specs.Splits.{Split, RunsSplit}
use Rattle.laws_registers.proofs.Alike.{up-alike}
use Rattle.laws_registers.proofs.Places.{housed-at}
use Rattle.laws_registers.proofs.Values.{taken-alike}

up_split : {A : Type 0} (step : A → ℕ → A) (j k : ℕ) (u : A) → stepwise step (j + k) u ≡ stepwise (λ (v : A) (i : ℕ). step v (j + i)) k (stepwise step j u)
up_split step j zero u = ap (λ (n : ℕ). stepwise step n u) (add-zero j)
up_split step j (suc k) u = ap (λ (n : ℕ). stepwise step n u) (add-suc j k) ∙ ap (λ (v : _). step v (j + k)) (up_split step j k u)

-- CELL_PIN_OVERRIDE is the table's field 87
override-row : nth 87 ≡ cell_override
unfolding fields
override-row = refl

pub taken-whole : (p : Profile) (a value : ℕ) (w : Words) → Whole w → Whole (taken_by p a value w)
unfolding taken_by fields_of
taken-whole p a value w whole = all_whole _ _ w whole

-- the count and its override as before, and words of 64 bits
record Uncounted (g : Registers) (k : Kept) : Type 0 where
  whole : Whole k.words
  cells : k.cells ≡ g.cells
  override : field_in cell_override k.words ≡ field_of cell_override g

module _ (p : Profile) (g : Registers) where
  -- a register that isn't CELL_PIN's keeps them
  keeps-count : (a value : ℕ) → (a ≡ 0x1B → ⊥) → (k : Kept) → Uncounted g k → Uncounted g (register_taken p g a value k)
  unfolding register_taken
  keeps-count a value other k u =
      let off : eqb a 0x1B ≡ false = ne_eqb a 0x1B other in
      record {
        whole = taken-whole p a value k.words u.whole;
        cells = ap (λ (t : Bool). pick (t && is_set cell_override g && not (eqb (digit_of cell_pin value) 0) && not (eqb (digit_of cell_pin value) g.cells)) (digit_of cell_pin value) k.cells) off ∙ u.cells;
        override = subst (λ (f : Field). field_in f (taken_by p a value k.words) ≡ pick (stored f && eqb f.address a) (digit_of f value) (field_in f k.words)) override-row
            (taken-field p a value k.words u.whole 87 (omega arith))
            ∙ ap (λ (t : Bool). pick t (digit_of cell_override value) (field_in cell_override k.words)) (ne_eqb 0x1B a (λ e. other (sym e))) ∙ u.override;
      }

  -- a register takes the same by registers that say the same of the count
  by_count : (other : Registers) (a value : ℕ) (k : Kept) → count_taken g a value ≡ count_taken other a value → register_taken p g a value k ≡ register_taken p other a value k
  unfolding register_taken
  by_count other a value k e = rw e refl

module _ (s : State) (ok : state_ok s ≡ true) (first : ℕ) (all front back : Raw) (given : Split s.profile first all front back) where
  abbrev p : Profile
  p = s.profile

  abbrev g : Registers
  g = s.registers

  abbrev j : ℕ
  j = front.count

  -- a field of the front's register i has the same code in both
  front-code : (i : ℕ) → i < j → (k : ℕ) → k < 147 → (nth k).address ≡ first + i → is_writable (nth k).access ≡ true
      → digit_of (nth k) (value_in (byte_of all) i) ≡ digit_of (nth k) (value_in (byte_of front) i)
  front-code i h k l there written = ⊎_elim last inner (eq-or-lt_of_le h)
    where
      inner : suc i < j → digit_of (nth k) (value_in (byte_of all) i) ≡ digit_of (nth k) (value_in (byte_of front) i)
      inner more = ap (digit_of (nth k)) (rw (given.in-front i h, given.in-front (i + 1) (omega arith)) refl)

      last : suc i ≡ j → digit_of (nth k) (value_in (byte_of all) i) ≡ digit_of (nth k) (value_in (byte_of front) i)
      last e =
          let end : first + j ≡ (nth k).address + 1 = omega arith in
          let size : register_size p (nth k).address ≡ 1 = ap (λ (t : Bool). pick t 2 1) (subst (λ (n : ℕ). in_middle p n ≡ false) end given.between) in
          let inside = (housed-at p k l).fits in
          same-below 8 (nth k).low (nth k).width (value_in (byte_of all) i) (value_in (byte_of front) i) (omega arith) (rw (given.in-front i h) (omega arith))

  in-front : kept_run (byte_of all) first j p g (kept_of s) ≡ kept_run (byte_of front) first j p g (kept_of s)
  unfolding kept_run
  in-front = up-alike _ _ j (kept_of s) (λ i h k. taken-alike p (first + i) (value_in (byte_of all) i) (value_in (byte_of front) i) (front-code i h) g k)

  -- what the front leaves
  abbrev middle : Kept
  middle = kept_run (byte_of front) first j p g (kept_of s)

  abbrev then : Registers
  then = record { words = middle.words; cells = middle.cells }

  -- a value of the back is the whole run's
  back-value : (i : ℕ) → i < back.count → value_in (byte_of all) (j + i) ≡ value_in (byte_of back) i
  back-value i h = ⊎_elim last inner (eq-or-lt_of_le h)
    where
      here : byte_of all (j + i) ≡ byte_of back i
      here = given.behind i h

      next : byte_of all (j + i + 1) ≡ byte_of back (i + 1) → value_in (byte_of all) (j + i) ≡ value_in (byte_of back) i
      next e = rw (here, e) refl

      inner : suc i < back.count → value_in (byte_of all) (j + i) ≡ value_in (byte_of back) i
      inner more = next (ap (byte_of all) (add_assoc j i 1) ∙ given.behind (i + 1) (omega arith))

      last : suc i ≡ back.count → value_in (byte_of all) (j + i) ≡ value_in (byte_of back) i
      last e =
          let long = given.long in
          next ((spelling-told.told all given.all-spelled).rest (j + i + 1) (omega arith) ∙ sym ((spelling-told.told back given.back-spelled).rest (i + 1) (omega arith)))

  -- where the back has CELL_PIN, the front left the count and its override
  front-uncounted : first + j ≤ 0x1B → Uncounted g middle
  unfolding kept_run
  front-uncounted low =
      all_keep (Uncounted g) (λ (u : Kept) (i : ℕ). register_taken p g (first + i) (value_in (byte_of front) i) u) j
      (λ i h k u. keeps-count p g (first + i) (value_in (byte_of front) i) (λ e. omega arith) k u)
      (kept_of s) (record { whole = sound-whole p g.words (parts-apart p g (apart s ok).registers).words; cells = refl; override = refl })

  same_count : (a value : ℕ) → first + j ≤ a → count_taken g a value ≡ count_taken then a value
  same_count a value low = go (eqb a 0x1B) refl
    where
      go : (t : Bool) → eqb a 0x1B ≡ t → count_taken g a value ≡ count_taken then a value
      go true e =
          let at = eqb-true a 0x1B e in
          let u = front-uncounted (omega arith) in
          ap (λ (c : ℕ). eqb a 0x1B && eqb (field_of cell_override g) 1 && not (eqb (digit_of cell_pin value) 0) && not (eqb (digit_of cell_pin value) c)) (sym u.cells)
          ∙ ap (λ (c : ℕ). eqb a 0x1B && eqb c 1 && not (eqb (digit_of cell_pin value) 0) && not (eqb (digit_of cell_pin value) middle.cells)) (sym u.override)
      go false e = rw e refl

  behind : stepwise (λ (u : Kept) (i : ℕ). register_taken p g (first + (j + i)) (value_in (byte_of all) (j + i)) u) back.count middle
      ≡ kept_run (byte_of back) (first + j) back.count p then middle
  unfolding kept_run
  behind =
      up-alike _ _ back.count middle
      (λ i h k.
      ap (λ (v : ℕ). register_taken p g (first + (j + i)) v k) (back-value i h) ∙ ap (λ (a : ℕ). register_taken p g a (value_in (byte_of back) i) k) (sym (add_assoc first j i))
      ∙ by_count p g then (first + j + i) (value_in (byte_of back) i) k (same_count (first + j + i) (value_in (byte_of back) i) (omega arith)))

  parted : kept_run (byte_of all) first (j + back.count) p g (kept_of s)
      ≡ stepwise (λ (u : Kept) (i : ℕ). register_taken p g (first + (j + i)) (value_in (byte_of all) (j + i)) u) back.count (kept_run (byte_of all) first j p g (kept_of s))
  unfolding kept_run
  parted = up_split (λ (u : Kept) (i : ℕ). register_taken p g (first + i) (value_in (byte_of all) i) u) j back.count (kept_of s)

  split_at : written_run s first all ≡ written_run (written_run s first front) (first + j) back
  unfolding written_run
  split_at =
      ap (with_kept s)
      (ap (λ (n : ℕ). kept_run (byte_of all) first n p g (kept_of s)) given.long ∙ parted ∙ ap (stepwise (λ (u : Kept) (i : ℕ). register_taken p g (first + (j + i)) (value_in (byte_of all) (j + i)) u) back.count) in-front ∙ behind)

pub runs-split : RunsSplit
runs-split s first all front back ok given = split_at s ok first all front back given
