-- A run that isn't refused leaves what was written, field by field, and nothing else.
use Prim.Native.Nat.{ℕ, ◌+◌, ◌-◌, ◌*◌, ◌%◌, ◌^◌, ◌≤◌, ◌<◌}
use mathlib.Core.Path.{◌≡◌, refl, sym, ap, subst, ◌∙◌}
use mathlib.Core.Bool.{Bool, true, false, ◌&&◌, false≢true}
use mathlib.Core.Logic.{◌⊎◌, ⊎_elim}
use native.Mathlib.Omega.{arith}
use lib.Dec.{eqb, leb, ltb}
use borrow.Author.Tests.{eqb-true, ne_eqb, eq-eqb, leb-true, ltb-true, le-leb, lt-ltb}
use Rattle.base.specs.Pick.{pick}
use Rattle.base.specs.Units.{in_pack}
use Rattle.base.specs.Volts.{millivolts_of}
use Rattle.base.proofs.Tests.{and-iff}
use Rattle.log_raw.specs.Raw.{Raw, byte_of}
use Rattle.state_fields.specs.Held.{field_in}
use Rattle.state_fields.specs.Words.{bits_at}
use Rattle.state_fields.proofs.Fields.{Whole}
use Rattle.state_fields.proofs.Gathers.{nth, stored}
use Rattle.state_fields.proofs.Taken.{sound-whole, taken-field}
use Rattle.state_parts.specs.declared.profile.Profile.{Profile}
use Rattle.state_parts.specs.declared.registers.Registers.{Registers}
use Rattle.state_parts.specs.declared.settings.Settings.{Settings}
use Rattle.state_parts.specs.declared.state.State.{State}
use Rattle.state_registers.specs.Writes.{count_taken, recounted}
use Rattle.state_registers.proofs.Keeps.{parts-apart}
use Rattle.state_runs.specs.Bytes.{value_in, is_written, written_code}
use Rattle.state_runs.specs.Registers.{settings_taken, bad_register, register_taken}
use Rattle.state_runs.specs.Runs.{bad_run, kept_run, kept_of, written_run}
use Rattle.state_runs.specs.declared.registers.Kept.{Kept}
use Rattle.state_runs.proofs.Keeps.{judged}
use Rattle.state_runs.proofs.Steps.{none-meets}
use Rattle.state_settings.specs.Numbered.{setting_numbers, held_of}
use Rattle.state_start.specs.Values.{start_vsysmin}
use Rattle.state_parts.specs.Pins.{vchg_of}
use Rattle.state_table.specs.Rows.{fields, cell_pin, digit_of}
use Rattle.state_table.specs.Packed.{field_at}
use Rattle.state_table.specs.declared.Access.TheVariants.{Setting, Mask}
use Rattle.state_valid.specs.Holds.{state_ok}
use Rattle.state_valid.proofs.Wholes.{apart}
use Rattle.laws_registers.specs.ReadsBack.{takes_count, LeavesAsWritten, RunsReadBack}
use Rattle.laws_registers.proofs.Gets.{up-gets, up-last}
use Rattle.laws_registers.proofs.HeldAfter.{held-recounted, held-taken}
use Rattle.laws_registers.proofs.MasksAfter.{masks-taken}
use Rattle.laws_registers.proofs.Mates.{alone_at}
use Rattle.laws_registers.proofs.Splits.{taken-whole}

-- CELL_PIN's register alone has a count
count-there : (g : Registers) (a value : ℕ) → count_taken g a value ≡ (eqb 0x1B a && count_taken g 0x1B value)
count-there g a value = go (eqb 0x1B a) refl
  where
    go : (t : Bool) → eqb 0x1B a ≡ t → count_taken g a value ≡ (t && count_taken g 0x1B value)
    go true e = ap (λ (n : ℕ). count_taken g n value) (sym (eqb-true 0x1B a e))
    go false e = let off : eqb a 0x1B ≡ false = ne_eqb a 0x1B (λ same. false≢true (sym e ∙ eq-eqb 0x1B a (sym same))) in rw off refl

both-picked : {A : Type 0} (s t : Bool) (a b : A) → pick (s && t) a b ≡ pick s (pick t a b) b
both-picked true t a b = refl
both-picked false t a b = refl

-- what a count that is taken makes of the two
recounted-sixth : (p : Profile) (cells : ℕ) (t : Settings) → held_of (recounted p cells t) 6 ≡ millivolts_of (start_vsysmin p cells)
unfolding held_of setting_numbers recounted
recounted-sixth p cells t = refl

recounted-first : (p : Profile) (cells : ℕ) (t : Settings) → (p.vchg ≡ 0 → ⊥) → held_of (recounted p cells t) 1 ≡ millivolts_of (in_pack (vchg_of p) cells)
unfolding held_of setting_numbers recounted
recounted-first p cells t coded = ap (λ (b : Bool). millivolts_of (pick b t.vreg (in_pack (vchg_of p) cells))) (ne_eqb p.vchg 0 coded)

module _ (s : State) (ok : state_ok s ≡ true) (first : ℕ) (raw : Raw) (fine : bad_run (byte_of raw) first raw.count s.profile ≡ false) where
  abbrev p : Profile
  p = s.profile

  abbrev g : Registers
  g = s.registers

  abbrev value : ℕ → ℕ
  value i = value_in (byte_of raw) i

  abbrev step : Kept → ℕ → Kept
  step u i = register_taken p g (first + i) (value i) u

  abbrev final : Kept
  final = kept_run (byte_of raw) first raw.count p g (kept_of s)

  stored-after : (i : ℕ) → i < 147 → stored (nth i) ≡ true → field_in (nth i) final.words ≡ pick (is_written first raw.count (nth i)) (written_code (byte_of raw) first (nth i)) (field_in (nth i) g.words)
  unfolding kept_run register_taken
  stored-after i h st =
      (up-gets (λ (k : Kept). field_in (nth i) k.words) (λ (k : Kept). Whole k.words) step first (nth i).address (λ (m old : ℕ). digit_of (nth i) (value m)) raw.count
      (λ m l u whole. (
        taken-whole p (first + m) (value m) u.words whole,
        taken-field p (first + m) (value m) u.words whole i h
            ∙ ap (λ (b : Bool). pick (b && eqb (nth i).address (first + m)) (digit_of (nth i) (value m)) (field_in (nth i) u.words)) st,
      )) (kept_of s) (sound-whole p g.words (parts-apart p g (apart s ok).registers).words)).1

  cells-after : final.cells ≡ pick (takes_count s first raw) (written_code (byte_of raw) first cell_pin) g.cells
  unfolding kept_run register_taken
  cells-after =
      (up-gets (λ (k : Kept). k.cells) (λ (k : Kept). Unit {0}) step first 0x1B (λ (m old : ℕ). pick (count_taken g 0x1B (value m)) (digit_of cell_pin (value m)) old) raw.count
      (λ m l u _. (
        tt,
        ap (λ (b : Bool). pick b (digit_of cell_pin (value m)) u.cells) (count-there g (first + m) (value m))
            ∙ both-picked (eqb 0x1B (first + m)) (count_taken g 0x1B (value m)) (digit_of cell_pin (value m)) u.cells,
      )) (kept_of s) tt).1
      ∙ sym (both-picked (is_written first raw.count cell_pin) (count_taken g 0x1B (value (0x1B - first))) (written_code (byte_of raw) first cell_pin) g.cells)

  -- where the run takes no count, none of its registers does
  none-counted : takes_count s first raw ≡ false → (m : ℕ) → m < raw.count → count_taken g (first + m) (value m) ≡ false
  none-counted none m l = count-there g (first + m) (value m) ∙ go (eqb 0x1B (first + m)) refl
    where
      go : (t : Bool) → eqb 0x1B (first + m) ≡ t → (t && count_taken g 0x1B (value m)) ≡ false
      go true e =
          let here = eqb-true 0x1B (first + m) e in
          let place : 0x1B - first ≡ m = omega arith in
          let there : is_written first raw.count cell_pin ≡ true = rw (le-leb first 0x1B (omega arith), lt-ltb 0x1B (first + raw.count) (omega arith)) refl in
          ap (λ (k : ℕ). count_taken g 0x1B (value k)) (sym place) ∙ sym (ap (λ (b : Bool). b && count_taken g 0x1B (value (0x1B - first))) there) ∙ none
      go false e = refl

  module _ (i n k : ℕ) (h : i < 147) (e : (nth i).access ≡ Setting n k) (spared : (takes_count s first raw ≡ false) ⊎ (((n ≡ 1 → ⊥) ⊎ (s.profile.vchg ≡ 0)) × (n ≡ 6 → ⊥))) where
    spares : (m : ℕ) → m < raw.count → (t : Settings) → held_of (pick (count_taken g (first + m) (value m)) (recounted p (digit_of cell_pin (value m)) t) t) n ≡ held_of t n
    spares m l t =
        ⊎_elim (λ none. ap (λ (b : Bool). held_of (pick b (recounted p (digit_of cell_pin (value m)) t) t) n) (none-counted none m l))
        (λ others. go others (count_taken g (first + m) (value m))) spared
      where
        go : ((n ≡ 1 → ⊥) ⊎ (s.profile.vchg ≡ 0)) × (n ≡ 6 → ⊥) → (b : Bool) → held_of (pick b (recounted p (digit_of cell_pin (value m)) t) t) n ≡ held_of t n
        go others true = held-recounted p (digit_of cell_pin (value m)) t n others.0 others.1 (alone_at p i n k h e).some (alone_at p i n k h e).known
        go others false = refl

    settings-after : held_of final.settings n ≡ pick (is_written first raw.count (nth i)) (written_code (byte_of raw) first (nth i) * k) (held_of s.settings n)
    unfolding kept_run register_taken bad_run
    settings-after =
        (up-gets (λ (u : Kept). held_of u.settings n) (λ (u : Kept). Unit {0}) step first (nth i).address (λ (m old : ℕ). digit_of (nth i) (value m) * k) raw.count
        (λ m l u _. (
          tt,
          spares m l (settings_taken p (first + m) (value m) u.settings)
              ∙ held-taken p (first + m) (value m) i n k h e (none-meets (λ (x : ℕ). bad_register p (first + x) (value x)) raw.count fine m l) u.settings,
        )) (kept_of s) tt).1

  -- where the run takes a count, it is the register at 0x1B that does, and those behind it leave VREG and VSYSMIN
  module _ (counts : takes_count s first raw ≡ true) where
    abbrev m : ℕ
    m = 0x1B - first

    both : (is_written first raw.count cell_pin ≡ true) × (count_taken g 0x1B (value m) ≡ true)
    both = (and-iff (is_written first raw.count cell_pin) (count_taken g 0x1B (value m))).0 counts

    there : (first ≤ 0x1B) × (0x1B < first + raw.count)
    there = let tests = (and-iff (leb first 0x1B) (ltb 0x1B (first + raw.count))).0 both.0 in (leb-true first 0x1B tests.0, ltb-true 0x1B (first + raw.count) tests.1)

    taken-there : (u : Kept) → (step u m).settings ≡ recounted p (digit_of cell_pin (value m)) (settings_taken p (first + m) (value m) u.settings)
    unfolding register_taken
    taken-there u =
        let here : first + m ≡ 0x1B = omega (arith, there.0) in
        let count : count_taken g (first + m) (value m) ≡ true = ap (λ (a : ℕ). count_taken g a (value m)) here ∙ both.1 in
        ap (λ (b : Bool). pick b (recounted p (digit_of cell_pin (value m)) (settings_taken p (first + m) (value m) u.settings)) (settings_taken p (first + m) (value m) u.settings)) count

    behind : (i n k : ℕ) (h : i < 147) (e : (nth i).access ≡ Setting n k) → (nth i).address < 0x1B → (j : ℕ) → m < j → j < raw.count → (u : Kept) → held_of (step u j).settings n ≡ held_of u.settings n
    unfolding register_taken bad_run
    behind i n k h e low j later l u =
        let past : 0x1B < first + j = omega (arith, there.0) in
        let none : count_taken g (first + j) (value j) ≡ false =
        count-there g (first + j) (value j) ∙ ap (λ (b : Bool). b && count_taken g 0x1B (value j)) (ne_eqb 0x1B (first + j) (λ q. omega arith)) in
        ap (λ (b : Bool). held_of (pick b (recounted p (digit_of cell_pin (value j)) (settings_taken p (first + j) (value j) u.settings)) (settings_taken p (first + j) (value j) u.settings)) n) none
        ∙ held-taken p (first + j) (value j) i n k h e (none-meets (λ (x : ℕ). bad_register p (first + x) (value x)) raw.count fine j l) u.settings
        ∙ ap (λ (b : Bool). pick b (digit_of (nth i) (value j) * k) (held_of u.settings n)) (ne_eqb (nth i).address (first + j) (λ q. omega (arith, low)))

    -- the count itself
    cells_are : final.cells ≡ digit_of cell_pin (value m)
    cells_are = cells-after ∙ ap (λ (b : Bool). pick b (written_code (byte_of raw) first cell_pin) g.cells) counts

    inside : m < raw.count
    inside = omega (arith, there.0, there.1)

    vsysmin-after : held_of final.settings 6 ≡ millivolts_of (start_vsysmin p final.cells)
    unfolding kept_run fields
    vsysmin-after =
        up-last (λ (u : Kept). held_of u.settings 6) step m (millivolts_of (start_vsysmin p (digit_of cell_pin (value m)))) raw.count inside
        (λ u. ap (λ (t : Settings). held_of t 6) (taken-there u) ∙ recounted-sixth p (digit_of cell_pin (value m)) (settings_taken p (first + m) (value m) u.settings))
        (behind 1 6 20 (omega arith) refl (omega arith)) (kept_of s)
        ∙ ap (λ (n : ℕ). millivolts_of (start_vsysmin p n)) (sym cells_are)

    vreg-after : (p.vchg ≡ 0 → ⊥) → held_of final.settings 1 ≡ millivolts_of (in_pack (vchg_of p) final.cells)
    unfolding kept_run fields
    vreg-after coded =
        up-last (λ (u : Kept). held_of u.settings 1) step m (millivolts_of (in_pack (vchg_of p) (digit_of cell_pin (value m)))) raw.count inside
        (λ u. ap (λ (t : Settings). held_of t 1) (taken-there u) ∙ recounted-first p (digit_of cell_pin (value m)) (settings_taken p (first + m) (value m) u.settings) coded)
        (behind 7 1 10 (omega arith) refl (omega arith)) (kept_of s)
        ∙ ap (λ (n : ℕ). millivolts_of (in_pack (vchg_of p) n)) (sym cells_are)

  -- a count that is taken leaves the masks
  masks-stand : (b : Bool) (cells : ℕ) (t : Settings) → (pick b (recounted p cells t) t).masks ≡ t.masks
  unfolding recounted
  masks-stand true cells t = refl
  masks-stand false cells t = refl

  masks-after : (i from count : ℕ) → i < 147 → (nth i).access ≡ Mask from count
      → bits_at from count final.settings.masks
      ≡ pick (is_written first raw.count (nth i)) (pick (eqb (written_code (byte_of raw) first (nth i)) 0) 0 (2 ^ count - 1)) (bits_at from count s.settings.masks)
  unfolding kept_run register_taken
  masks-after i from count h e =
      (up-gets (λ (u : Kept). bits_at from count u.settings.masks) (λ (u : Kept). Unit {0}) step first (nth i).address
      (λ (m old : ℕ). pick (eqb (digit_of (nth i) (value m)) 0) 0 (2 ^ count - 1)) raw.count
      (λ m l u _. (
        tt,
        ap (bits_at from count) (masks-stand (count_taken g (first + m) (value m)) (digit_of cell_pin (value m)) (settings_taken p (first + m) (value m) u.settings))
            ∙ masks-taken p (first + m) (value m) i from count h e u.settings,
      )) (kept_of s) tt).1

pub runs-read-back : RunsReadBack
unfolding field_at written_run
runs-read-back s first raw t ok e =
    let j = judged s first raw t e in
    subst (LeavesAsWritten s first raw) (sym j.after) (record {
      stored = λ i st. stored-after s ok first raw j.held (i % 147) (omega arith) st;
      settings = λ i n step q spared. settings-after s ok first raw j.held (i % 147) n step (omega arith) q spared;
      masks = λ i from count q. masks-after s ok first raw j.held (i % 147) from count (omega arith) q;
      vsysmin = vsysmin-after s ok first raw j.held;
      vreg = vreg-after s ok first raw j.held;
      others = refl;
      cells = cells-after s ok first raw j.held;
    })
