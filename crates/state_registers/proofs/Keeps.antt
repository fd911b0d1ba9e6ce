-- A write that isn't refused and a reset keep the state's parts holding what they may.
use Prim.Native.Nat.{ℕ, zero, suc, ◌%◌, ◌^◌, ◌≤◌, ◌<◌}
use mathlib.Core.Path.{◌≡◌, refl, sym, ap, subst, ◌∙◌}
use mathlib.Core.Bool.{Bool, true, false, not, ◌&&◌, false≢true}
use native.Mathlib.Omega.{arith}
use lib.Dec.{leb, eqb}
use borrow.Author.Tests.{le-leb, eqb-true, ne_eqb}
use Rattle.base.specs.Pick.{pick}
use Rattle.base.specs.Units.{in_pack}
use Rattle.base.specs.declared.units.PackMv.{PackMv}
use Rattle.base.proofs.Tests.{and-iff}
use Rattle.state_fields.specs.Held.{field_in, field_of, is_set, gathered, taken_by, restored_by, words_ok, without_overrides}
use Rattle.state_fields.specs.Words.{with_word, put_in}
use Rattle.state_fields.proofs.Gathers.{nth, stored, gathered-field}
use Rattle.state_fields.proofs.Taken.{sound-whole, taken-field, taken-sound, restored-sound, cleared-sound}
use Rattle.state_table.specs.Rows.{Field, fields, fsw, cell_pin, cell_override, digit_of, frequency_ok}
use Rattle.state_parts.specs.Pins.{vchg_of}
use Rattle.state_parts.specs.With.{with_volts, with_words}
use Rattle.state_start.specs.Values.{start_vreg, start_vsysmin}
use Rattle.state_parts.specs.declared.profile.Profile.{Profile}
use Rattle.state_parts.specs.declared.registers.Registers.{Registers}
use Rattle.state_parts.specs.declared.settings.Settings.{Settings}
use Rattle.state_parts.specs.declared.state.State.{State}
use Rattle.state_parts.specs.declared.words.Words.{Words}
use Rattle.state_settings.specs.Kept.{settings_ok}
use Rattle.state_settings.specs.Numbered.{store_of}
use Rattle.state_settings.proofs.Stores.{store-passes}
use Rattle.state_valid.specs.Holds.{registers_ok, state_ok}
use Rattle.state_valid.proofs.Begins.{vreg-may, vsysmin-may, start-settings-pass, start-cycle-pass, start-watchdog-pass}
use Rattle.state_valid.proofs.Bounds.{ProfileBounds, profile-bounds, few-cells}
use Rattle.state_valid.proofs.Wholes.{Holding, apart, whole}
use Rattle.state_registers.specs.Resets.{reset_registers, reset_of}
use Rattle.state_registers.specs.Writes.{count_taken, recounted, written_registers, written_to}

-- what is chosen passes if each of the two does
pub pick-passes : {A : Type 0} (test : A → Bool) (t : Bool) (one other : A) → (t ≡ true → test one ≡ true) → test other ≡ true → test (pick t one other) ≡ true
pick-passes test true one other h k = h refl
pick-passes test false one other h k = k

module _ (p : Profile) (b : ProfileBounds p) (cells : ℕ) (least : 1 ≤ cells) (most : cells ≤ 7) (t : Settings) (e : settings_ok p t ≡ true) where
  abbrev counted : Settings
  counted = store_of t 6 (start_vsysmin p cells).0

  counted-passes : settings_ok p counted ≡ true
  counted-passes = store-passes p t 6 (start_vsysmin p cells).0 (vsysmin-may p cells b.vchg b.ichg most) e

  -- the settings at the new count, with this VREG
  abbrev anew : PackMv → Settings
  anew volts = with_volts t volts (start_vsysmin p cells)

  left : anew t.vreg ≡ counted
  unfolding store_of
  left = refl

  moved : anew (start_vreg p cells) ≡ store_of counted 1 (start_vreg p cells).0
  unfolding store_of
  moved = refl

  full : eqb p.vchg 0 ≡ false → in_pack (vchg_of p) cells ≡ start_vreg p cells
  unfolding start_vreg
  full no-fault = simp (no-fault, ne_eqb cells 0 (λ z. omega arith))

  by-fault : (f : Bool) → eqb p.vchg 0 ≡ f → settings_ok p (anew (pick f t.vreg (in_pack (vchg_of p) cells))) ≡ true
  by-fault true fault = ap (settings_ok p) left ∙ counted-passes
  by-fault false fault =
      ap (λ (v : PackMv). settings_ok p (anew v)) (full fault) ∙ ap (settings_ok p) moved
      ∙ store-passes p counted 1 (start_vreg p cells).0 (vreg-may p cells b.vchg b.ichg most) counted-passes

  pub recount-passes : settings_ok p (recounted p cells t) ≡ true
  unfolding recounted
  recount-passes = by-fault (eqb p.vchg 0) refl

-- the parts of a test of the registers
pub record Parts (p : Profile) (g : Registers) : Type 0 where
  pub words : words_ok p g.words ≡ true
  pub frequency : frequency_ok p (field_of fsw g) ≡ true
  pub few : leb g.cells 7 ≡ true

pub parts-apart : (p : Profile) (g : Registers) → registers_ok p g ≡ true → Parts p g
unfolding registers_ok
parts-apart p g e =
    let k = (and-iff (words_ok p g.words && frequency_ok p (field_of fsw g)) (leb g.cells 7)).0 e in
    let l = (and-iff (words_ok p g.words) (frequency_ok p (field_of fsw g))).0 k.0 in
    record { words = l.0; frequency = l.1; few = k.1 }

pub parts_whole : (p : Profile) (g : Registers) → Parts p g → registers_ok p g ≡ true
unfolding registers_ok
parts_whole p g k = simp (k.words, k.frequency, k.few)

-- FSW is the table's field 62
fsw-nth : nth 62 ≡ fsw
unfolding fields
fsw-nth = refl

pub fsw-written : (p : Profile) (a b : ℕ) (w : Words) → words_ok p w ≡ true → field_in fsw (taken_by p a b w) ≡ pick (eqb 0x16 a) (digit_of fsw b) (field_in fsw w)
fsw-written p a b w ok =
    subst (λ (f : Field). field_in f (taken_by p a b w) ≡ pick (stored f && eqb f.address a) (digit_of f b) (field_in f w)) fsw-nth
    (taken-field p a b w (sound-whole p w ok) 62 (omega arith))

-- the overrides are in another word
fsw-cleared : (w : Words) → field_in fsw (without_overrides w) ≡ field_in fsw w
unfolding without_overrides put_in with_word
fsw-cleared w = refl

fsw-restored : (p : Profile) (w : Words) → field_in fsw (restored_by p w) ≡ 1
unfolding restored_by
fsw-restored p w =
    subst (λ (f : Field). field_in f (gathered p (λ (g : Field). pick g.restored g.reset (field_in g w))) ≡ pick (stored f) (pick f.restored f.reset (field_in f w) % 2 ^ f.width) 0) fsw-nth
    (gathered-field p (λ (g : Field). pick g.restored g.reset (field_in g w)) 62 (omega arith))

not-zero : (n : ℕ) → not (eqb n 0) ≡ true → 1 ≤ n
not-zero zero e = absurd (false≢true e)
not-zero (suc n) e = omega arith

-- a count that is taken isn't 0
pub some-count : (g : Registers) (a b : ℕ) → count_taken g a b ≡ true → 1 ≤ digit_of cell_pin b
some-count g a b taken =
    let some = not (eqb (digit_of cell_pin b) 0) in
    let k = (and-iff (eqb a 0x1B && is_set cell_override g && some) (not (eqb (digit_of cell_pin b) g.cells))).0 taken in
    not-zero (digit_of cell_pin b) ((and-iff (eqb a 0x1B && is_set cell_override g) some).0 k.0).1

reset-registers-pass : (p : Profile) (g : Registers) → registers_ok p g ≡ true → registers_ok p (reset_registers p g) ≡ true
unfolding reset_registers
reset-registers-pass p g e =
    parts_whole p (reset_registers p g) (record {
      words = restored-sound p g.words;
      frequency = ap (frequency_ok p) (fsw-restored p g.words);
      few = (parts-apart p g e).few;
    })

-- the overrides cleared
pub cleared-registers : (p : Profile) (g : Registers) → registers_ok p g ≡ true → registers_ok p (with_words g (without_overrides g.words)) ≡ true
cleared-registers p g e =
    let k = parts-apart p g e in
    parts_whole p (with_words g (without_overrides g.words)) (record {
      words = cleared-sound p g.words k.words;
      frequency = ap (frequency_ok p) (fsw-cleared g.words) ∙ k.frequency;
      few = k.few;
    })

module _ (s : State) (e : state_ok s ≡ true) where
  abbrev parts : Holding s
  parts = apart s e

  module _ (a b : ℕ) (low : 0x15 ≤ a) (high : a ≤ 0x1C) (small : b < 256) (legal : a ≡ 0x16 → frequency_ok s.profile (digit_of fsw b) ≡ true) where
    abbrev count : Bool
    count = count_taken s.registers a b

    written-passes : registers_ok s.profile (written_registers s.profile s.registers a b) ≡ true
    unfolding written_registers
    written-passes =
        let p = s.profile in
        let g = s.registers in
        let k = parts-apart p g parts.registers in
        parts_whole p (written_registers p g a b) (record {
          words = taken-sound p a b g.words k.words;
          frequency = ap (frequency_ok p) (fsw-written p a b g.words k.words)
              ∙ pick-passes (frequency_ok p) (eqb 0x16 a) (digit_of fsw b) (field_of fsw g) (λ same. legal (sym (eqb-true 0x16 a same))) k.frequency;
          few = pick-passes (λ (n : ℕ). leb n 7) count (digit_of cell_pin b) g.cells (λ _. le-leb (digit_of cell_pin b) 7 (omega arith)) k.few;
        })

    pub write-passes : state_ok (written_to s a b) ≡ true
    unfolding written_to
    write-passes =
        let p = profile-bounds s.profile parts.profile in
        whole (written_to s a b) (record {
          profile = parts.profile;
          settings = pick-passes (settings_ok s.profile) count (recounted s.profile (digit_of cell_pin b) s.settings) s.settings
              (λ taken. recount-passes s.profile p (digit_of cell_pin b) (some-count s.registers a b taken) (omega arith) s.settings parts.settings) parts.settings;
          registers = written-passes;
          cycle = parts.cycle;
          watchdog = parts.watchdog;
          sample = parts.sample;
          flags = parts.flags;
        })

  pub reset-passes : state_ok (reset_of s) ≡ true
  unfolding reset_of
  reset-passes =
      let p = profile-bounds s.profile parts.profile in
      whole (reset_of s) (record {
        profile = parts.profile;
        settings = start-settings-pass s.profile s.registers.cells p.vchg p.ichg (few-cells s.profile s.registers parts.registers);
        registers = reset-registers-pass s.profile s.registers parts.registers;
        cycle = start-cycle-pass s.profile s.phase;
        watchdog = start-watchdog-pass s.profile;
        sample = parts.sample;
        flags = parts.flags;
      })
