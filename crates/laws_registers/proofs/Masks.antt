-- A run of a mask register's byte is the set of setting 14 that the whole byte stands for; and not of a single mask where bits 0 and 1 differ.
use Prim.Native.Nat.{ℕ, ◌%◌, ◌^◌, ◌<◌}
use mathlib.Core.Path.{◌≡◌, refl, sym, ap, subst, ◌∙◌}
use mathlib.Core.Bool.{Bool, true, false, false≢true}
use native.Mathlib.Omega.{arith}
use lib.Dec.{eqb}
use borrow.Author.Tests.{ne_eqb}
use Rattle.base.specs.Pick.{pick}
use Rattle.base.specs.Told.{Told, accepted, refused}
use Rattle.log_raw.specs.Raw.{Raw, byte_of}
use Rattle.log_raw.specs.Struct.{raw_of}
use Rattle.report_registers.specs.Reads.{code_of}
use Rattle.state_fields.specs.Held.{field_of, taken_by}
use Rattle.state_fields.specs.Words.{put_at}
use Rattle.state_fields.proofs.Fields.{field-mod}
use Rattle.state_fields.proofs.Puts.{put_small, put-below}
use Rattle.state_fields.proofs.Gathers.{nth}
use Rattle.state_parts.specs.With.{with_settings}
use Rattle.state_parts.specs.declared.profile.Profile.{Profile}
use Rattle.state_parts.specs.declared.settings.Settings.{Settings}
use Rattle.state_parts.specs.declared.state.State.{State}
use Rattle.state_runs.specs.Registers.{settings_taken, bad_register, register_taken}
use Rattle.state_runs.specs.Runs.{outside, halves, illegal_frequency, bad_run, kept_of, with_kept, written_run, write_run_of, resets, serves}
use Rattle.state_runs.proofs.Settings.{masks-may, masks-low}
use Rattle.state_settings.specs.Numbered.{store_of}
use Rattle.state_settings.proofs.Stores.{store-passes}
use Rattle.state_table.specs.Rows.{Field, fields, fields_of, bit_of, digit_of, is_stored}
use Rattle.state_table.specs.Packed.{field_at}
use Rattle.state_valid.specs.Holds.{state_ok}
use Rattle.state_valid.proofs.Wholes.{apart, whole}
use Rattle.step_kinds.specs.Changes.{Changed}
use Rattle.step_kinds.specs.Plain.{set_of, acted_of, after_run, run_from}
use Rattle.laws_registers.specs.Bytes.{OneByte}
use Rattle.laws_registers.specs.Fields.{FieldBytes}
use Rattle.laws_registers.specs.Masks.{bit_at, masks_low, masks_high, MaskByte, charge_mask, MasksAsSet, MasksTurnAsSet, NotSingleMasks, MasksMayDiffer}
use Rattle.laws_registers.proofs.Bytes.{value-is, byte-taken, byte-judged}
use Rattle.laws_registers.proofs.Fields.{turns_as}
use Rattle.laws_registers.proofs.MaskBits.{low-masks, high-masks, low_small, high_small, low_alike}
use Rattle.laws_registers.proofs.Places.{by_number, bits-apart}
use Rattle.laws_registers.proofs.Words.{stored-code, words-held}

-- What is told of a register by the table, whatever is written: it is one byte inside the map, none of its fields is judged, and none acts.
record Open (p : Profile) (a : ℕ) : Type 0 where
  inside : outside a 1 ≡ false
  whole : halves p a 1 ≡ false
  legal : (byte : ℕ → ℕ) → illegal_frequency byte a 1 p ≡ false
  fine : (value : ℕ) → bad_register p a value ≡ false
  uncounted : eqb a 0x1B ≡ false
  quiet : (raw : Raw) → (resets a raw ≡ false) × (serves a raw ≡ false)

open-low : (p : Profile) → Open p 0x22
unfolding fields fields_of bad_register resets serves
open-low p = record { inside = refl; whole = refl; legal = λ byte. refl; fine = λ value. refl; uncounted = refl; quiet = λ raw. (refl, refl) }

open-high : (p : Profile) → Open p 0x23
unfolding fields fields_of bad_register resets serves
open-high p = record { inside = refl; whole = refl; legal = λ byte. refl; fine = λ value. refl; uncounted = refl; quiet = λ raw. (refl, refl) }

-- the settings of each
set-low : (p : Profile) (byte : ℕ) (t : Settings) → settings_taken p 0x22 byte t ≡ store_of t 14 (masks_low byte t.masks)
unfolding settings_taken fields_of fields store_of
set-low p byte t = ap (λ (n : ℕ). store_of t 14 n) (low-masks byte t.masks)

set-high : (p : Profile) (byte : ℕ) (t : Settings) → t.masks < 4096 → settings_taken p 0x23 byte t ≡ store_of t 14 (masks_high byte t.masks)
unfolding settings_taken fields_of fields store_of
set-high p byte t small = ap (λ (n : ℕ). store_of t 14 n) (high-masks byte t.masks small)

-- a run at either, of a byte by which setting 14 becomes `new`
module _ (s : State) (ok : state_ok s ≡ true) (a : ℕ) (opened : Open s.profile a) (raw : Raw) (given : MaskByte s a raw) (new : ℕ) (small : new < 4096)
    (sets : settings_taken s.profile a (byte_of raw 0) s.settings ≡ store_of s.settings 14 new) where
  abbrev p : Profile
  p = s.profile

  abbrev after : State
  after = with_settings s (store_of s.settings 14 new)

  words-stand : taken_by p a (byte_of raw 0) s.registers.words ≡ s.registers.words
  words-stand =
      words-held s ok a (byte_of raw 0)
      (λ j l st there.
      subst (λ (f : Field). f.address ≡ a → is_stored f.access ≡ true → digit_of f (byte_of raw 0) ≡ field_of f s.registers) (by_number j l) (given.stored j) there st)

  written : written_run s a raw ≡ after
  unfolding written_run register_taken
  written = ap (with_kept s) (byte-taken raw given.one p a s.registers (kept_of s)) ∙ rw (opened.uncounted, sets, words-stand) refl

  told : write_run_of s a raw ≡ accepted after
  unfolding write_run_of
  told =
      let one = given.one.one in
      let inside : outside a raw.count ≡ false = ap (outside a) one ∙ opened.inside in
      let whole : halves p a raw.count ≡ false = ap (halves p a) one ∙ opened.whole in
      let legal : illegal_frequency (byte_of raw) a raw.count p ≡ false = ap (λ (n : ℕ). illegal_frequency (byte_of raw) a n p) one ∙ opened.legal (byte_of raw) in
      let fine : bad_run (byte_of raw) a raw.count p ≡ false = byte-judged raw given.one p a ∙ opened.fine (byte_of raw 0) in
      simp (given.one.spelled, inside, whole, legal, fine, written)

  as-set : run_from s a raw ≡ set_of s 14 new
  unfolding run_from set_of acted_of
  as-set =
      let none = opened.quiet raw in
      ap (λ (t : Told State). after_run t a raw) told ∙ simp (none.0, none.1, masks-may p new (omega arith))

pub masks-as-set : MasksAsSet
masks-as-set =
    record {
      low = λ s raw ok given.
          let held : s.settings.masks < 4096 = masks-low s.profile s.settings (apart s ok).settings in
          as-set s ok 0x22 (open-low s.profile) raw given (masks_low (byte_of raw 0) s.settings.masks) (low_small (byte_of raw 0) s.settings.masks held) (set-low s.profile (byte_of raw 0) s.settings);
      high = λ s raw ok given.
          let held : s.settings.masks < 4096 = masks-low s.profile s.settings (apart s ok).settings in
          as-set s ok 0x23 (open-high s.profile) raw given (masks_high (byte_of raw 0) s.settings.masks) (high_small (byte_of raw 0) s.settings.masks) (set-high s.profile (byte_of raw 0) s.settings held);
    }

pub masks-turn-as-set : MasksTurnAsSet
masks-turn-as-set =
    record {
      low = λ s raw given. turns_as s 0x22 raw 14 (masks_low (byte_of (raw_of raw) 0) s.settings.masks) (λ ok. masks-as-set.low s (raw_of raw) ok given);
      high = λ s raw given. turns_as s 0x23 raw 14 (masks_high (byte_of (raw_of raw) 0) s.settings.masks) (λ ok. masks-as-set.high s (raw_of raw) ok given);
    }

-- CHARGE_MASK is the table's field 125, and not stored
charge-row : nth 125 ≡ charge_mask
unfolding fields
charge-row = refl

-- what a set of setting 14 leaves
abbrev masks_in : Told Changed → ℕ
masks_in (accepted c) = c.state.settings.masks
masks_in (refused number) = number

set-masks : (s : State) (n : ℕ) → n < 4096 → masks_in (set_of s 14 n) ≡ n
unfolding set_of store_of
set-masks s n small = simp (masks-may s.profile n (omega arith))

module _ (s : State) (code : ℕ) (raw : Raw) (ok : state_ok s ≡ true) (given : FieldBytes s charge_mask code raw) where
  one-byte : OneByte raw
  unfolding fields fields_of
  one-byte = record { spelled = given.spelled; one = given.whole }

  -- its other bits are as they are held
  as_byte : MaskByte s 0x22 raw
  unfolding field_at
  as_byte =
      record {
        one = one-byte;
        stored = λ i there st.
            let f = nth (i % 147) in
            let other : i % 147 ≡ 125 → ⊥ = λ same. false≢true (ap (λ (g : Field). is_stored g.access) (sym charge-row) ∙ ap (λ (k : ℕ). is_stored (nth k).access) (sym same) ∙ st) in
            let apart-bits : bit_of f ≡ bit_of charge_mask → ⊥ = λ e. bits-apart 125 (i % 147) (omega arith) (omega arith) other (e ∙ ap bit_of (sym charge-row)) in
            ap (digit_of f) (sym (value-is raw one-byte)) ∙ given.each i there
            ∙ ap (λ (b : Bool). pick b code (code_of s f) % 2 ^ f.width) (ne_eqb (bit_of f) (bit_of charge_mask) apart-bits)
            ∙ ap (λ (x : ℕ). x % 2 ^ f.width) (stored-code s f st) ∙ field-mod f s.registers;
      }

  alike : run_from s 0x22 raw ≡ set_of s 14 (put_at 6 1 code s.settings.masks) → bit_at 0 s.settings.masks ≡ bit_at 1 s.settings.masks
  alike e =
      let n = s.settings.masks in
      let held : n < 4096 = masks-low s.profile s.settings (apart s ok).settings in
      let byte = byte_of raw 0 in
      let same : masks_low byte n ≡ put_at 6 1 code n =
      sym (set-masks s (masks_low byte n) (low_small byte n held)) ∙ ap masks_in (sym (masks-as-set.low s raw ok as_byte) ∙ e)
      ∙ set-masks s (put_at 6 1 code n) (put_small 6 1 code n 12 (omega arith) held) in
      sym (put-below 6 1 code n 0 1 (omega arith)) ∙ ap (bit_at 0) (sym same) ∙ low_alike byte n ∙ ap (bit_at 1) same ∙ put-below 6 1 code n 1 1 (omega arith)

pub not-single-masks : NotSingleMasks
not-single-masks s code raw ok differ given e = differ (alike s code raw ok given e)

pub masks-may-differ : MasksMayDiffer
unfolding set_of store_of
masks-may-differ s ok =
    let parts = apart s ok in
    let may = masks-may s.profile 1 (omega arith) in (
      simp may,
      whole (with_settings s (store_of s.settings 14 1)) (record {
        profile = parts.profile;
        settings = store-passes s.profile s.settings 14 1 may parts.settings;
        registers = parts.registers;
        cycle = parts.cycle;
        watchdog = parts.watchdog;
        sample = parts.sample;
        flags = parts.flags;
      }),
      λ e. omega arith,
    )
