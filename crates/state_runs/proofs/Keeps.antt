-- A run that isn't refused keeps a state holding what it may.
use Prim.Native.Nat.{ℕ, ◌+◌, ◌-◌, ◌<◌}
use mathlib.Core.Path.{◌≡◌, refl, sym, ap, subst, ◌∙◌}
use mathlib.Core.Bool.{Bool, true, false, not, ◌&&◌}
use native.Mathlib.Omega.{arith}
use lib.Dec.{leb, eqb}
use borrow.Author.Tests.{le-leb, lt-ltb, eqb-true, not-false}
use Rattle.base.specs.Pick.{pick}
use Rattle.base.specs.Told.{accepted, refused}
use Rattle.log_raw.specs.Raw.{Raw, byte_of, has_spelling}
use Rattle.state_fields.specs.Held.{field_in}
use Rattle.state_fields.proofs.Taken.{taken-sound}
use Rattle.state_parts.specs.declared.profile.Profile.{Profile}
use Rattle.state_parts.specs.declared.registers.Registers.{Registers}
use Rattle.state_parts.specs.declared.state.State.{State}
use Rattle.state_registers.specs.Writes.{count_taken, recounted}
use Rattle.state_registers.proofs.Keeps.{pick-passes, Parts, parts-apart, parts_whole, fsw-written, recount-passes, some-count}
use Rattle.state_settings.specs.Kept.{settings_ok}
use Rattle.state_table.specs.Rows.{fsw, cell_pin, digit_of, frequency_ok}
use Rattle.state_valid.specs.Holds.{state_ok}
use Rattle.state_valid.proofs.Bounds.{ProfileBounds, profile-bounds}
use Rattle.state_valid.proofs.Wholes.{Holding, apart, whole}
use Rattle.state_runs.specs.Bytes.{value_in, is_written, written_code}
use Rattle.state_runs.specs.Registers.{settings_taken, bad_register, register_taken}
use Rattle.state_runs.specs.Runs.{outside, halves, illegal_frequency, bad_run, kept_run, kept_of, written_run, write_run_of}
use Rattle.state_runs.specs.declared.registers.Kept.{Kept}
use Rattle.state_runs.proofs.Settings.{settings-keep}
use Rattle.state_runs.proofs.Steps.{none-meets, all_keep}

-- what runs change holds what it may
pub record KeptOk (p : Profile) (k : Kept) : Type 0 where
  pub settings : settings_ok p k.settings ≡ true
  pub registers : Parts p (record { words = k.words; cells = k.cells })

module _ (p : Profile) (b : ProfileBounds p) (before : Registers) (a value : ℕ) (fine : bad_register p a value ≡ false) (legal : a ≡ 0x16 → frequency_ok p (digit_of fsw value) ≡ true) where
  pub register-keeps : (k : Kept) → KeptOk p k → KeptOk p (register_taken p before a value k)
  unfolding register_taken
  register-keeps k ok =
      let count = count_taken before a value in
      let given = settings_taken p a value k.settings in
      let passes : settings_ok p given ≡ true = settings-keep p a value fine k.settings ok.settings in
      let g = ok.registers in
      record {
        settings = pick-passes (settings_ok p) count (recounted p (digit_of cell_pin value) given) given
            (λ taken. recount-passes p b (digit_of cell_pin value) (some-count before a value taken) (omega arith) given passes) passes;
        registers = record {
          words = taken-sound p a value k.words g.words;
          frequency = ap (frequency_ok p) (fsw-written p a value k.words g.words)
              ∙ pick-passes (frequency_ok p) (eqb 0x16 a) (digit_of fsw value) (field_in fsw k.words) (λ same. legal (sym (eqb-true 0x16 a same))) g.frequency;
          few = pick-passes (λ (n : ℕ). leb n 7) count (digit_of cell_pin value) k.cells (λ _. le-leb (digit_of cell_pin value) 7 (omega arith)) g.few;
        };
      }

-- what is known of a run that isn't refused
pub record Judged (s : State) (first : ℕ) (raw : Raw) (t : State) : Type 0 where
  pub spelled : has_spelling raw ≡ true
  pub inside : outside first raw.count ≡ false
  pub whole : halves s.profile first raw.count ≡ false
  pub legal : illegal_frequency (byte_of raw) first raw.count s.profile ≡ false
  pub held : bad_run (byte_of raw) first raw.count s.profile ≡ false
  pub after : t ≡ written_run s first raw

pub judged : (s : State) (first : ℕ) (raw : Raw) (t : State) → write_run_of s first raw ≡ accepted t → Judged s first raw t
unfolding write_run_of
judged s first raw t e =
    go (has_spelling raw) (outside first raw.count) (halves s.profile first raw.count) (illegal_frequency (byte_of raw) first raw.count s.profile)
    (bad_run (byte_of raw) first raw.count s.profile) refl refl refl refl refl e
  where
    go : (a b c d f : Bool) → has_spelling raw ≡ a → outside first raw.count ≡ b → halves s.profile first raw.count ≡ c
        → illegal_frequency (byte_of raw) first raw.count s.profile ≡ d → bad_run (byte_of raw) first raw.count s.profile ≡ f
        → pick (not a) (refused 5) (pick b (refused 10) (pick c (refused 15) (pick d (refused 11) (pick f (refused 9) (accepted (written_run s first raw)))))) ≡ accepted t
        → Judged s first raw t
    go true false false false false ea eb ec ed ef e = record { spelled = ea; inside = eb; whole = ec; legal = ed; held = ef; after = cc }
    go false b c d f ea eb ec ed ef e = absurd (let z : ◌≡◌ {A = ℕ} 0 1 = cc in omega arith)
    go true true c d f ea eb ec ed ef e = absurd (let z : ◌≡◌ {A = ℕ} 0 1 = cc in omega arith)
    go true false true d f ea eb ec ed ef e = absurd (let z : ◌≡◌ {A = ℕ} 0 1 = cc in omega arith)
    go true false false true f ea eb ec ed ef e = absurd (let z : ◌≡◌ {A = ℕ} 0 1 = cc in omega arith)
    go true false false false true ea eb ec ed ef e = absurd (let z : ◌≡◌ {A = ℕ} 0 1 = cc in omega arith)

both-not : (a b : Bool) → a ≡ true → (a && not b) ≡ false → b ≡ true
both-not a b h e = not-false b (subst (λ (t : Bool). (t && not b) ≡ false) h e)

module _ (s : State) (ok : state_ok s ≡ true) (first : ℕ) (raw : Raw) (j : Judged s first raw (written_run s first raw)) where
  abbrev parts : Holding s
  parts = apart s ok

  -- FSW's code, where FSW is written
  frequency : (i : ℕ) → i < raw.count → first + i ≡ 0x16 → frequency_ok s.profile (digit_of fsw (value_in (byte_of raw) i)) ≡ true
  frequency i h e =
      let there : is_written first raw.count fsw ≡ true = rw (le-leb first 0x16 (omega arith), lt-ltb 0x16 (first + raw.count) (omega arith)) refl in
      let same : 0x16 - first ≡ i = omega arith in
      subst (λ (n : ℕ). frequency_ok s.profile (digit_of fsw (value_in (byte_of raw) n)) ≡ true) same
      (both-not (is_written first raw.count fsw) (frequency_ok s.profile (written_code (byte_of raw) first fsw)) there j.legal)

  kept-passes : KeptOk s.profile (kept_run (byte_of raw) first raw.count s.profile s.registers (kept_of s))
  unfolding kept_run bad_run
  kept-passes =
      all_keep (KeptOk s.profile) (λ (u : Kept) (i : ℕ). register_taken s.profile s.registers (first + i) (value_in (byte_of raw) i) u) raw.count
      (λ i h k.
      register-keeps s.profile (profile-bounds s.profile parts.profile) s.registers (first + i) (value_in (byte_of raw) i)
      (none-meets (λ (n : ℕ). bad_register s.profile (first + n) (value_in (byte_of raw) n)) raw.count j.held i h) (frequency i h) k)
      (kept_of s) (record { settings = parts.settings; registers = parts-apart s.profile s.registers parts.registers })

  pub run-passes : state_ok (written_run s first raw) ≡ true
  unfolding written_run
  run-passes =
      whole (written_run s first raw) (record {
        profile = parts.profile;
        settings = kept-passes.settings;
        registers = parts_whole s.profile (written_run s first raw).registers kept-passes.registers;
        cycle = parts.cycle;
        watchdog = parts.watchdog;
        sample = parts.sample;
        flags = parts.flags;
      })
