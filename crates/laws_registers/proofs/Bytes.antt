-- A run of one byte on 0x15-0x1C is 01's write.
use Prim.Native.Nat.{ℕ, ◌+◌, ◌%◌, ◌≤◌}
use mathlib.Core.Path.{◌≡◌, refl, ap, ◌∙◌}
use mathlib.Core.Bool.{false, not, ◌&&◌}
use native.Mathlib.Nat.{add-zero}
use native.Mathlib.Omega.{arith}
use lib.Dec.{eqb}
use lib.ListN.{get_or}
use borrow.Author.Tests.{le-leb}
use Rattle.base.specs.Pick.{pick}
use Rattle.base.specs.Told.{Told, accepted, refused}
use Rattle.base.proofs.Span.{span}
use Rattle.log_raw.specs.Raw.{Raw, byte_of}
use Rattle.log_raw.specs.Struct.{raw_of}
use Rattle.log_raw.proofs.Packing.{byte-of-word}
use Rattle.log_raw.proofs.Soundness.{spelling-told}
use Rattle.state_parts.specs.declared.profile.Profile.{Profile}
use Rattle.state_parts.specs.declared.registers.Registers.{Registers}
use Rattle.state_parts.specs.declared.settings.Settings.{Settings}
use Rattle.state_parts.specs.declared.state.State.{State}
use Rattle.state_parts.specs.declared.state.Model.TheVariants.{Off, On}
use Rattle.state_registers.specs.Writes.{written_registers, written_to, write_of}
use Rattle.state_runs.specs.Bytes.{value_in}
use Rattle.state_runs.specs.Registers.{settings_taken, bad_register, register_taken}
use Rattle.state_runs.specs.Runs.{outside, halves, illegal_frequency, bad_run, kept_run, kept_of, with_kept, written_run, write_run_of, resets, serves}
use Rattle.state_runs.specs.declared.registers.Kept.{Kept}
use Rattle.state_table.specs.Rows.{fields, fields_of, fsw, digit_of, frequency_ok}
use Rattle.state_valid.specs.Holds.{state_ok}
use Rattle.step_kinds.specs.Changes.{Changed}
use Rattle.step_kinds.specs.Plain.{after_write, acted_of, after_run, written_of, run_from}
use Rattle.step_event.specs.Steps.{closed_by, first_of, followed_of, moved_of, change_of, turned_by}
use Rattle.laws_registers.specs.Bytes.{OneByte, RunAsWrite, RunTurnsAsWrite}

-- A run of one byte: the one register takes it, and is judged by it.
module _ (raw : Raw) (given : OneByte raw) where
  nothing-behind : byte_of raw 1 ≡ 0
  nothing-behind = (spelling-told.told raw given.spelled).rest 1 (let one = given.one in omega arith)

  pub value-is : value_in (byte_of raw) 0 ≡ byte_of raw 0
  value-is = rw nothing-behind (omega arith)

  module _ (p : Profile) (a : ℕ) where
    pub byte-taken : (before : Registers) (k : Kept) → kept_run (byte_of raw) a raw.count p before k ≡ register_taken p before a (byte_of raw 0) k
    unfolding kept_run
    byte-taken before k =
        ap (λ (n : ℕ). kept_run (byte_of raw) a n p before k) given.one ∙ ap (λ (n : ℕ). register_taken p before n (value_in (byte_of raw) 0) k) (add-zero a)
        ∙ ap (λ (n : ℕ). register_taken p before a n k) value-is

    pub byte-judged : bad_run (byte_of raw) a raw.count p ≡ bad_register p a (byte_of raw 0)
    unfolding bad_run
    byte-judged =
        ap (λ (n : ℕ). bad_run (byte_of raw) a n p) given.one ∙ ap (λ (n : ℕ). bad_register p n (value_in (byte_of raw) 0)) (add-zero a) ∙ ap (bad_register p a) value-is

-- What a run of one byte finds at such an address, whatever the byte.
module _ (p : Profile) (a : ℕ) (low : 0x15 ≤ a) (high : a ≤ 0x1C) where
  is_whole : halves p a 1 ≡ false
  unfolding fields_of fields
  is_whole = span (λ (n : ℕ). halves p n 1 ≡ false) 0x15 8 a (refl, (refl, (refl, (refl, (refl, (refl, (refl, (refl, tt)))))))) low (omega arith)

  sets-nothing : (value : ℕ) (t : Settings) → settings_taken p a value t ≡ t
  unfolding settings_taken fields_of fields
  sets-nothing value t = span (λ (n : ℕ). settings_taken p n value t ≡ t) 0x15 8 a (refl, (refl, (refl, (refl, (refl, (refl, (refl, (refl, tt)))))))) low (omega arith)

  never-bad : (value : ℕ) → bad_register p a value ≡ false
  unfolding bad_register fields_of fields
  never-bad value = span (λ (n : ℕ). bad_register p n value ≡ false) 0x15 8 a (refl, (refl, (refl, (refl, (refl, (refl, (refl, (refl, tt)))))))) low (omega arith)

  -- FSW alone is judged
  frequency : (byte : ℕ → ℕ) → byte 1 ≡ 0 → illegal_frequency byte a 1 p ≡ (eqb a 0x16 && not (frequency_ok p (digit_of fsw (byte 0))))
  frequency byte e =
      span (λ (n : ℕ). illegal_frequency byte n 1 p ≡ (eqb n 0x16 && not (frequency_ok p (digit_of fsw (byte 0))))) 0x15 8 a
      (refl, (ap (λ (v : ℕ). not (frequency_ok p (digit_of fsw v))) alone, (refl, (refl, (refl, (refl, (refl, (refl, tt)))))))) low (omega arith)
    where
      alone : value_in byte 0 ≡ byte 0
      alone = rw e (omega arith)

  -- REG_RST and WD_RST are elsewhere
  acts-not : (raw : Raw) → (resets a raw ≡ false) × (serves a raw ≡ false)
  unfolding resets serves
  acts-not raw =
      let none : (resets 0x15 raw ≡ false) × (serves 0x15 raw ≡ false) = (refl, refl) in
      span (λ (n : ℕ). (resets n raw ≡ false) × (serves n raw ≡ false)) 0x15 8 a (none, (none, (none, (none, (none, (none, (none, (none, tt)))))))) low (omega arith)

module _ (s : State) (a : ℕ) (low : 0x15 ≤ a) (high : a ≤ 0x1C) (raw : Raw) (given : OneByte raw) where
  abbrev p : Profile
  p = s.profile

  abbrev byte : ℕ
  byte = byte_of raw 0

  small : byte ≤ 255
  small = rw (byte-of-word raw 0) (digit-small (get_or raw.words 0 0))
    where
      digit-small : (n : ℕ) → n % 256 ≤ 255
      digit-small n = omega arith

  written : written_run s a raw ≡ written_to s a byte
  unfolding written_run register_taken written_to written_registers
  written = ap (with_kept s) (byte-taken raw given p a s.registers (kept_of s)) ∙ simp (sets-nothing p a low high byte s.settings)

  fine : bad_run (byte_of raw) a raw.count p ≡ false
  fine = byte-judged raw given p a ∙ never-bad p a low high byte

  as-write : write_run_of s a raw ≡ write_of s a byte
  unfolding write_run_of write_of
  as-write =
      let inside : outside a raw.count ≡ false = ap (outside a) given.one ∙ rw (le-leb (a + 1) 39 (omega arith)) refl in
      let whole : halves p a raw.count ≡ false = ap (halves p a) given.one ∙ is_whole p a low high in
      let judged = ap (λ (n : ℕ). illegal_frequency (byte_of raw) a n p) given.one ∙ frequency p a low high (byte_of raw) (nothing-behind raw given) in
      simp (given.spelled, inside, whole, judged, fine, written, le-leb 0x15 a low, le-leb a 0x1C high, le-leb byte 255 small)

  -- nothing acts behind it
  ends-alike : (t : Told State) → after_run t a raw ≡ after_write t
  unfolding acted_of
  ends-alike (accepted written) = let none = acts-not p a low high raw in simp (none.0, none.1)
  ends-alike (refused number) = refl

  run-as-write-at : run_from s a raw ≡ written_of s a byte
  unfolding run_from written_of
  run-as-write-at = ap (λ (t : Told State). after_run t a raw) as-write ∙ ends-alike (write_of s a byte)

pub run-as-write : RunAsWrite
run-as-write s a raw low high given = run-as-write-at s a low high raw given

pub run-turns-as-write : RunTurnsAsWrite
unfolding turned_by change_of moved_of followed_of first_of
run-turns-as-write Off a raw low high given = refl
run-turns-as-write (On s) a raw low high given = ap (λ (t : Told Changed). closed_by (On s) (pick (state_ok s) t (refused 5))) (run-as-write s a (raw_of raw) low high given)
