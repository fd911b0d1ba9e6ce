-- What settling finds after an event: the state that each kind of event writes is the account's, but for what settling is still to judge.
use Prim.Native.Nat.{ℕ, ◌*◌}
use native.Mathlib.Nat.{add-zero}
use mathlib.Core.Path.{◌≡◌, refl, sym, ap, ◌∙◌}
use mathlib.Core.Bool.{Bool, true, false, not, ◌&&◌, ◌||◌}
use lib.Dec.{eqb}
use Rattle.base.specs.Pick.{pick}
use Rattle.base.specs.Stamps.{elapsed_of}
use Rattle.state_parts.specs.declared.cycle.Cycle.{Cycle}
use Rattle.state_parts.specs.declared.registers.Registers.{Registers}
use Rattle.state_parts.specs.declared.sample.Sample.{Sample}
use Rattle.state_parts.specs.declared.settings.Settings.{Settings}
use Rattle.state_parts.specs.declared.state.State.{State}
use Rattle.state_parts.specs.declared.watchdog.Watchdog.{Watchdog}
use Rattle.settle_permission.specs.Bits.{regulated_of}
use Rattle.log_raw.specs.Raw.{byte_of}
use Rattle.log_raw.specs.Struct.{raw_of}
use Rattle.log_raw.specs.declared.RawBytes.{RawBytes}
use Rattle.state_table.specs.Rows.{Field, digit_of, cell_pin}
use Rattle.state_fields.specs.Held.{gathered, restored_by}
use Rattle.state_start.specs.Values.{start_cycle, start_settings}
use Rattle.state_runs.specs.Runs.{written_run, resets, serves}
use Rattle.state_runs.specs.declared.registers.Kept.{Kept}
use Rattle.state_settings.specs.Numbered.{store_of}
use Rattle.step_flags.specs.Expiry.{expired_of, expires_of}
use Rattle.state_registers.specs.Writes.{recounted, written_to}
use Rattle.state_registers.specs.Resets.{reset_registers, reset_of}
use Rattle.step_event.specs.Clock as clock
use Rattle.step_event.specs.Clock.{times_of, counted_of, cleared_if, observed_of}
use Rattle.state_parts.specs.With.{with_settings}
use Rattle.step_kinds.specs.Plain.{serviced_of, acted_of}
use Rattle.laws_account.specs.History.{Run, ◌▸◌}
use Rattle.step_turns.specs.declared.later.Later.{Later}
use Rattle.step_turns.specs.declared.later.Later.TheVariants.{Set, Write, TakeFlags, Observe, Service, Reset, WriteRun, ReadFlags}
use Rattle.laws_account.specs.Held.{profile_of, sample_of, regulated, elapsed, was_reset, was_served, expired, takes, cells_of, field_at}
use Rattle.laws_account.specs.Valued.{given_by, setting_of, run_gives}
use Rattle.laws_account.specs.Bands.{bands_at}
use Rattle.laws_account.specs.Cycles.{Stage, trickle, precharge, fast, limit_of, held_in, units_after, gave, is_done, was_done, time_in, time_found, phase_at}
use Rattle.laws_account.specs.States.{numbered, settings_at, registers_at, latches_at, watchdog_at, cycle_at, flags_at, state_by, state_of}
use Rattle.laws_account.proofs.Choices.{added}
use Rattle.laws_account.proofs.Dogs.{expired-is, counted_is, served-is, waits}
use Rattle.laws_account.proofs.Values.{store_is, count-is, start_is}
use Rattle.laws_account.proofs.Fields.{count-taken, written-fields, cleared-fields, reset-fields}
use Rattle.laws_account.proofs.Ran.{kept_to, kept-to, restored-codes}

-- what each kind of event writes
abbrev pub written_by : State → Later → State
written_by s (Set number value) = with_settings s (store_of s.settings number value)
written_by s (Write address byte) = written_to s address byte
written_by s TakeFlags = s
written_by s (Observe x) = observed_of s x
written_by s Service = serviced_of s
written_by s Reset = reset_of s
written_by s (WriteRun first raw) = acted_of (written_run s first (raw_of raw)) first (raw_of raw)
written_by s (ReadFlags address) = s

-- the state of a run with these parts
abbrev pub changed : Run → Settings → Registers → Cycle → Watchdog → Sample → State
changed r t g c w x = record {
  profile = profile_of r;
  settings = t;
  registers = g;
  latches = latches_at r;
  cycle = c;
  watchdog = w;
  sample = x;
  phase = phase_at r;
  bands = bands_at r;
  flags = flags_at phase_at r;
}

abbrev pub given_at : Run → Later → Settings
given_at r e = numbered (λ number. given_by number (r ▸ e) (setting_of number r))

abbrev pub cycle_found : Run → Cycle
cycle_found r = record {
  trickle = time_found phase_at trickle r;
  precharge = time_found phase_at precharge r;
  fast = time_found phase_at fast r;
  done = was_done phase_at r;
}

unfoldable pub found : Run → Later → State
found r e = changed r (given_at r e) (registers_at (r ▸ e)) (cycle_found (r ▸ e)) (watchdog_at (r ▸ e)) (sample_of (r ▸ e))

-- a stage that the phase counts in and that has a limit
abbrev counted : Stage → Run → Bool
counted s r = held_in s (phase_at r) && not (eqb (limit_of s (profile_of r)) 0)

-- an event that brings no time gives no stage any
no-units : (regulated : Bool) → ◌≡◌ {A = ℕ} (pick regulated 0 (0 * 2)) 0
no-units true = refl
no-units false = refl

either-zero : (b : Bool) → ◌≡◌ {A = ℕ} (pick b 0 0) 0
either-zero true = refl
either-zero false = refl

gave-none : (s : Stage) (r : Run) (e : Later) → elapsed (r ▸ e) ≡ 0 → gave phase_at s (r ▸ e) ≡ 0
unfolding gave units_after
gave-none s r e z = rw (z, no-units (regulated r)) (either-zero (counted s r))

time-kept : (s : Stage) (r : Run) (e : Later) → was_reset (r ▸ e) ≡ false → elapsed (r ▸ e) ≡ 0 → time_in phase_at s r ≡ time_found phase_at s (r ▸ e)
unfolding time_found
time-kept s r e n z = rw (n, gave-none s r e z) (sym (add-zero (time_in phase_at s r)))

done-kept : (r : Run) (e : Later) → was_reset (r ▸ e) ≡ false → is_done phase_at r ≡ was_done phase_at (r ▸ e)
unfolding was_done
done-kept r e n = rw n

cycle-kept : (r : Run) (e : Later) → was_reset (r ▸ e) ≡ false → elapsed (r ▸ e) ≡ 0 → cycle_at phase_at r ≡ cycle_found (r ▸ e)
unfolding cycle_at
cycle-kept r e n z = λ i. record {
  trickle = time-kept trickle r e n z i;
  precharge = time-kept precharge r e n z i;
  fast = time-kept fast r e n z i;
  done = done-kept r e n i;
}

-- an observation's time goes to the stage held before it
cycle-timed : (r : Run) (x : Sample)
    → times_of (profile_of r) (phase_at r) (clock.units_of (sample_of r) (elapsed_of (sample_of r).stamp x.stamp)) (cycle_at phase_at r) ≡ cycle_found (r ▸ Observe x)
unfolding times_of clock.units_of regulated_of units_after cycle_at time_found gave elapsed was_reset was_done
cycle-timed r x = λ i. record {
  trickle = added (counted trickle r) (time_in phase_at trickle r) (units_after r (elapsed (r ▸ Observe x))) i;
  precharge = added (counted precharge r) (time_in phase_at precharge r) (units_after r (elapsed (r ▸ Observe x))) i;
  fast = added (counted fast r) (time_in phase_at fast r) (units_after r (elapsed (r ▸ Observe x))) i;
  done = is_done phase_at r;
}

expires-is : (r : Run) (x : Sample)
    → expires_of (profile_of r) (watchdog_at r) (counted_of (profile_of r) (watchdog_at r) (elapsed_of (sample_of r).stamp x.stamp))
    ≡ (not (expired r) && expired (r ▸ Observe x))
unfolding profile_of expires_of
expires-is r x = λ i. not (expired-is r i) && (ap (expired_of (profile_of r)) (counted_is r x) ∙ expired-is (r ▸ Observe x)) i

-- a reset ends the cycle
cycle-reset : (r : Run) (e : Later) → was_reset (r ▸ e) ≡ true → start_cycle ≡ cycle_found (r ▸ e)
unfolding time_found was_done
cycle-reset r e h = rw h refl

-- a run of bytes, before its reset and service bits act
abbrev ran_state : Run → ℕ → RawBytes → State
ran_state r first raw =
    let k = kept_to r first (byte_of (raw_of raw)) raw.length in
    changed r k.settings (record { words = k.words; cells = k.cells }) (cycle_at phase_at r) (watchdog_at r) (sample_of r)

ran-is : (r : Run) (first : ℕ) (raw : RawBytes) → written_run (state_of r) first (raw_of raw) ≡ ran_state r first raw
unfolding written_run state_by registers_at
ran-is r first raw =
    ap (λ (k : Kept). changed r k.settings (record { words = k.words; cells = k.cells }) (cycle_at phase_at r) (watchdog_at r) (sample_of r)) (kept-to r first (byte_of (raw_of raw)) raw.length)

-- its registers, as a reset leaves them
ran-restored : (r : Run) (first : ℕ) (raw : RawBytes) → resets first (raw_of raw) ≡ true
    → restored_by (profile_of r) (kept_to r first (byte_of (raw_of raw)) raw.length).words ≡ gathered (profile_of r) (λ (f : Field). field_at f (r ▸ WriteRun first raw))
unfolding restored_by field_at
ran-restored r first raw asked = rw asked (restored-codes r first (byte_of (raw_of raw)) raw.length)

settings-ran : (r : Run) (first : ℕ) (raw : RawBytes) → resets first (raw_of raw) ≡ false → (kept_to r first (byte_of (raw_of raw)) raw.length).settings ≡ given_at r (WriteRun first raw)
unfolding run_gives
settings-ran r first raw none = rw none refl

words-ran : (r : Run) (first : ℕ) (raw : RawBytes) → resets first (raw_of raw) ≡ false
    → (kept_to r first (byte_of (raw_of raw)) raw.length).words ≡ gathered (profile_of r) (λ (f : Field). field_at f (r ▸ WriteRun first raw))
unfolding field_at
words-ran r first raw none = rw none refl

settings-reset : (r : Run) (first : ℕ) (raw : RawBytes) → resets first (raw_of raw) ≡ true
    → start_settings (profile_of r) (cells_of (r ▸ WriteRun first raw)) ≡ given_at r (WriteRun first raw)
settings-reset r first raw asked = start_is (profile_of r) (cells_of (r ▸ WriteRun first raw)) ∙ rw asked refl

served : (r : Run) (first : ℕ) (raw : RawBytes) (t u : Bool) → resets first (raw_of raw) ≡ t → serves first (raw_of raw) ≡ u → was_served (r ▸ WriteRun first raw) ≡ (t || u)
unfolding was_served
served r first raw t u et eu = rw (et, eu) refl

reset_by : (r : Run) (first : ℕ) (raw : RawBytes) (t : Bool) → resets first (raw_of raw) ≡ t → was_reset (r ▸ WriteRun first raw) ≡ t
unfolding was_reset
reset_by r first raw t e = e

no-time : (r : Run) (first : ℕ) (raw : RawBytes) → elapsed (r ▸ WriteRun first raw) ≡ 0
unfolding elapsed
no-time r first raw = refl

-- and with them
acted-is : (r : Run) (first : ℕ) (raw : RawBytes) (t u : Bool) → resets first (raw_of raw) ≡ t → serves first (raw_of raw) ≡ u
    → let reset = pick t (reset_of (ran_state r first raw)) (ran_state r first raw) in pick u (serviced_of reset) reset ≡ found r (WriteRun first raw)
unfolding found registers_at cells_of profile_of sample_of reset_of reset_registers
acted-is r first raw true true et eu =
    λ i. changed r (settings-reset r first raw et i) (record { words = ran-restored r first raw et i; cells = cells_of (r ▸ WriteRun first raw) }) (cycle-reset r (WriteRun first raw) (reset_by r first raw true et) i) (served-is r (WriteRun first raw) (served r first raw true true et eu) i) (sample_of r)
acted-is r first raw true false et eu =
    λ i. changed r (settings-reset r first raw et i) (record { words = ran-restored r first raw et i; cells = cells_of (r ▸ WriteRun first raw) }) (cycle-reset r (WriteRun first raw) (reset_by r first raw true et) i) (served-is r (WriteRun first raw) (served r first raw true false et eu) i) (sample_of r)
acted-is r first raw false true et eu =
    λ i. changed r (settings-ran r first raw et i) (record { words = words-ran r first raw et i; cells = cells_of (r ▸ WriteRun first raw) }) (cycle-kept r (WriteRun first raw) (reset_by r first raw false et) (no-time r first raw) i) (served-is r (WriteRun first raw) (served r first raw false true et eu) i) (sample_of r)
acted-is r first raw false false et eu =
    λ i. changed r (settings-ran r first raw et i) (record { words = words-ran r first raw et i; cells = cells_of (r ▸ WriteRun first raw) }) (cycle-kept r (WriteRun first raw) (reset_by r first raw false et) (no-time r first raw) i) (waits r (WriteRun first raw) (served r first raw false false et eu) (no-time r first raw) i) (sample_of r)

run-written : (r : Run) (first : ℕ) (raw : RawBytes) → acted_of (written_run (state_of r) first (raw_of raw)) first (raw_of raw) ≡ found r (WriteRun first raw)
unfolding acted_of
run-written r first raw =
    ap (λ (s : State). let reset = pick (resets first (raw_of raw)) (reset_of s) s in pick (serves first (raw_of raw)) (serviced_of reset) reset) (ran-is r first raw)
    ∙ acted-is r first raw (resets first (raw_of raw)) (serves first (raw_of raw)) refl refl

pub written_is : (r : Run) (e : Later) → written_by (state_of r) e ≡ found r e
unfolding found state_by settings_at registers_at field_at cells_of profile_of sample_of written_to observed_of reset_of was_reset was_served elapsed time_found was_done
written_is r (Set n v) =
    λ i. changed r (store_is (λ k. setting_of k r) n v i) (registers_at r) (cycle-kept r (Set n v) refl refl i) (waits r (Set n v) refl refl i) (sample_of r)
written_is r (Write a b) =
    λ i. changed r ((ap (λ t. pick t (recounted (profile_of r) (digit_of cell_pin b) (settings_at r)) (settings_at r)) (count-taken r a b) ∙ count-is (λ k. setting_of k r) (profile_of r) (digit_of cell_pin b) (takes r (cells_of r) a b)) i) (written-fields r a b i)
    (cycle-kept r (Write a b) refl refl i) (waits r (Write a b) refl refl i) (sample_of r)
written_is r TakeFlags =
    λ i. changed r (settings_at r) (registers_at r) (cycle-kept r TakeFlags refl refl i) (waits r TakeFlags refl refl i) (sample_of r)
written_is r (Observe x) =
    λ i. changed r (settings_at r) ((ap (λ b. cleared_if b (registers_at r)) (expires-is r x) ∙ cleared-fields r x) i) (cycle-timed r x i) (counted_is r x i) x
written_is r Service =
    λ i. changed r (settings_at r) (registers_at r) (cycle-kept r Service refl refl i) (served-is r Service refl i) (sample_of r)
written_is r Reset =
    λ i. changed r (start_is (profile_of r) (cells_of r) i) (reset-fields r i) (cycle_found (r ▸ Reset)) (served-is r Reset refl i) (sample_of r)
written_is r (WriteRun first raw) = run-written r first raw
written_is r (ReadFlags a) =
    λ i. changed r (settings_at r) (registers_at r) (cycle-kept r (ReadFlags a) refl refl i) (waits r (ReadFlags a) refl refl i) (sample_of r)
