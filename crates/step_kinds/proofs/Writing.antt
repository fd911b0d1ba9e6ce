-- What `write` and `write_run` ask, over plain values.
use mathlib.Core.Path.{◌≡◌, refl, sym, ap, ◌∙◌}
use mathlib.Core.Bool.{Bool, true, false}
use Prim.Native.Nat.{ℕ}
use Rattle.std.proofs.Common.{Result, Ok, Err}
use Rattle.base.specs.Refusals.{refusal_number}
use Rattle.base.specs.Told.{Told, refused}
use Rattle.base.specs.declared.refusal.Refusal.{Refusal}
use Rattle.base.specs.Pick.{pick}
use Rattle.log_raw.specs.Raw.{Raw}
use Rattle.log_raw.specs.Struct.{raw_of}
use Rattle.state_parts.specs.With.{with_watchdog}
use Rattle.state_start.specs.Values.{start_watchdog}
use Rattle.state_registers.specs.Resets.{reset_of}
use Rattle.log_raw.specs.declared.RawBytes.{RawBytes}
use Rattle.state_parts.specs.declared.state.State.{State}
use Rattle.state_registers.specs.Writes.{write_told, write_of}
use Rattle.state_runs.specs.Runs.{with_kept, run_told, write_run_of, resets, serves}
use Rattle.state_runs.specs.declared.registers.Kept.{Kept}
use Rattle.step_kinds.specs.Changes.{changed}
use Rattle.step_kinds.specs.Plain.{written_of, serviced_of, acted_of, after_run, run_from}
use Rattle.step_kinds.specs.declared.change.Way.TheVariants.{Plain}

-- a write that the registers take, or refuse
pub wrote : (s : State) (address byte : ℕ) (answer : Result State Refusal) (written : State) → answer ≡ Ok written → write_told answer ≡ write_of s address byte
    → changed written Plain ≡ written_of s address byte
unfolding written_of
wrote s address byte answer written ea told = rw (← told, ea)

pub not-wrote : (s : State) (address byte : ℕ) (answer : Result State Refusal) (r : Refusal) → answer ≡ Err r → write_told answer ≡ write_of s address byte
    → refused (refusal_number r) ≡ written_of s address byte
unfolding written_of
not-wrote s address byte answer r ea told = rw (← told, ea)

-- and so of a run
pub ran : (s : State) (address : ℕ) (raw : RawBytes) (answer : Result Kept Refusal) (k : Kept) (after : State) → answer ≡ Ok k → run_told s answer ≡ write_run_of s address (raw_of raw)
    → after ≡ acted_of (with_kept s k) address (raw_of raw) → changed after Plain ≡ run_from s address (raw_of raw)
unfolding run_from
ran s address raw answer k after ea told e = ap (λ (t : State). changed t Plain) e ∙ ap (λ (t : Told State). after_run t address (raw_of raw)) (sym (ap (run_told s) ea) ∙ told)

pub not-ran : (s : State) (address : ℕ) (raw : RawBytes) (answer : Result Kept Refusal) (r : Refusal) → answer ≡ Err r → run_told s answer ≡ write_run_of s address (raw_of raw)
    → refused (refusal_number r) ≡ run_from s address (raw_of raw)
unfolding run_from
not-ran s address raw answer r ea told = ap (λ (t : Told State). after_run t address (raw_of raw)) (sym (ap (run_told s) ea) ∙ told)

-- what a run's bits do: a reset leaves the watchdog at zero, so that a service after it changes nothing
pub acts-reset : (s : State) (address : ℕ) (raw : Raw) → resets address raw ≡ true → reset_of s ≡ acted_of s address raw
unfolding acted_of reset_of
acts-reset s address raw yields = rw yields (by (serves address raw))
  where
    by : (t : Bool) → reset_of s ≡ pick t (serviced_of (reset_of s)) (reset_of s)
    by true = refl
    by false = refl

pub acts-plain : (s : State) (k : Kept) (address : ℕ) (raw : Raw) → resets address raw ≡ false → with_watchdog (with_kept s k) (pick (serves address raw) start_watchdog s.watchdog) ≡ acted_of (with_kept s k) address raw
unfolding acted_of
acts-plain s k address raw none = rw none (by (serves address raw))
  where
    by : (t : Bool) → with_watchdog (with_kept s k) (pick t start_watchdog s.watchdog) ≡ pick t (serviced_of (with_kept s k)) (with_kept s k)
    by true = refl
    by false = refl
