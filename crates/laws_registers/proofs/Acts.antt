-- The reset and service bits of a run act as kinds 7 and 6, after its other bytes.
use Prim.Native.Nat.{ℕ, ◌+◌, ◌-◌, ◌*◌, ◌/◌, ◌%◌, ◌^◌}
use mathlib.Core.Path.{◌≡◌, refl, ap, ◌∙◌}
use mathlib.Core.Bool.{Bool, true, false, ◌&&◌}
use native.Mathlib.Omega.{arith}
use lib.Dec.{leb, ltb, eqb}
use Rattle.base.specs.Pick.{pick}
use Rattle.base.specs.Told.{Told, accepted}
use Rattle.log_raw.specs.Raw.{Raw, byte_of}
use Rattle.state_parts.specs.declared.state.State.{State}
use Rattle.state_registers.specs.Resets.{reset_of}
use Rattle.state_runs.specs.Runs.{write_run_of, resets, serves}
use Rattle.step_kinds.specs.Changes.{changed}
use Rattle.step_kinds.specs.declared.change.Way.TheVariants.{Plain}
use Rattle.step_kinds.specs.Plain.{serviced_of, acted_of, after_run, run_from}
use Rattle.step_event.specs.Steps.{followed_of}
use Rattle.laws_registers.specs.Acts.{reset_bit, service_bit, BitsAct}

-- a bit of a register's byte is that of its value, whatever byte stands above it
picked : (there : Bool) (code bit : ℕ) → code ≡ bit → (there && eqb code 1) ≡ eqb (pick there bit 0) 1
picked true code bit e = ap (λ (n : ℕ). eqb n 1) e
picked false code bit e = refl

resets-is : (first : ℕ) (raw : Raw) → resets first raw ≡ eqb (reset_bit first raw) 1
unfolding resets
resets-is first raw =
    let low = byte_of raw (0x10 - first) in
    let high = byte_of raw (0x10 - first + 1) in
    picked (leb first 0x10 && ltb 0x10 (first + raw.count)) ((low + 256 * high) / 2 ^ 7 % 2 ^ 1) (low / 2 ^ 7 % 2) (omega arith)

serves-is : (first : ℕ) (raw : Raw) → serves first raw ≡ eqb (service_bit first raw) 1
unfolding serves
serves-is first raw =
    let low = byte_of raw (0x12 - first) in
    let high = byte_of raw (0x12 - first + 1) in
    picked (leb first 0x12 && ltb 0x12 (first + raw.count)) ((low + 256 * high) / 2 ^ 2 % 2 ^ 1) (low / 2 ^ 2 % 2) (omega arith)

-- what both tests come to
module _ (s : State) (first : ℕ) (raw : Raw) (t : State) (e : write_run_of s first raw ≡ accepted t) where
  acted : (r v : ℕ) → reset_bit first raw ≡ r → service_bit first raw ≡ v
      → run_from s first raw ≡ changed (pick (eqb v 1) (serviced_of (pick (eqb r 1) (reset_of t) t)) (pick (eqb r 1) (reset_of t) t)) Plain
  unfolding run_from acted_of
  acted r v er ev =
      let reset : resets first raw ≡ eqb r 1 = resets-is first raw ∙ ap (λ (n : ℕ). eqb n 1) er in
      let service : serves first raw ≡ eqb v 1 = serves-is first raw ∙ ap (λ (n : ℕ). eqb n 1) ev in
      ap (λ (w : Told State). after_run w first raw) e
      ∙ (λ i. changed (pick (service i) (serviced_of (pick (reset i) (reset_of t) t)) (pick (reset i) (reset_of t) t)) Plain)

pub bits-act : BitsAct
unfolding followed_of
bits-act s first raw t e =
    record {
      neither = acted s first raw t e 0 0;
      reset = acted s first raw t e 1 0;
      service = acted s first raw t e 0 1;
      both = acted s first raw t e 1 1;
    }
