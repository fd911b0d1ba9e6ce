-- What is proved of reads of the flag registers beside kind 4.
use Rattle.std.specs.Prelude.{ℕ, ◌≡◌, true, false}
use Rattle.report_registers.specs.Reads.{flag_byte}
use Rattle.state_parts.specs.declared.profile.Profile.{Profile}
use Rattle.state_parts.specs.declared.state.State.{State}
use Rattle.state_parts.specs.declared.state.Model.TheVariants.{On}
use Rattle.state_valid.specs.Holds.{state_ok}
use Rattle.step_turns.specs.declared.later.Later.TheVariants.{TakeFlags, ReadFlags}
use Rattle.step_turns.specs.declared.turn.Turn.TheVariants.{Follows}
use Rattle.step_kinds.specs.Answers.{Outcome}
use Rattle.step_kinds.specs.Finish.{flags_left}
use Rattle.step_event.specs.Steps.{turned_by}

abbrev pub taken : State → Outcome
taken s = turned_by (On s) (Follows TakeFlags)

abbrev pub first_read : State → Outcome
first_read s = turned_by (On s) (Follows (ReadFlags 0x20))

abbrev pub second_read : State → Outcome
second_read s = turned_by (first_read s).model (Follows (ReadFlags 0x21))

-- "kind 14 hands back and clears bits 0-7 for 0x20, 8-11 for 0x21, after settling, as kind 4 does all of them": the two reads, one after the other, leave the model that kind 4 leaves. They
-- hand back the registers' bytes of the flags that kind 4 hands back; the first pulses if kind 4 does, and the second doesn't, for nothing is left to settle.
pub record ReadsAsTaken (s : State) : Type 0 where
  pub model : (second_read s).model ≡ (taken s).model
  pub first-accepted : (first_read s).number ≡ 0
  pub second-accepted : (second_read s).number ≡ 0
  pub first-pulse : (first_read s).pulse ≡ (taken s).pulse
  pub second-pulse : (second_read s).pulse ≡ false
  pub first-byte : (first_read s).handed ≡ flag_byte s.profile 0x20 (taken s).handed
  pub second-byte : (second_read s).handed ≡ flag_byte s.profile 0x21 (taken s).handed

abbrev pub TwoReads : Type 0
TwoReads = (s : State) → state_ok s ≡ true → ReadsAsTaken s

-- "A read of a flag register clears its own flags": whatever flags there were, of those that it leaves its own byte reads 0, and the other register's byte reads as before
pub record OwnCleared (p : Profile) (flags : ℕ) : Type 0 where
  pub first-cleared : flag_byte p 0x20 (flags_left 0x20 flags) ≡ 0
  pub second-cleared : flag_byte p 0x21 (flags_left 0x21 flags) ≡ 0
  pub second-stands : flag_byte p 0x21 (flags_left 0x20 flags) ≡ flag_byte p 0x21 flags
  pub first-stands : flag_byte p 0x20 (flags_left 0x21 flags) ≡ flag_byte p 0x20 flags

abbrev pub ClearsItsOwn : Type 0
ClearsItsOwn = (p : Profile) (flags : ℕ) → OwnCleared p flags
