-- 02, R-3: a run of written bytes. "a run is taken whole or not at all": it is judged on the written bytes before anything changes. Refusal 6 is the caller's, who has no state to
-- write to then.
use Rattle.std.specs.Prelude.{ℕ, ◌+◌, Bool, false, not, ◌&&◌, ◌||◌, leb, ltb, eqb, Result, Ok, Err}
use Rattle.base.specs.Pick.{pick}
use Rattle.base.specs.Refusals.{refusal_number}
use Rattle.base.specs.Told.{Told, accepted, refused}
use Rattle.base.specs.declared.refusal.Refusal.{Refusal}
use Rattle.log_raw.specs.Raw.{Raw, byte_of, has_spelling}
use Rattle.state_parts.specs.With.{with_settings, with_registers}
use Rattle.state_parts.specs.declared.profile.Profile.{Profile}
use Rattle.state_parts.specs.declared.registers.Registers.{Registers}
use Rattle.state_parts.specs.declared.state.State.{State}
use Rattle.state_table.specs.Rows.{Field, map_size, fsw, reg_rst, wd_rst, frequency_ok}
use Rattle.state_table.specs.Packed.{upper_half}
use Rattle.state_runs.specs.Bytes.{value_in, stepwise, is_written, written_code}
use Rattle.state_runs.specs.Registers.{bad_register, register_taken}
use Rattle.state_runs.specs.declared.registers.Kept.{Kept}

-- "a run touching an address outside the map" (10)
abbrev pub outside : ℕ → ℕ → Bool
outside first count = not (leb (first + count) map_size)

-- "half of a sixteen-bit register" (15): the run starts, or ends, in a register's middle
abbrev pub in_middle : Profile → ℕ → Bool
in_middle p address = ltb address map_size && upper_half p address

abbrev pub halves : Profile → ℕ → ℕ → Bool
halves p first count = in_middle p first || in_middle p (first + count)

module _ (byte : ℕ → ℕ) (first count : ℕ) where
  -- "FSW .. written 0 or 7" (11)
  abbrev pub illegal_frequency : Profile → Bool
  illegal_frequency p = is_written first count fsw && not (frequency_ok p (written_code byte first fsw))

  -- "a field value that its setting can't hold is 9"
  unfoldable pub bad_run : Profile → Bool
  bad_run p = stepwise (λ (bad : Bool) (i : ℕ). bad || bad_register p (first + i) (value_in byte i)) count false

  -- the registers, one after the other
  unfoldable pub kept_run : Profile → Registers → Kept → Kept
  kept_run p before k = stepwise (λ (u : Kept) (i : ℕ). register_taken p before (first + i) (value_in byte i) u) count k

  -- "Reset and service bits act": where they are written 1
  abbrev pub acts : Field → Bool
  acts f = is_written first count f && eqb (written_code byte first f) 1

-- what runs change of a state
abbrev pub kept_of : State → Kept
kept_of s = record { settings = s.settings; words = s.registers.words; cells = s.registers.cells }

abbrev pub with_kept : State → Kept → State
with_kept s k = with_registers (with_settings s k.settings) (record { words = k.words; cells = k.cells })

-- a run's answer on a state, in the paper's numbers
abbrev pub run_told : State → Result Kept Refusal → Told State
run_told s (Ok k) = accepted (with_kept s k)
run_told s (Err r) = refused (refusal_number r)

-- the state as written: before reset and service bits act, and before it settles
unfoldable pub written_run : State → ℕ → Raw → State
written_run s first raw = with_kept s (kept_run (byte_of raw) first raw.count s.profile s.registers (kept_of s))

-- "has no spelling: the writer gives 5 .., and so does the model, after 6"; "10; 15, .., after 10, then 11; .. 9, last"
unfoldable pub write_run_of : State → ℕ → Raw → Told State
write_run_of s first raw =
    pick (not (has_spelling raw)) (refused 5)
    (pick (outside first raw.count) (refused 10)
    (pick (halves s.profile first raw.count) (refused 15)
    (pick (illegal_frequency (byte_of raw) first raw.count s.profile) (refused 11)
    (pick (bad_run (byte_of raw) first raw.count s.profile) (refused 9)
    (accepted (written_run s first raw))))))

-- REG_RST and WD_RST
unfoldable pub resets : ℕ → Raw → Bool
resets first raw = acts (byte_of raw) first raw.count reg_rst

unfoldable pub serves : ℕ → Raw → Bool
serves first raw = acts (byte_of raw) first raw.count wd_rst
