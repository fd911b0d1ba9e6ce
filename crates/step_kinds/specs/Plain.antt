-- 01: what each event that time has no part in writes, with its refusals in the paper's order.
use Rattle.std.specs.Prelude.{ℕ, not}
use Rattle.base.specs.Pick.{pick}
use Rattle.base.specs.Told.{Told, accepted, refused}
use Rattle.state_parts.specs.With.{with_settings, with_watchdog}
use Rattle.state_parts.specs.declared.profile.Profile.{Profile}
use Rattle.state_parts.specs.declared.state.State.{State}
use Rattle.state_start.specs.Values.{start_state, start_watchdog}
use Rattle.state_settings.specs.Ranges.{known_setting, may_hold}
use Rattle.state_settings.specs.Numbered.{store_of}
use Rattle.log_raw.specs.Raw.{Raw}
use Rattle.report_registers.specs.Reads.{flag_register}
use Rattle.state_registers.specs.Resets.{reset_of}
use Rattle.state_registers.specs.Writes.{write_of}
use Rattle.state_runs.specs.Runs.{write_run_of, resets, serves}
use Rattle.step_kinds.specs.Changes.{Changed, changed}
use Rattle.step_kinds.specs.declared.change.Way.TheVariants.{Plain, Reads, Powers}

-- "1 power-on": all that is held begins anew
abbrev pub opened_as : Profile → Told Changed
opened_as p = changed (start_state p) Powers

-- "6, 8, 9 for sets"
unfoldable pub set_of : State → ℕ → ℕ → Told Changed
set_of s number value =
    pick (not (known_setting s.profile number)) (refused 8)
    (pick (not (may_hold s.profile number value)) (refused 9)
    (changed (with_settings s (store_of s.settings number value)) Plain))

-- "6, 10, 5, 11 for writes": the last three are the registers' answer
abbrev pub after_write : Told State → Told Changed
after_write (accepted written) = changed written Plain
after_write (refused number) = refused number

unfoldable pub written_of : State → ℕ → ℕ → Told Changed
written_of s address byte = after_write (write_of s address byte)

-- "it rests until service or a reset zeroes it"
abbrev pub serviced_of : State → State
serviced_of s = with_watchdog s start_watchdog

-- 02, R-3: "Reset and service bits act as kinds 7 and 6 after the run's other bytes."
unfoldable pub acted_of : State → ℕ → Raw → State
acted_of s address raw =
    let reset = pick (resets address raw) (reset_of s) s in
    pick (serves address raw) (serviced_of reset) reset

-- "Write runs are kind 8": the refusals are the registers' answer
abbrev pub after_run : Told State → ℕ → Raw → Told Changed
after_run (accepted written) address raw = changed (acted_of written address raw) Plain
after_run (refused number) address raw = refused number

unfoldable pub run_from : State → ℕ → Raw → Told Changed
run_from s address raw = after_run (write_run_of s address raw) address raw

-- "kind 14 on no flag register, is 10"
unfoldable pub read_flags_of : State → ℕ → Told Changed
read_flags_of s address = pick (not (flag_register s.profile address)) (refused 10) (changed s (Reads address))
