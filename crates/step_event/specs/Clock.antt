-- 01, "One observation, in order".
use Rattle.std.specs.Prelude.{ℕ, ◌+◌, ◌*◌, min, Bool, not, ◌&&◌, ◌==◌}
use Rattle.base.specs.Pick.{pick}
use Rattle.base.specs.Stamps.{elapsed_of}
use Rattle.state_fields.specs.Held.{without_overrides}
use Rattle.state_parts.specs.Stages.{in_trickle, in_precharge, in_fast}
use Rattle.state_parts.specs.With.{with_cycle, with_registers, with_watchdog, with_sample, with_words}
use Rattle.state_parts.specs.declared.cycle.Cycle.{Cycle}
use Rattle.state_parts.specs.declared.phase.Phase.{Phase}
use Rattle.state_parts.specs.declared.profile.Profile.{Profile}
use Rattle.state_parts.specs.declared.registers.Registers.{Registers}
use Rattle.state_parts.specs.declared.sample.Sample.{Sample}
use Rattle.state_parts.specs.declared.state.State.{State}
use Rattle.state_parts.specs.declared.watchdog.Watchdog.{Watchdog}
use Rattle.settle_permission.specs.Bits.{regulated_of}
use Rattle.step_flags.specs.Expiry.{expires_of}

-- "two units per ms, one while the old sample shows any regulation"
unfoldable pub units_of : Sample → ℕ → ℕ
units_of old ms = pick (regulated_of old) ms (ms * 2)

-- "A limit of s seconds is reached at 2,000s units; a limit 0 counts nothing."
abbrev pub added_of : Bool → ℕ → ℕ → ℕ → ℕ
added_of held limit time units = pick (held && not (limit == 0)) (time + units) time

-- "1. Time since the last stamp goes to the stage held before it (trickle, precharge; fast and taper share one)"
unfoldable pub times_of : Profile → Phase → ℕ → Cycle → Cycle
times_of p held units c = record {
  trickle = added_of (in_trickle held) p.trickle c.trickle units;
  precharge = added_of (in_precharge held) p.precharge c.precharge units;
  fast = added_of (in_fast held) p.fast c.fast units;
  done = c.done;
}

-- "2. The watchdog adds the time (a period 0 counts nothing); reaching its period expires it .. and it rests": its count stands still there
unfoldable pub counted_of : Profile → Watchdog → ℕ → Watchdog
counted_of p w ms = record { count = min (w.count + ms) (p.watchdog * 1000) }

-- "all three overrides clear"
unfoldable pub cleared_if : Bool → Registers → Registers
cleared_if expires g = pick expires (with_words g (without_overrides g.words)) g

-- "3. The new sample stands."
unfoldable pub observed_of : State → Sample → State
observed_of s x =
    let ms = elapsed_of s.sample.stamp x.stamp in
    let dog = counted_of s.profile s.watchdog ms in
    with_sample
    (with_watchdog
    (with_registers
    (with_cycle s (times_of s.profile s.phase (units_of s.sample ms) s.cycle))
    (cleared_if (expires_of s.profile s.watchdog dog) s.registers))
    dog)
    x
