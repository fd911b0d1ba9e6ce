-- An accepted observation of a state that holds what it may leaves one that is ready to settle.
use Rattle.std.proofs.Common.{◌≡◌, ℕ, zero, suc, ◌+◌, ◌*◌, ◌≤◌, min, Bool, true, false, ap, ◌∙◌, arith, ne_eqb, le-leb}
use Rattle.base.specs.Stamps.{elapsed_of}
use Rattle.state_parts.specs.Stages.{in_trickle, in_precharge, in_fast}
use Rattle.state_parts.specs.declared.cycle.Cycle.{Cycle}
use Rattle.state_parts.specs.declared.phase.Phase.{Phase}
use Rattle.state_parts.specs.declared.phase.Phase.TheVariants.{Idle}
use Rattle.state_parts.specs.declared.profile.Profile.{Profile}
use Rattle.state_parts.specs.declared.registers.Registers.{Registers}
use Rattle.state_parts.specs.declared.sample.Sample.{Sample}
use Rattle.state_parts.specs.declared.state.State.{State}
use Rattle.state_parts.specs.declared.watchdog.Watchdog.{Watchdog}
use Rattle.state_valid.specs.Holds.{sample_ok, registers_ok, stage_ok, cycle_ok, watchdog_ok, state_ok}
use Rattle.state_valid.proofs.Bounds.{stage-held, stages-apart, stages-whole}
use Rattle.state_registers.proofs.Keeps.{cleared-registers}
use Rattle.state_valid.proofs.Wholes.{apart}
use Rattle.step_event.specs.Clock.{units_of, added_of, times_of, counted_of, cleared_if, observed_of}
use Rattle.step_event.proofs.Clocks.{units-most}
use Rattle.step_event.proofs.Settles.{Ready, in-time}

-- the stage held was below its limit, so that it passes it by less than one observation's most
added-stage : (held : Bool) (limit time units : ℕ) → stage_ok limit held time ≡ true → units ≤ 7200000 → stage_ok limit false (added_of held limit time units) ≡ true
added-stage false limit time units e h = e
added-stage true zero time units e h = e
added-stage true (suc n) time units e h =
    let below = stage-held (suc n) time (omega arith) e in
    let counts : added_of true (suc n) time units ≡ time + units = simp (ne_eqb (suc n) 0 (λ z. omega arith)) in
    ap (stage_ok (suc n) false) counts ∙ in-time n (time + units) (omega arith)

pub timed : (p : Profile) (held : Phase) (units : ℕ) (y : Cycle) → cycle_ok y p held ≡ true → units ≤ 7200000 → cycle_ok (times_of p held units y) p Idle ≡ true
unfolding times_of
timed p held units y e h =
    let k = stages-apart y p held e in
    stages-whole (times_of p held units y) p Idle (record {
      trickle = added-stage (in_trickle held) p.trickle y.trickle units k.trickle h;
      precharge = added-stage (in_precharge held) p.precharge y.precharge units k.precharge h;
      fast = added-stage (in_fast held) p.fast y.fast units k.fast h;
    })

-- the count stands still at its period
counted-passes : (p : Profile) (w : Watchdog) (ms : ℕ) → watchdog_ok (counted_of p w ms) p ≡ true
unfolding watchdog_ok counted_of
counted-passes p w ms = le-leb (min (w.count + ms) (p.watchdog * 1000)) (p.watchdog * 1000) (omega arith)

-- any override may stand, or none; FSW isn't among them
cleared-passes : (p : Profile) (expires : Bool) (g : Registers) → registers_ok p g ≡ true → registers_ok p (cleared_if expires g) ≡ true
unfolding cleared_if
cleared-passes p true g e = cleared-registers p g e
cleared-passes p false g e = e

pub observed-ready : (s : State) (x : Sample) → state_ok s ≡ true → sample_ok x ≡ true → elapsed_of s.sample.stamp x.stamp ≤ 3600000 → Ready (observed_of s x)
unfolding observed_of
observed-ready s x e ok h =
    let k = apart s e in
    let ms = elapsed_of s.sample.stamp x.stamp in
    let most : units_of s.sample ms ≤ 7200000 = omega (arith, units-most s.sample ms) in
    record {
      profile = k.profile;
      settings = k.settings;
      registers = cleared-passes s.profile _ s.registers k.registers;
      cycle = timed s.profile s.phase (units_of s.sample ms) s.cycle k.cycle most;
      watchdog = counted-passes s.profile s.watchdog ms;
      sample = ok;
      flags = k.flags;
    }
