-- After an event and its settling the state is the account's, but for the flags; and where a cycle restarts.
use Prim.Native.Nat.{ℕ}
use mathlib.Core.Path.{◌≡◌, refl, sym, ap, ◌∙◌}
use mathlib.Core.Bool.{false, not, ◌&&◌, ◌||◌}
use lib.Dec.{leb, ltb, eqb}
use Rattle.base.specs.Pick.{pick}
use Rattle.state_parts.specs.Numbers.{phase_number}
use Rattle.state_parts.specs.declared.band.Band.{Band}
use Rattle.state_parts.specs.declared.profile.Profile.{Profile}
use Rattle.state_parts.specs.declared.state.State.{State}
use Rattle.settle_bands.specs.Joined.{pack_band}
use Rattle.settle_bands.specs.Holding.{bands_of}
use Rattle.settle_levels.specs.Comparators.{latches_of}
use Rattle.settle_phases.specs.Cycles.{cycle_of}
use Rattle.settle_phases.specs.Order.{clears_of, ends_of, phase_of}
use Rattle.settle_phases.specs.declared.tests.Tests.{Tests}
use Rattle.settle_all.specs.Gather.{tests_of}
use Rattle.settle_all.specs.Settle.{settled_of, settle_of}
use Rattle.laws_account.specs.History.{Run, powered, ◌▸◌, since, sum_after}
use Rattle.step_turns.specs.declared.later.Later.{Later}
use Rattle.laws_account.specs.Held.{profile_of, sample_of, was_observed, was_reset}
use Rattle.laws_account.specs.Judged.{input_ok, input_good, permitted}
use Rattle.laws_account.specs.Bands.{bands_at}
use Rattle.laws_account.specs.Cycles.{Stage, trickle, precharge, fast, is_done, was_done, restarts, starts, time_in, time_found, charge_ends, phase_by, phase_at}
use Rattle.laws_account.specs.States.{settings_at, registers_at, latches_at, watchdog_at, cycle_at, flags_at}
use Rattle.laws_account.specs.Runs.{RestartsExactly}
use Rattle.laws_account.proofs.Past.{phase-keeps-rule}
use Rattle.laws_account.proofs.Rule.{listed, Same, same-rule, restart-rule}
use Rattle.laws_account.proofs.Choices.{middle, cleared-or}
use Rattle.laws_account.proofs.Found.{cycle_found, found}
use Rattle.laws_account.proofs.Judging.{ready, forced-is, latches-are, pack-is, bands-are, tests_at, tests-are, not-both}

-- a run's state with these flags
abbrev pub flagged_with : Run → ℕ → State
flagged_with r flags = record {
  profile = profile_of r;
  settings = settings_at r;
  registers = registers_at r;
  latches = latches_at r;
  cycle = cycle_at phase_at r;
  watchdog = watchdog_at r;
  sample = sample_of r;
  phase = phase_at r;
  bands = bands_at r;
  flags = flags;
}

module _ (r : Run) (e : Later) where
  abbrev t : Tests
  t = tests_at r e

  rule : Same t
  rule = same-rule t (not-both r e)

  pub listed-is : phase_at (r ▸ e) ≡ listed (tests_at r e)
  unfolding phase_by charge_ends
  listed-is = phase-keeps-rule.rule (r ▸ e)

  phase-is : phase_of t ≡ phase_at (r ▸ e)
  phase-is = rule.phase ∙ sym listed-is

  abbrev number : ℕ
  number = phase_number (phase_at (r ▸ e))

  done-after : (eqb number 5 || leb 5 number && was_done phase_at (r ▸ e)) ≡ is_done phase_at (r ▸ e)
  unfolding is_done since was_done
  done-after = ap (λ b. eqb number 5 || b) (sym (middle (not (was_reset (r ▸ e))) (leb 5 number) (is_done phase_at r)))

  done-is : (ends_of t || (not (clears_of t) && was_done phase_at (r ▸ e))) ≡ is_done phase_at (r ▸ e)
  done-is = rule.done ∙ ap (λ q. eqb (phase_number q) 5 || leb 5 (phase_number q) && was_done phase_at (r ▸ e)) (sym listed-is) ∙ done-after

  clears-is : clears_of t ≡ (not (permitted (r ▸ e)) || restarts phase_at (r ▸ e))
  unfolding restarts
  clears-is = rule.clear ∙ ap (λ q. not (permitted (r ▸ e)) || was_done phase_at (r ▸ e) && ltb (phase_number q) 5) (sym listed-is)

  time-is : (s : Stage) → pick (clears_of t) 0 (time_found phase_at s (r ▸ e)) ≡ time_in phase_at s (r ▸ e)
  unfolding time_in time_found sum_after starts
  time-is s = rw clears-is (cleared-or (was_reset (r ▸ e)) _ _)

  cycle-is : cycle_of t (cycle_found (r ▸ e)) ≡ cycle_at phase_at (r ▸ e)
  unfolding cycle_of cycle_at
  cycle-is = λ i. record { trickle = time-is trickle i; precharge = time-is precharge i; fast = time-is fast i; done = done-is i }

  settled-ready : settled_of (ready r e) (latches_at (r ▸ e)) (bands_at (r ▸ e)) t ≡ flagged_with (r ▸ e) (flags_at phase_at r)
  unfolding settled_of profile_of
  settled-ready = λ i. record {
    profile = profile_of r;
    settings = settings_at (r ▸ e);
    registers = registers_at (r ▸ e);
    latches = latches_at (r ▸ e);
    cycle = cycle-is i;
    watchdog = watchdog_at (r ▸ e);
    sample = sample_of (r ▸ e);
    phase = phase-is i;
    bands = bands_at (r ▸ e);
    flags = flags_at phase_at r;
  }

  abbrev settled_from : State → State
  settled_from f =
      let k = latches_of f.profile f.settings f.registers f.sample f.latches in
      let b = bands_of f.profile f.registers f.sample f.bands in
      settled_of f k b (tests_of f k (pack_band b) (was_observed (r ▸ e)))

  pub settle_is : settle_of (found r e) (was_observed (r ▸ e)) ≡ flagged_with (r ▸ e) (flags_at phase_at r)
  unfolding settle_of
  settle_is =
      ap settled_from (forced-is r e)
      ∙ (λ i. settled_of (ready r e) (latches-are r e i) (bands-are r e i) (tests_of (ready r e) (latches-are r e i) (pack_band (bands-are r e i)) (was_observed (r ▸ e))))
      ∙ ap (λ (b : Band). settled_of (ready r e) (latches_at (r ▸ e)) (bands_at (r ▸ e)) (tests_of (ready r e) (latches_at (r ▸ e)) b (was_observed (r ▸ e)))) (pack-is (r ▸ e))
      ∙ ap (settled_of (ready r e) (latches_at (r ▸ e)) (bands_at (r ▸ e))) (tests-are r e)
      ∙ settled-ready

  restart-next : (permitted (r ▸ e) && restarts phase_at (r ▸ e)) ≡ (t.permitted && not t.fault && not t.suspended && t.done && t.recharge)
  unfolding restarts
  restart-next = ap (λ q. permitted (r ▸ e) && (was_done phase_at (r ▸ e) && ltb (phase_number q) 5)) listed-is ∙ restart-rule t rule

idle-start : (p : Profile) → permitted (powered p) ≡ false
unfolding permitted input_good input_ok since sample_of
idle-start p = refl

pub restarts-exactly : RestartsExactly
restarts-exactly (powered p) = rw (idle-start p)
restarts-exactly (r ▸ e) = restart-next r e
