-- The account, the charge cycle: done, where a cycle starts, the time of each stage in it, faults and the phase.
use Rattle.std.specs.Prelude.{ℕ, ◌+◌, ◌*◌, ◌≡◌, Bool, false, not, ◌&&◌, ◌||◌, List, [], ◌∷◌, ◌++◌, get_or, leb, ltb, eqb}
use Rattle.base.specs.Pick.{pick}
use Rattle.state_parts.specs.Numbers.{phase_number}
use Rattle.state_parts.specs.declared.phase.Phase.{Phase}
use Rattle.state_parts.specs.declared.phase.Phase.TheVariants.{Idle, Trickle, Precharge, Fast, Taper, Done, Suspended, Fault}
use Rattle.state_parts.specs.declared.profile.Profile.{Profile}
use Rattle.settle_permission.specs.Bits.{shutdown_of}
use Rattle.laws_account.specs.History.{Run, powered, ◌▸◌, since, sum_after, count}
use Rattle.laws_account.specs.Held.{profile_of, sample_of, regulated, elapsed, was_observed, was_reset}
use Rattle.laws_account.specs.Judged.{short, low, pack_over, permitted, suspended, tapering, recharge_due, ending}

-- the stages that have a limit: "trickle, precharge; fast and taper share one"
pub data Stage : Type 0 where
  trickle precharge fast : Stage

abbrev pub limit_of : Stage → Profile → ℕ
limit_of trickle p = p.trickle
limit_of precharge p = p.precharge
limit_of fast p = p.fast

-- the phases in each: "1 trickle (short); 2 precharge (low); 4 taper, ..; 3 fast"
abbrev pub held_in : Stage → Phase → Bool
held_in trickle phase = eqb (phase_number phase) 1
held_in precharge phase = eqb (phase_number phase) 2
held_in fast phase = eqb (phase_number phase) 3 || eqb (phase_number phase) 4

-- "two units per ms, one while the old sample shows any regulation"
unfoldable pub units_after : Run → ℕ → ℕ
units_after r ms = pick (regulated r) ms (ms * 2)

-- "A limit of s seconds is reached at 2,000s units; a limit 0 counts nothing."
abbrev pub reaches : ℕ → ℕ → Bool
reaches limit units = not (eqb limit 0) && leb (limit * 2000) units

-- From here on P is the phase at each moment. The rule for the phase after r ▸ e, `phase_by`, reads P at r and before alone.
module _ (P : Run → Phase) where
  abbrev pub number_at : Run → ℕ
  number_at r = phase_number (P r)

  -- "1. Time since the last stamp goes to the stage held before it": what the last event gave a stage
  unfoldable pub gave : Stage → Run → ℕ
  gave s (powered p) = 0
  gave s (r ▸ e) = pick (held_in s (P r) && not (eqb (limit_of s (profile_of r)) 0)) (units_after r (elapsed (r ▸ e))) 0

  -- done: phase 5 was reported, and since then neither a reset nor a phase but 5, 6 and 7, in which it is kept
  unfoldable pub is_done : Run → Bool
  is_done = since (λ m. not (was_reset m) && leb 5 (number_at m)) (λ m. eqb (number_at m) 5)

  -- the same as the last event's settling finds it
  unfoldable pub was_done : Run → Bool
  was_done (powered p) = false
  was_done (r ▸ e) = not (was_reset (r ▸ e)) && is_done r

  -- "When phase 5 would hold and VBAT is below [the recharge point], done and times clear": charging again after done
  unfoldable pub restarts : Run → Bool
  restarts r = was_done r && ltb (number_at r) 5

  -- "A cycle starts where they last cleared: here, at a restart below, a reset or power-on."
  unfoldable pub starts : Run → Bool
  starts r = was_reset r || (not (permitted r) || restarts r)

  -- the time that a stage has run in the present cycle, in half milliseconds
  unfoldable pub time_in : Stage → Run → ℕ
  time_in s = sum_after starts (gave s)

  -- the same as the last event's settling finds it
  unfoldable pub time_found : Stage → Run → ℕ
  time_found s (powered p) = 0
  time_found s (r ▸ e) = pick (was_reset (r ▸ e)) 0 (time_in s r + gave s (r ▸ e))

  unfoldable pub limit_found : Stage → Run → Bool
  limit_found s r = reaches (limit_of s (profile_of r)) (time_found s r)

  -- "7 fault, thermal shutdown, battery over or a stage limit reached"
  unfoldable pub fault : Run → Bool
  fault r = shutdown_of (sample_of r) || pack_over r || (limit_found trickle r || limit_found precharge r || limit_found fast r)

  -- "Done begins .. only on an observation: phase 4 held before it and judged after it, EN_TERM, IBAT < ITERM, no regulation"; 02, R-2: "One test fewer", that of the recharge point
  unfoldable pub charge_ends : Run → Bool
  charge_ends (powered p) = false
  charge_ends (r ▸ e) =
      was_observed (r ▸ e) && eqb (number_at r) 4
      && (not (short (r ▸ e)) && not (low (r ▸ e)) && tapering (r ▸ e) && ending (r ▸ e))

  -- "Phase, first that holds: 0 idle, no permission; 7 fault, ..; 6 suspended, ..; 5 done; 1 trickle (short); 2 precharge (low); 4 taper, ..; 3 fast."
  unfoldable pub phase_by : Run → Phase
  phase_by r =
      pick (not (permitted r)) Idle
      (pick (fault r) Fault
      (pick (suspended r) Suspended
      (pick (was_done r && not (recharge_due r) || charge_ends r) Done
      (pick (short r) Trickle
      (pick (low r) Precharge
      (pick (tapering r) Taper
      Fast))))))

  -- a limit is reached in the present cycle
  unfoldable pub limit_reached : Run → Bool
  limit_reached r =
      reaches (limit_of trickle (profile_of r)) (time_in trickle r)
      || reaches (limit_of precharge (profile_of r)) (time_in precharge r)
      || reaches (limit_of fast (profile_of r)) (time_in fast r)

-- P is a run's phases: at each moment what the rule makes of the moments before
pub record Keeps (P : Run → Phase) : Type 0 where
  pub rule : (r : Run) → P r ≡ phase_by P r

-- the phases after 0, 1, 2 .. events of a run, each by the rule from those before it
unfoldable pub phases_of : Run → List Phase
phases_of (powered p) = phase_by (λ m. Idle) (powered p) ∷ []
phases_of (r ▸ e) = phases_of r ++ (phase_by (λ m. get_or (phases_of r) (count m) Idle) (r ▸ e) ∷ [])

-- the phase after a run
unfoldable pub phase_at : Run → Phase
phase_at r = get_or (phases_of r) (count r) Idle
