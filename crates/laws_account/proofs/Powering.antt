-- The state that a power-on makes is the account's of a run without later events.
use Prim.Native.Nat.{ℕ, ◌*◌, ◌-◌, ◌<◌}
use native.Mathlib.Omega.{arith}
use mathlib.Core.Path.{◌≡◌, refl, sym, ap, ◌∙◌}
use mathlib.Core.Bool.{Bool, true, false, not, ◌&&◌, ◌||◌}
use Rattle.base.specs.Units.{below, below_share}
use Rattle.state_parts.specs.Edges.{no_flags, power_on_flags}
use Rattle.state_parts.specs.declared.phase.Phase.TheVariants.{Idle}
use Rattle.state_parts.specs.declared.profile.Profile.{Profile}
use Rattle.state_parts.specs.declared.state.State.{State}
use Rattle.state_start.specs.Values.{start_settings, start_registers, start_latches, start_cycle, start_watchdog, start_sample, start_bands, start_state}
use Rattle.state_valid.specs.Holds.{profile_ok}
use Rattle.settle_bands.specs.Joined.{pack_band}
use Rattle.settle_bands.specs.Holding.{bands_of}
use Rattle.state_fields.specs.Held.{start_words}
use Rattle.settle_levels.specs.Clamps.{fault_of}
use Rattle.settle_levels.specs.Comparators.{input_ok_of, input_over_of, short_of, low_of, pack_over_of, latches_of}
use Rattle.settle_permission.specs.Permission.{permitted_of}
use Rattle.settle_phases.specs.Cycles.{cycle_of}
use Rattle.settle_phases.specs.Order.{judged_of, clears_of, ends_of, phase_of}
use Rattle.settle_all.specs.Gather.{tests_of}
use Rattle.settle_all.specs.Settle.{stored_of, forced_of, settled_of, settle_of}
use Rattle.state_parts.specs.With.{with_flags}
use Rattle.laws_account.specs.History.{Run, powered, since, sum_after, count}
use Rattle.laws_account.specs.Held.{profile_of, sample_of, unserved, cells_of, field_at}
use Rattle.laws_account.specs.Valued.{pin_fault, start_value, setting_of}
use Rattle.laws_account.specs.Judged.{vbat, base_at, low_ends, input_ok, input_over, input_good, cell_point, short, low, pack_over, permitted}
use Rattle.laws_account.specs.Bands.{first_ts, second_ts, bands_at}
use Rattle.laws_account.specs.Cycles.{is_done, time_in, phase_by, phases_of, phase_at}
use Rattle.laws_account.specs.Flagged.{was_taken, flagged}
use Rattle.laws_account.specs.States.{settings_at, registers_at, latches_at, watchdog_at, cycle_at, flags_at, state_by, state_of}
use Rattle.laws_account.proofs.Choices.{zero-low}
use Rattle.laws_account.proofs.Values.{start_is, force-is}
use Rattle.laws_account.proofs.Judging.{fault-is, base-is}
use Rattle.laws_account.proofs.Banding.{start_is as start-band-is}
use Rattle.laws_account.proofs.Settling.{flagged_with}
use Rattle.laws_account.proofs.Starting.{below-short, below-any}

-- what a power-on leaves
abbrev pub powered_of : Profile → State
powered_of p = with_flags (settle_of (start_state p) false) power_on_flags

-- VBAT_LOWV starts at 3
low-pos : (p : Profile) → 0 < low_ends (powered p) - 50
unfolding setting_of start_value
low-pos p = omega arith

module _ (p : Profile) where
  abbrev on : Run
  on = powered p

  registers-start : start_registers p ≡ registers_at (powered p)
  unfolding registers_at field_at cells_of start_words profile_of
  registers-start = refl

  settings-start : stored_of (fault_of p (start_registers p)) (start_settings p p.cell) ≡ settings_at (powered p)
  unfolding settings_at setting_of profile_of
  settings-start =
      ap (λ g. stored_of (fault_of p g) (start_settings p p.cell)) registers-start
      ∙ ap (λ b. stored_of b (start_settings p p.cell)) (fault-is (powered p))
      ∙ ap (stored_of (pin_fault on)) (start_is p p.cell)
      ∙ force-is (start_value p p.cell) (pin_fault on)

  -- what settling goes on from
  abbrev begun : State
  begun = record {
    profile = p;
    settings = settings_at (powered p);
    registers = registers_at (powered p);
    latches = start_latches;
    cycle = start_cycle;
    watchdog = start_watchdog;
    sample = start_sample p;
    phase = Idle;
    bands = start_bands;
    flags = no_flags;
  }

  forced-start : forced_of (start_state p) ≡ begun
  unfolding forced_of start_state
  forced-start = λ i. record {
    profile = p;
    settings = settings-start i;
    registers = registers-start i;
    latches = start_latches;
    cycle = start_cycle;
    watchdog = start_watchdog;
    sample = start_sample p;
    phase = Idle;
    bands = start_bands;
    flags = no_flags;
  }

  module _ (ok : profile_ok p ≡ true) where
    abbrev short_returns : Bool
    short_returns = below (vbat on) (cell_point 1850 2000 on)

    short-start : (fault stays : Bool) → pin_fault on ≡ fault → (fault || (short_returns || (true && stays))) ≡ true
    short-start true stays h = refl
    short-start false stays h = rw (below-short p ok h)

    low-start : (fault stays : Bool) (share : ℕ) → 0 < share → pin_fault on ≡ fault → (fault || (below_share (vbat on) (base_at on) share || (true && stays))) ≡ true
    low-start true stays share s h = refl
    low-start false stays share s h = rw (below-any p ok h share s)

    over-start : (fault stays : Bool) → pin_fault on ≡ fault → (not fault && (not (below_share (vbat on) (base_at on) 1040) || (false && stays))) ≡ false
    over-start true stays h = refl
    over-start false stays h = rw (below-any p ok h 1040 (omega arith))

    -- the comparators by the account's pin fault and base voltage
    levels-start : latches_of p (settings_at on) (registers_at on) (start_sample p) start_latches ≡ record {
      inputok = input_ok_of p (start_sample p) false;
      inputover = input_over_of p (start_sample p) false;
      short = pin_fault on || short_of p (registers_at on) (start_sample p) true;
      low = pin_fault on || low_of p (settings_at on) (base_at on) (start_sample p) true;
      packover = not (pin_fault on) && pack_over_of p (base_at on) (start_sample p) false;
    }
    unfolding latches_of profile_of
    levels-start = λ i. record {
      inputok = input_ok_of p (start_sample p) false;
      inputover = input_over_of p (start_sample p) false;
      short = fault-is on i || short_of p (registers_at on) (start_sample p) true;
      low = fault-is on i || low_of p (settings_at on) (base-is on i) (start_sample p) true;
      packover = not (fault-is on i) && pack_over_of p (base-is on i) (start_sample p) false;
    }

    latches-start : latches_of p (settings_at on) (registers_at on) (start_sample p) start_latches ≡ latches_at on
    unfolding latches_of latches_at input_ok input_over short low pack_over since short_of low_of pack_over_of vbat settings_at registers_at profile_of sample_of cells_of
    latches-start = levels-start ∙ λ i. record {
      inputok = false;
      inputover = false;
      short = short-start (pin_fault on) (below (vbat on) (cell_point 2150 2200 on)) refl i;
      low = low-start (pin_fault on) (below_share (vbat on) (base_at on) (low_ends on)) (low_ends on - 50) (low-pos p) refl i;
      packover = over-start (pin_fault on) (not (below_share (vbat on) (base_at on) 1020)) refl i;
    }

    phase-start : Idle ≡ phase_at on
    unfolding phase_at phases_of phase_by count permitted input_good input_ok since sample_of
    phase-start = refl

    done-start : false ≡ is_done phase_at on
    unfolding is_done since
    done-start = rw (sym phase-start)

    settled-start : settled_of begun (latches_at on) (bands_at on) (tests_of begun (latches_at on) (pack_band (bands_at on)) false) ≡ flagged_with on no_flags
    unfolding settled_of tests_of cycle_of phase_of judged_of ends_of clears_of permitted_of latches_at input_ok since sample_of profile_of cycle_at time_in sum_after watchdog_at unserved
    settled-start = λ i. record {
      profile = p;
      settings = settings_at on;
      registers = registers_at on;
      latches = latches_at on;
      cycle = record { trickle = 0; precharge = 0; fast = 0; done = done-start i };
      watchdog = record { count = zero-low (p.watchdog * 1000) i };
      sample = start_sample p;
      phase = phase-start i;
      bands = bands_at on;
      flags = no_flags;
    }

    abbrev settled_from : State → State
    settled_from f =
        let k = latches_of f.profile f.settings f.registers f.sample f.latches in
        let b = bands_of f.profile f.registers f.sample f.bands in
        settled_of f k b (tests_of f k (pack_band b) false)

    bands-start : bands_of p (registers_at on) (start_sample p) start_bands ≡ bands_at on
    unfolding bands_of bands_at sample_of
    bands-start = λ i. record { first = start-band-is first_ts p i; second = start-band-is second_ts p i }

    settle-start : settle_of (start_state p) false ≡ flagged_with on no_flags
    unfolding settle_of
    settle-start =
        ap settled_from forced-start
        ∙ (λ i. settled_of begun (latches-start i) (bands-start i) (tests_of begun (latches-start i) (pack_band (bands-start i)) false))
        ∙ settled-start

    pub powered-is : powered_of p ≡ state_of (powered p)
    unfolding state_by flags_at flagged since was_taken
    powered-is = ap (λ s. with_flags s power_on_flags) settle-start
