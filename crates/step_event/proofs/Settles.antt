-- Settling a state whose parts hold what they may, whichever stage is held, gives one that holds what it may.
use Rattle.std.proofs.Common.{◌≡◌, ℕ, zero, suc, ◌+◌, ◌*◌, ◌<◌, Bool, true, false, ◌||◌, leb, refl, ap, ◌∙◌, arith, lt-ltb, ne_eqb, le-leb, leb-false}
use mathlib.Core.Bool.{and-true, and-false}
use Rattle.base.specs.Pick.{pick}
use Rattle.base.proofs.Tests.{neither}
use Rattle.state_parts.specs.Edges.{all_flags}
use Rattle.state_parts.specs.declared.cycle.Cycle.{Cycle}
use Rattle.state_parts.specs.declared.phase.Phase.{Phase}
use Rattle.state_parts.specs.declared.phase.Phase.TheVariants.{Idle, Trickle, Precharge, Fast, Taper, Done, Suspended, Fault}
use Rattle.state_parts.specs.declared.profile.Profile.{Profile}
use Rattle.state_parts.specs.declared.settings.Settings.{Settings}
use Rattle.state_parts.specs.declared.state.State.{State}
use Rattle.settle_phases.specs.Cycles.{cycle_of}
use Rattle.state_parts.specs.Stages.{in_trickle, in_precharge, in_fast, charging}
use Rattle.settle_phases.specs.Order.{clears_of}
use Rattle.settle_phases.specs.declared.tests.Tests.{Tests}
use Rattle.settle_permission.specs.Limits.{limit_reached, reached_of}
use Rattle.state_settings.specs.Kept.{settings_ok}
use Rattle.state_settings.specs.Numbered.{store_of}
use Rattle.state_settings.specs.Ranges.{ranges, range_of, may_hold}
use Rattle.state_settings.proofs.Stores.{store-passes}
use Rattle.state_valid.specs.Holds.{profile_ok, sample_ok, registers_ok, stage_ok, cycle_ok, watchdog_ok, state_ok}
use Rattle.state_valid.proofs.Bounds.{stage-below, stages-apart, stages-whole}
use Rattle.state_valid.proofs.Wholes.{apart, whole}
use Rattle.settle_levels.specs.Clamps.{fault_of}
use Rattle.settle_all.specs.Settle.{stored_of, settle_of}
use Rattle.settle_bands.specs.Holding.{bands_of}
use Rattle.settle_all.specs.Theorems.{tested_in, PhaseRules}
use Rattle.settle_all.proofs.Rules.{phase-rules}

-- a state before it settles: as one that holds what it may, but a stage may have passed its limit, as in idle
pub record Ready (s : State) : Type 0 where
  pub profile : profile_ok s.profile ≡ true
  pub settings : settings_ok s.profile s.settings ≡ true
  pub registers : registers_ok s.profile s.registers ≡ true
  pub cycle : cycle_ok s.cycle s.profile Idle ≡ true
  pub watchdog : watchdog_ok s.watchdog s.profile ≡ true
  pub sample : sample_ok s.sample ≡ true
  pub flags : leb s.flags all_flags ≡ true

-- a stage that isn't held passes its limit by less than one observation's most
pub in-time : (n time : ℕ) → time < suc n * 2000 + 7200000 → stage_ok (suc n) false time ≡ true
in-time n time h = simp (ne_eqb (suc n) 0 (λ z. omega arith), le-leb 1 (suc n) (omega arith), lt-ltb time (suc n * 2000 + 7200000) h)

-- a stage that is held may hold less
loose-stage : (limit time : ℕ) (stage : Bool) → stage_ok limit stage time ≡ true → stage_ok limit false time ≡ true
loose-stage limit time false e = e
loose-stage zero time true e = e
loose-stage (suc n) time true e = in-time n time (stage-below (suc n) true time e)

pub loose : (y : Cycle) (p : Profile) (phase : Phase) → cycle_ok y p phase ≡ true → cycle_ok y p Idle ≡ true
loose y p phase e =
    let k = stages-apart y p phase e in
    stages-whole y p Idle (record {
      trickle = loose-stage p.trickle y.trickle (in_trickle phase) k.trickle;
      precharge = loose-stage p.precharge y.precharge (in_precharge phase) k.precharge;
      fast = loose-stage p.fast y.fast (in_fast phase) k.fast;
    })

pub ready : (s : State) → state_ok s ≡ true → Ready s
ready s e =
    let k = apart s e in
    record {
      profile = k.profile;
      settings = k.settings;
      registers = k.registers;
      cycle = loose s.cycle s.profile s.phase k.cycle;
      watchdog = k.watchdog;
      sample = k.sample;
      flags = k.flags;
    }

-- EN_CHG forced to 0 is a setting that a set may give
off-may : (p : Profile) → may_hold p 9 0 ≡ true
unfolding may_hold range_of ranges
off-may p = refl

forced : (t : Settings) → stored_of true t ≡ store_of t 9 0
unfolding store_of
forced t = simp (and-false t.enchg)

stored-passes : (p : Profile) (fault : Bool) (t : Settings) → settings_ok p t ≡ true → settings_ok p (stored_of fault t) ≡ true
stored-passes p true t e = ap (settings_ok p) (forced t) ∙ store-passes p t 9 0 (off-may p) e
stored-passes p false t e = simp (and-true t.enchg) e

-- times that are kept or cleared
kept-stage : (limit time : ℕ) (clears : Bool) → stage_ok limit false time ≡ true → stage_ok limit false (pick clears 0 time) ≡ true
kept-stage limit time false e = e
kept-stage zero time true e = refl
kept-stage (suc n) time true e = in-time n 0 (omega arith)

kept : (t : Tests) (y : Cycle) (p : Profile) → cycle_ok y p Idle ≡ true → cycle_ok (cycle_of t y) p Idle ≡ true
unfolding cycle_of
kept t y p e =
    let k = stages-apart y p Idle e in
    stages-whole (cycle_of t y) p Idle (record {
      trickle = kept-stage p.trickle y.trickle (clears_of t) k.trickle;
      precharge = kept-stage p.precharge y.precharge (clears_of t) k.precharge;
      fast = kept-stage p.fast y.fast (clears_of t) k.fast;
    })

-- a stage whose limit isn't reached may be held
held_stage : (limit time : ℕ) (stage : Bool) → stage_ok limit false time ≡ true → limit_reached limit time ≡ false → stage_ok limit stage time ≡ true
held_stage limit time false e r = e
held_stage zero time true e r = e
held_stage (suc n) time true e r =
    let some = ne_eqb (suc n) 0 (λ z. omega arith) in
    let below = leb-false (suc n * 2000) time (simp some at r) in
    simp (some, le-leb 1 (suc n) (omega arith), lt-ltb time (suc n * 2000 + 7200000) (omega arith), lt-ltb time (suc n * 2000) below)

module _ (y : Cycle) (p : Profile) (loosely : cycle_ok y p Idle ≡ true) where
  -- where no limit is reached any stage may be held
  unreached : (phase : Phase) → reached_of p y ≡ false → cycle_ok y p phase ≡ true
  unfolding reached_of
  unreached phase e =
      let k = stages-apart y p Idle loosely in
      let two = neither (limit_reached p.trickle y.trickle || limit_reached p.precharge y.precharge) (limit_reached p.fast y.fast) e in
      let one = neither (limit_reached p.trickle y.trickle) (limit_reached p.precharge y.precharge) two.0 in
      stages-whole y p phase (record {
        trickle = held_stage p.trickle y.trickle (in_trickle phase) k.trickle one.0;
        precharge = held_stage p.precharge y.precharge (in_precharge phase) k.precharge one.1;
        fast = held_stage p.fast y.fast (in_fast phase) k.fast two.1;
      })

  -- and else no stage is held
  tight : (phase : Phase) → (charging phase ≡ true → reached_of p y ≡ false) → cycle_ok y p phase ≡ true
  unfolding cycle_ok
  tight Idle h = loosely
  tight Trickle h = unreached Trickle (h refl)
  tight Precharge h = unreached Precharge (h refl)
  tight Fast h = unreached Fast (h refl)
  tight Taper h = unreached Taper (h refl)
  tight Done h = loosely
  tight Suspended h = loosely
  tight Fault h = loosely

pub settled-passes : (s : State) (observed : Bool) → Ready s → state_ok (settle_of s observed) ≡ true
unfolding settle_of
settled-passes s observed k =
    let after = settle_of s observed in
    let rules : PhaseRules bands_of = phase-rules bands_of in
    let u = rules.alone s observed in
    let cycled : cycle_ok after.cycle s.profile Idle ≡ true =
    ap (λ (y : Cycle). cycle_ok y s.profile Idle) (rules.moved s observed).cycle ∙ kept (tested_in bands_of s observed) s.cycle s.profile k.cycle in
    whole after (record {
      profile = ap profile_ok u.profile ∙ k.profile;
      settings = (λ i. settings_ok (u.profile i) (u.settings i)) ∙ stored-passes s.profile (fault_of s.profile s.registers) s.settings k.settings;
      registers = (λ i. registers_ok (u.profile i) (u.registers i)) ∙ k.registers;
      cycle = ap (λ (p : Profile). cycle_ok after.cycle p after.phase) u.profile ∙ tight after.cycle s.profile cycled after.phase (rules.below s observed);
      watchdog = simp (u.watchdog, u.profile) k.watchdog;
      sample = ap sample_ok u.sample ∙ k.sample;
      flags = ap (λ f. leb f all_flags) u.flags ∙ k.flags;
    })
