-- What a power-on begins with, and a register reset returns to, holds what it may.
use Prim.Native.Nat.{ℕ, zero, suc, ◌+◌, ◌*◌, ◌≤◌}
use mathlib.Core.Path.{◌≡◌, refl}
use mathlib.Core.Bool.{Bool, true, false, ◌&&◌}
use native.Mathlib.Omega.{arith}
use borrow.Author.Tests.{le-leb, lt-ltb, ne_eqb}
use Rattle.base.specs.Units.{in_pack}
use Rattle.base.proofs.Span.{tested, all_of}
use Rattle.state_table.specs.Rows.{Field, fields, fields_of, fsw, frequency_ok}
use Rattle.state_fields.specs.Words.{put_at, with_word, put_in}
use Rattle.state_fields.specs.Held.{field_in, gathered, start_words}
use Rattle.state_fields.proofs.Sound.{gathered-sound}
use Rattle.state_start.proofs.Anchors.{coded}
use Rattle.state_start.specs.Values.{start_vreg, start_ichg, start_vsysmin, start_settings, start_registers, start_sample, start_cycle, start_watchdog, start_state}
use Rattle.state_parts.specs.Stages.{limit_units}
use Rattle.state_parts.specs.declared.phase.Phase.{Phase}
use Rattle.state_parts.specs.declared.phase.Phase.TheVariants.{Idle}
use Rattle.state_parts.specs.declared.profile.Profile.{Profile}
use Rattle.state_settings.specs.Kept.{settings_ok}
use Rattle.state_valid.specs.Holds.{profile_ok, sample_ok, registers_ok, stage_ok, cycle_ok, watchdog_ok, state_ok}
use Rattle.state_settings.specs.Numbered.{setting_numbers, held_of}
use Rattle.state_settings.specs.Ranges.{ranges, range_of, may_hold}
use Rattle.state_valid.proofs.Bounds.{profile-bounds}
use Rattle.state_valid.proofs.Wholes.{whole}

-- the settings that start at the same value whatever the pins say
others-may : (p : Profile) (a b d : Bool) → a ≡ true → b ≡ true → d ≡ true
    → (a && b && may_hold p 3 120 && may_hold p 4 60 && may_hold p 5 3300 && d && may_hold p 7 3 && may_hold p 8 3 && may_hold p 9 1 && may_hold p 10 1 && may_hold p 11 0 && may_hold p 12 1 && may_hold p 13 0 && may_hold p 14 0) ≡ true
unfolding may_hold range_of ranges
others-may p a b d ea eb ed = simp (ea, eb, ed)

module _ (p : Profile) (cells : ℕ) (v : p.vchg ≤ 7) (i : p.ichg ≤ 7) (c : cells ≤ 7) where
  pub vreg-may : may_hold p 1 (start_vreg p cells).0 ≡ true
  unfolding start_vreg in_pack may_hold range_of ranges
  vreg-may =
      let test : ℕ → ℕ → Bool = λ code count. may_hold p 1 (start_vreg (coded 0 code 0) count).0 in
      tested (test p.vchg) 0 8 cells
      (tested (λ (code : ℕ). all_of (test code) 0 8) 0 8 p.vchg refl (omega arith) (omega arith)) (omega arith) (omega arith)

  ichg-may : may_hold p 2 (start_ichg p) ≡ true
  unfolding start_ichg may_hold range_of ranges
  ichg-may = tested (λ (code : ℕ). may_hold p 2 (start_ichg (coded 0 0 code))) 0 8 p.ichg refl (omega arith) (omega arith)

  pub vsysmin-may : may_hold p 6 (start_vsysmin p cells).0 ≡ true
  unfolding start_vsysmin in_pack may_hold range_of ranges
  vsysmin-may = tested (λ (count : ℕ). may_hold p 6 (start_vsysmin p count).0) 0 8 cells refl (omega arith) (omega arith)

  pub start-settings-pass : settings_ok p (start_settings p cells) ≡ true
  unfolding settings_ok start_settings held_of setting_numbers
  start-settings-pass = others-may p _ _ _ vreg-may ichg-may vsysmin-may

-- FSW starts with 1
start-frequency : (p : Profile) → frequency_ok p (field_in fsw (gathered p (λ (f : Field). f.reset))) ≡ true
unfolding gathered fields_of fields put_in with_word put_at
start-frequency p = refl

pub start-registers-pass : (p : Profile) → p.cell ≤ 7 → registers_ok p (start_registers p) ≡ true
unfolding registers_ok start_words
start-registers-pass p c = simp (gathered-sound p (λ (f : Field). f.reset), start-frequency p, le-leb p.cell 7 c)

-- no time is within any limit
nothing-used : (limit : ℕ) (stage : Bool) → stage_ok limit stage 0 ≡ true
nothing-used zero stage = refl
nothing-used (suc limit) true =
    simp (ne_eqb (suc limit) 0 (λ e. omega arith), le-leb 1 (suc limit) (omega arith), lt-ltb 0 (limit_units (suc limit) + 7200000) (omega arith), lt-ltb 0 (limit_units (suc limit)) (omega arith))
nothing-used (suc limit) false =
    simp (ne_eqb (suc limit) 0 (λ e. omega arith), le-leb 1 (suc limit) (omega arith), lt-ltb 0 (limit_units (suc limit) + 7200000) (omega arith))

pub start-cycle-pass : (p : Profile) (phase : Phase) → cycle_ok start_cycle p phase ≡ true
unfolding cycle_ok
start-cycle-pass p phase = simp nothing-used

pub start-watchdog-pass : (p : Profile) → watchdog_ok start_watchdog p ≡ true
unfolding watchdog_ok
start-watchdog-pass p = le-leb 0 (p.watchdog * 1000) (omega arith)

pub start-sample-pass : (p : Profile) → sample_ok (start_sample p) ≡ true
unfolding sample_ok
start-sample-pass p = refl

-- a power-on in its ranges begins with a state that holds what it may
pub start-passes : (p : Profile) → profile_ok p ≡ true → state_ok (start_state p) ≡ true
unfolding start_state
start-passes p e =
    let b = profile-bounds p e in
    whole (start_state p) (record {
      profile = e;
      settings = start-settings-pass p p.cell b.vchg b.ichg b.cell;
      registers = start-registers-pass p b.cell;
      cycle = start-cycle-pass p Idle;
      watchdog = start-watchdog-pass p;
      sample = start-sample-pass p;
      flags = refl;
    })
