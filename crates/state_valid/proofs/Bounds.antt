-- Bounds that a part keeps which holds what it may.
use Prim.Native.Nat.{ℕ, ◌+◌, ◌*◌, ◌≤◌, ◌<◌}
use mathlib.Core.Path.{◌≡◌, refl}
use mathlib.Core.Bool.{Bool, true, false, not, ◌&&◌, ◌||◌}
use mathlib.Core.Logic.{◌⊎◌, inl, inr, ⊎_elim}
use lib.Dec.{leb, ltb, eqb}
use native.Mathlib.Omega.{arith}
use Rattle.base.proofs.Tests.{and-iff, leb-iff, eqb-iff}
use Rattle.state_parts.specs.Stages.{in_trickle, in_precharge, in_fast, limit_units}
use Rattle.state_parts.specs.declared.cycle.Cycle.{Cycle}
use Rattle.state_parts.specs.declared.phase.Phase.{Phase}
use Rattle.state_parts.specs.declared.profile.Profile.{Profile}
use Rattle.state_parts.specs.declared.registers.Registers.{Registers}
use Rattle.state_parts.specs.declared.sample.Sample.{Sample}
use Rattle.state_parts.specs.declared.settings.Settings.{Settings}
use Rattle.state_parts.specs.declared.watchdog.Watchdog.{Watchdog}
use Rattle.state_settings.specs.Kept.{settings_ok}
use Rattle.state_valid.specs.Holds.{profile_ok, sample_ok, registers_ok, stage_ok, cycle_ok, watchdog_ok}
use Rattle.state_settings.specs.Numbered.{setting_numbers, held_of}
use Rattle.state_settings.specs.Ranges.{last_setting, ranges, range_of}
use Rattle.state_settings.proofs.Steps.{at_most}
use Rattle.state_settings.proofs.Stores.{each-may}

pub record ProfileBounds (p : Profile) : Type 0 where
  pub cell : p.cell ≤ 7
  pub vchg : p.vchg ≤ 7
  pub ichg : p.ichg ≤ 7
  pub ohms : p.ohms ≤ 33000
  pub ceiling_least : 4350 ≤ p.ceiling
  pub ceiling : p.ceiling ≤ 4714
  pub trickle : p.trickle ≤ 172800
  pub precharge : p.precharge ≤ 172800
  pub fast : p.fast ≤ 172800
  pub watchdog : p.watchdog ≤ 172800
  pub edition_least : 1 ≤ p.edition
  pub edition : p.edition ≤ 2

pub profile-bounds : (p : Profile) → profile_ok p ≡ true → ProfileBounds p
unfolding profile_ok
profile-bounds p e =
    let k = simp (and-iff, leb-iff) at e in
    record {
      cell = omega arith;
      vchg = omega arith;
      ichg = omega arith;
      ohms = omega arith;
      ceiling_least = omega arith;
      ceiling = omega arith;
      trickle = omega arith;
      precharge = omega arith;
      fast = omega arith;
      watchdog = omega arith;
      edition_least = omega arith;
      edition = omega arith;
    }

pub record SampleBounds (x : Sample) : Type 0 where
  pub input : x.input ≤ 45000
  pub pack : x.pack ≤ 45000
  pub ts : x.ts ≤ 100000
  pub secondts : x.secondts ≤ 100000
  pub bits : x.bits ≤ 63

pub sample-bounds : (x : Sample) → sample_ok x ≡ true → SampleBounds x
unfolding sample_ok
sample-bounds x e =
    let k = simp (and-iff, leb-iff) at e in
    record { input = omega arith; pack = omega arith; ts = omega arith; secondts = omega arith; bits = omega arith }

pub few-cells : (p : Profile) (g : Registers) → registers_ok p g ≡ true → g.cells ≤ 7
unfolding registers_ok
few-cells p g e = omega (arith, simp (and-iff, leb-iff) at e)

pub dog-most : (w : Watchdog) (p : Profile) → watchdog_ok w p ≡ true → w.count ≤ p.watchdog * 1000
unfolding watchdog_ok
dog-most w p e = omega (arith, simp leb-iff at e)

pub record SettingsBounds (s : Settings) : Type 0 where
  pub vreg : s.vreg.0 ≤ 33000
  pub ichg : s.ichg ≤ 3300
  pub iprechg : s.iprechg ≤ 620
  pub iterm : s.iterm ≤ 620
  pub iindpm : s.iindpm ≤ 3300
  pub vsysmin : s.vsysmin.0 ≤ 28000
  pub lowv : s.lowv ≤ 3
  pub vrechg : s.vrechg ≤ 3
  pub masks : s.masks ≤ 4095

pub settings-bounds : (p : Profile) (s : Settings) → settings_ok p s ≡ true → SettingsBounds s
unfolding settings_ok held_of setting_numbers range_of ranges
settings-bounds p s e =
    let most : (n : ℕ) → 1 ≤ n → n ≤ last_setting → held_of s n ≤ (range_of p n).high = λ n h k. at_most p n (held_of s n) (each-may p s 14 n e h k) in
    record {
      vreg = most 1 (omega arith) (omega arith);
      ichg = most 2 (omega arith) (omega arith);
      iprechg = most 3 (omega arith) (omega arith);
      iterm = most 4 (omega arith) (omega arith);
      iindpm = most 5 (omega arith) (omega arith);
      vsysmin = most 6 (omega arith) (omega arith);
      lowv = most 7 (omega arith) (omega arith);
      vrechg = most 8 (omega arith) (omega arith);
      masks = most 14 (omega arith) (omega arith);
    }

either-of : (a b : Bool) → (a || b) ≡ true → (a ≡ true) ⊎ (b ≡ true)
either-of true b e = inl refl
either-of false b e = inr e

-- a stage's time is 0 if its limit is, and else below the limit plus the most that one observation adds
pub stage-below : (limit : ℕ) (stage : Bool) (time : ℕ) → stage_ok limit stage time ≡ true → time < limit_units limit + 7200000
stage-below limit stage time e =
    ⊎_elim (λ none. omega (arith, simp (and-iff, eqb-iff) at none)) (λ some. omega (arith, simp (and-iff, leb-iff) at some))
    (either-of (eqb limit 0 && eqb time 0) (leb 1 limit && ltb time (limit_units limit + 7200000) && (not stage || ltb time (limit_units limit))) e)

-- if the stage is held, its time is below its limit
pub stage-held : (limit time : ℕ) → 1 ≤ limit → stage_ok limit true time ≡ true → time < limit_units limit
stage-held limit time h e =
    ⊎_elim (λ none. absurd (omega (arith, simp (and-iff, eqb-iff) at none))) (λ some. omega (arith, simp (and-iff, leb-iff) at some))
    (either-of (eqb limit 0 && eqb time 0) (leb 1 limit && ltb time (limit_units limit + 7200000) && ltb time (limit_units limit)) e)

-- a cycle holds what it may if and only if each of its stages does
pub record Stages (y : Cycle) (p : Profile) (phase : Phase) : Type 0 where
  pub trickle : stage_ok p.trickle (in_trickle phase) y.trickle ≡ true
  pub precharge : stage_ok p.precharge (in_precharge phase) y.precharge ≡ true
  pub fast : stage_ok p.fast (in_fast phase) y.fast ≡ true

pub stages-apart : (y : Cycle) (p : Profile) (phase : Phase) → cycle_ok y p phase ≡ true → Stages y p phase
unfolding cycle_ok
stages-apart y p phase e =
    let t = stage_ok p.trickle (in_trickle phase) y.trickle in
    let c = stage_ok p.precharge (in_precharge phase) y.precharge in
    let f = stage_ok p.fast (in_fast phase) y.fast in
    let k = (and-iff (t && c) f).0 e in
    let l = (and-iff t c).0 k.0 in
    record { trickle = l.0; precharge = l.1; fast = k.1 }

pub stages-whole : (y : Cycle) (p : Profile) (phase : Phase) → Stages y p phase → cycle_ok y p phase ≡ true
unfolding cycle_ok
stages-whole y p phase k = simp (k.trickle, k.precharge, k.fast)
