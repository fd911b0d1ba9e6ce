-- A state that holds what it may, and whose stamps have 32 bits, can be stored.
use Prim.Native.Nat.{◌^◌, ◌<◌}
use mathlib.Core.Path.{◌≡◌}
use mathlib.Core.Bool.{true, ◌&&◌}
use native.Mathlib.Omega.{arith}
use lib.Dec.{leb}
use lib.IntN.{ℤ, pos, negsuc}
use lib.Signed.{le_z}
use Rattle.base.proofs.Tests.{and-iff, leb-iff}
use Rattle.state_parts.specs.Edges.{all_flags}
use Rattle.state_parts.specs.Stages.{in_trickle, in_precharge, in_fast}
use Rattle.state_parts.specs.declared.cycle.Cycle.{Cycle}
use Rattle.state_parts.specs.declared.phase.Phase.{Phase}
use Rattle.state_parts.specs.declared.profile.Profile.{Profile}
use Rattle.state_parts.specs.declared.state.State.{State}
use Rattle.state_parts.specs.declared.sample.Sample.{Sample}
use Rattle.state_parts.specs.declared.settings.Settings.{Settings}
use Rattle.state_parts.specs.declared.watchdog.Watchdog.{Watchdog}
use Rattle.log_number.specs.Ibat.{logged_of}
use Rattle.state_table.specs.Rows.{fsw, frequency_ok}
use Rattle.state_fields.specs.Held.{field_of, words_ok}
use Rattle.state_fields.proofs.Taken.{sound-whole}
use Rattle.state_settings.specs.Kept.{settings_ok}
use Rattle.state_settings.specs.Numbered.{setting_numbers}
use Rattle.state_valid.specs.Holds.{profile_ok, sample_ok, registers_ok, cycle_ok, watchdog_ok}
use Rattle.state_valid.proofs.Bounds.{profile-bounds, settings-bounds, sample-bounds, few-cells, dog-most, stages-apart, stage-below}
use Rattle.state_valid.proofs.Wholes.{apart}
use Rattle.c_list.specs.Numbers.{profile_numbers, settings_numbers, registers_numbers, cycle_numbers, watchdog_numbers, sample_numbers}
use Rattle.laws_images.specs.Promises.{ValidStorable}
use Rattle.laws_images.proofs.Fitting.{bit-fits, Fits, fits, all_fit}

ibat-fits : (z : ℤ) → le_z (negsuc 9999) z ≡ true → le_z z (pos 5000) ≡ true → logged_of z < 2 ^ 32
ibat-fits (pos n) low high = omega (arith, simp leb-iff at high)
ibat-fits (negsuc k) low high = omega (arith, simp leb-iff at low)

sample-fits : (x : Sample) → sample_ok x ≡ true → x.stamp < 2 ^ 32 → Fits (sample_numbers x)
unfolding sample_ok
sample-fits x e h =
    let b = sample-bounds x e in
    let k = simp and-iff at e in
    let i = ibat-fits x.ibat k.0.0.0.0.1 k.0.0.0.1 in
    fits (omega arith)

profile-fits : (p : Profile) → profile_ok p ≡ true → p.stamp < 2 ^ 32 → Fits (profile_numbers p)
profile-fits p e h = let b = profile-bounds p e in fits (omega arith)

settings-fit : (p : Profile) (s : Settings) → settings_ok p s ≡ true → Fits (settings_numbers s)
unfolding setting_numbers
settings-fit p s e =
    let b = settings-bounds p s e in
    fits (omega (arith, bit-fits s.enchg, bit-fits s.enterm, bit-fits s.enhiz, bit-fits s.enextilim, bit-fits s.disstat))

registers-fit : (s : State) → registers_ok s.profile s.registers ≡ true → Fits (registers_numbers s.registers)
unfolding registers_ok
registers-fit s e =
    let p = s.profile in
    let g = s.registers in
    let c = few-cells p g e in
    let k = (and-iff (words_ok p g.words && frequency_ok p (field_of fsw g)) (leb g.cells 7)).0 e in
    let w = sound-whole p g.words ((and-iff (words_ok p g.words) (frequency_ok p (field_of fsw g))).0 k.0).0 in
    let h0 = w.0 in
    let h1 = w.1.0 in
    let h2 = w.1.1.0 in
    let h3 = w.1.1.1.0 in
    let h4 = w.1.1.1.1.0 in
    fits (omega arith)

-- a limit has at most 172,800 seconds
cycle-fits : (y : Cycle) (p : Profile) (phase : Phase) → profile_ok p ≡ true → cycle_ok y p phase ≡ true → Fits (cycle_numbers y)
cycle-fits y p phase ok e =
    let b = profile-bounds p ok in
    let k = stages-apart y p phase e in
    let t = stage-below p.trickle (in_trickle phase) y.trickle k.trickle in
    let c = stage-below p.precharge (in_precharge phase) y.precharge k.precharge in
    let f = stage-below p.fast (in_fast phase) y.fast k.fast in
    fits (omega (arith, bit-fits y.done))

watchdog-fits : (w : Watchdog) (p : Profile) → profile_ok p ≡ true → watchdog_ok w p ≡ true → Fits (watchdog_numbers w)
watchdog-fits w p ok e = let most = dog-most w p e in fits (omega (arith, (profile-bounds p ok).watchdog))

pub valid-storable : ValidStorable
valid-storable s ok h =
    let k = apart s ok in
    let few = (leb-iff s.flags all_flags).0 k.flags in
    let numbers = all_fit s (record {
      profile = profile-fits s.profile k.profile h.0;
      settings = settings-fit s.profile s.settings k.settings;
      registers = registers-fit s k.registers;
      cycle = cycle-fits s.cycle s.profile s.phase k.profile k.cycle;
      watchdog = watchdog-fits s.watchdog s.profile k.profile k.watchdog;
      sample = sample-fits s.sample k.sample h.1;
      flags = omega (arith, few);
    }) in
    (numbers, few)
