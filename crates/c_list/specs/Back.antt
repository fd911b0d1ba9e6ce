-- The state that a list of numbers makes. Every list makes one; only a state's own numbers are its image (`Images`).
use Rattle.std.specs.Prelude.{ℕ, suc, ◌+◌, ◌*◌, ◌%◌, Bool, List, [], ◌∷◌, get_or, eqb}
use Rattle.base.specs.Pick.{whose}
use Rattle.base.specs.Volts.{pack_of}
use Rattle.state_parts.specs.Edges.{all_flags}
use Rattle.state_parts.specs.Numbers.{phase_number, ts_band_number}
use Rattle.state_parts.specs.declared.band.Bands.{Bands}
use Rattle.state_parts.specs.declared.band.TsBand.{TsBand}
use Rattle.state_parts.specs.declared.band.TsBand.TheVariants.{Normal, Cold, Hot, Cool, Warm}
use Rattle.state_parts.specs.declared.phase.Phase.{Phase}
use Rattle.state_parts.specs.declared.phase.Phase.TheVariants.{Idle, Trickle, Precharge, Fast, Taper, Done, Suspended, Fault}
use Rattle.state_parts.specs.declared.profile.Profile.{Profile}
use Rattle.state_parts.specs.declared.settings.Settings.{Settings}
use Rattle.state_parts.specs.declared.registers.Registers.{Registers}
use Rattle.state_parts.specs.declared.latches.Latches.{Latches}
use Rattle.state_parts.specs.declared.cycle.Cycle.{Cycle}
use Rattle.state_parts.specs.declared.watchdog.Watchdog.{Watchdog}
use Rattle.state_parts.specs.declared.sample.Sample.{Sample}
use Rattle.state_parts.specs.declared.state.State.{State}
use Rattle.log_number.specs.Ibat.{signed_of}
use Rattle.c_list.specs.Places.{profile_place, settings_place, registers_place, latches_place, cycle_place, watchdog_place, sample_place, phase_place, bands_place, flags_place}

-- the i-th number of a part that starts at a place of the list
abbrev number : List ℕ → ℕ → ℕ → ℕ
number all at i = get_or all (at + i) 0

abbrev test : List ℕ → ℕ → ℕ → Bool
test all at i = eqb (number all at i) 1

-- a number of its two halves
abbrev whole : ℕ → ℕ → ℕ
whole low high = low + high * 0x100000000

abbrev pub profile_from : List ℕ → ℕ → Profile
profile_from all at =
    let n = number all at in
    record { cell = n 0; vchg = n 1; ichg = n 2; ohms = n 3; stamp = n 4; ceiling = n 5; trickle = n 6; precharge = n 7; fast = n 8; watchdog = n 9; edition = n 10 }

abbrev pub settings_from : List ℕ → ℕ → Settings
settings_from all at =
    let n = number all at in
    let t = test all at in
    record {
      vreg = pack_of (n 0);
      ichg = n 1;
      iprechg = n 2;
      iterm = n 3;
      iindpm = n 4;
      vsysmin = pack_of (n 5);
      lowv = n 6;
      vrechg = n 7;
      enchg = t 8;
      enterm = t 9;
      enhiz = t 10;
      enextilim = t 11;
      disstat = t 12;
      masks = n 13;
    }

abbrev pub registers_from : List ℕ → ℕ → Registers
registers_from all at =
    let n = number all at in
    record { words = record { w0 = whole (n 0) (n 1); w1 = whole (n 2) (n 3); w2 = whole (n 4) (n 5); w3 = whole (n 6) (n 7); w4 = whole (n 8) (n 9) }; cells = n 10 }

abbrev pub latches_from : List ℕ → ℕ → Latches
latches_from all at =
    let t = test all at in
    record { inputok = t 0; inputover = t 1; short = t 2; low = t 3; packover = t 4 }

abbrev pub cycle_from : List ℕ → ℕ → Cycle
cycle_from all at =
    let n = number all at in
    record { trickle = n 0; precharge = n 1; fast = n 2; done = test all at 3 }

abbrev pub watchdog_from : List ℕ → ℕ → Watchdog
watchdog_from all at = record { count = number all at 0 }

abbrev pub sample_from : List ℕ → ℕ → Sample
sample_from all at =
    let n = number all at in
    record { stamp = n 0; input = n 1; pack = n 2; ibat = signed_of (n 3); ts = n 4; secondts = n 5; bits = n 6 }

abbrev pub phase_from : ℕ → Phase
phase_from n = whose phase_number n (Idle ∷ Trickle ∷ Precharge ∷ Fast ∷ Taper ∷ Done ∷ Suspended ∷ []) Fault

abbrev pub band_from : ℕ → TsBand
band_from n = whose ts_band_number n (Normal ∷ Cold ∷ Hot ∷ Cool ∷ []) Warm

abbrev pub bands_from : List ℕ → ℕ → Bands
bands_from all at = record { first = band_from (number all at 0); second = band_from (number all at 1) }

-- twelve flags at most
abbrev pub flags_from : ℕ → ℕ
flags_from n = n % suc all_flags

unfoldable pub state_from : List ℕ → State
state_from all = record {
  profile = profile_from all profile_place;
  settings = settings_from all settings_place;
  registers = registers_from all registers_place;
  latches = latches_from all latches_place;
  cycle = cycle_from all cycle_place;
  watchdog = watchdog_from all watchdog_place;
  sample = sample_from all sample_place;
  phase = phase_from (number all phase_place 0);
  bands = bands_from all bands_place;
  flags = flags_from (number all flags_place 0);
}
