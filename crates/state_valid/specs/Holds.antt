-- 01: "a handed-in model's field outside what it may hold" (5). What each part may hold: each field by itself, in the range that accepted events can give it.
use Rattle.std.specs.Prelude.{ℕ, ◌+◌, ◌*◌, ◌≡◌, Bool, true, not, ◌&&◌, ◌||◌, leb, ltb, eqb, pos, negsuc}
use Rattle.std.specs.Int.Signed.{le_z}
use Rattle.state_fields.specs.Held.{field_of, words_ok}
use Rattle.state_table.specs.Rows.{fsw, frequency_ok}
use Rattle.state_parts.specs.Edges.{all_flags}
use Rattle.state_parts.specs.Stages.{in_trickle, in_precharge, in_fast, limit_units}
use Rattle.state_parts.specs.declared.cycle.Cycle.{Cycle}
use Rattle.state_parts.specs.declared.phase.Phase.{Phase}
use Rattle.state_parts.specs.declared.profile.Profile.{Profile}
use Rattle.state_parts.specs.declared.registers.Registers.{Registers}
use Rattle.state_parts.specs.declared.sample.Sample.{Sample}
use Rattle.state_parts.specs.declared.settings.Settings.{Settings}
use Rattle.state_parts.specs.declared.state.State.{State}
use Rattle.state_parts.specs.declared.watchdog.Watchdog.{Watchdog}
use Rattle.state_settings.specs.Kept.{settings_ok}

-- "1 power-on | cell, vchg, ichg codes 0-7; ILIM ohms 0-33,000; stamp; cell ceiling 4,350-4,714; trickle, precharge, fast limits and watchdog period in seconds, 0-172,800"; 02, R-8: "an
-- edition number 1 or 2"
unfoldable pub profile_ok : Profile → Bool
profile_ok p =
    leb p.cell 7 && leb p.vchg 7 && leb p.ichg 7 && leb p.ohms 33000 && leb 4350 p.ceiling && leb p.ceiling 4714
    && leb p.trickle 172800 && leb p.precharge 172800 && leb p.fast 172800 && leb p.watchdog 172800
    && leb 1 p.edition && leb p.edition 2

-- "5 observe | stamp; VIN, VBAT 0-45,000; IBAT -10,000 to 5,000; TS 0-100,000; bits 0-63"; 02, R-7: "The sample gets a second TS value"
unfoldable pub sample_ok : Sample → Bool
sample_ok x =
    leb x.input 45000 && leb x.pack 45000 && le_z (negsuc 9999) x.ibat && le_z x.ibat (pos 5000) && leb x.ts 100000
    && leb x.bits 63 && leb x.secondts 100000

-- "Reserved .. bits ignore writes; reserved read 0": no bit is held but those of stored fields; FSW has a frequency, and there are at most seven cells
unfoldable pub registers_ok : Profile → Registers → Bool
registers_ok p g = words_ok p g.words && frequency_ok p (field_of fsw g) && leb g.cells 7

-- "A limit of s seconds is reached at 2,000s units; a limit 0 counts nothing." An observation is at most 3,600,000 ms ahead, so a stage passes its limit by less than
-- 7,200,000 units; and then the stage isn't held, since the fault is.
abbrev pub stage_ok : ℕ → Bool → ℕ → Bool
stage_ok limit stage time =
    (eqb limit 0 && eqb time 0) || (leb 1 limit && ltb time (limit_units limit + 7200000) && (not stage || ltb time (limit_units limit)))

-- "trickle, precharge; fast and taper share one"
unfoldable pub cycle_ok : Cycle → Profile → Phase → Bool
cycle_ok y p phase =
    stage_ok p.trickle (in_trickle phase) y.trickle && stage_ok p.precharge (in_precharge phase) y.precharge
    && stage_ok p.fast (in_fast phase) y.fast

-- "reaching its period expires it .. and it rests until service or a reset zeroes it": the count stands still at its period
unfoldable pub watchdog_ok : Watchdog → Profile → Bool
watchdog_ok w p = leb w.count (p.watchdog * 1000)

unfoldable pub state_ok : State → Bool
state_ok s =
    profile_ok s.profile && settings_ok s.profile s.settings && registers_ok s.profile s.registers && cycle_ok s.cycle s.profile s.phase
    && watchdog_ok s.watchdog s.profile && sample_ok s.sample && leb s.flags all_flags

-- what voltages go by: profile, settings and registers, each of which holds what it may, whatever else is held
pub record PartsPass (p : Profile) (s : Settings) (g : Registers) : Type 0 where
  pub profile : profile_ok p ≡ true
  pub settings : settings_ok p s ≡ true
  pub registers : registers_ok p g ≡ true
