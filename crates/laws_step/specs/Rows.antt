-- 01, "Refusal numbers | Given exactly when", and 02: the rows that a step can give, as statements. "Model order: 6, 10, 5, 11 for writes; 6, 8, 9 for sets; 6, 5, 7 for observations":
-- a row says too that no earlier one of its order holds.
use Rattle.std.specs.Prelude.{ℕ, ◌≤◌, ◌<◌, ◌≡◌, true, ◌≢◌, ◌⊎◌, pos, negsuc, ◌≤ℤ◌}
use Rattle.base.specs.Stamps.{elapsed_of}
use Rattle.state_parts.specs.declared.state.State.{State}
use Rattle.state_parts.specs.declared.state.Model.{Model}
use Rattle.state_parts.specs.declared.state.Model.TheVariants.{Off, On}
use Rattle.log_event.specs.declared.Event.{Event}
use Rattle.log_raw.specs.declared.RawBytes.{RawBytes}
use Rattle.log_event.specs.declared.Event.TheVariants.{PowerOn, Set, Write, Observe, PowerOnResistors, ObserveTwo, PowerOnEdition, WriteRun, ReadFlags}
use Rattle.log_event.specs.declared.spelled.SpelledEdition.{SpelledEdition}
use Rattle.log_event.specs.declared.spelled.SpelledProfile.{SpelledProfile}
use Rattle.log_event.specs.declared.spelled.SpelledResistors.{SpelledResistors}
use Rattle.log_event.specs.declared.spelled.SpelledSample.{SpelledSample}
use Rattle.log_event.specs.declared.spelled.SpelledTwo.{SpelledTwo}
use Rattle.state_table.specs.Rows.{digit_of, fsw}
use Rattle.state_settings.specs.Ranges.{last_setting}
use Rattle.state_valid.specs.Holds.{state_ok}
use Rattle.laws_step.specs.Ranged.{Among, ValueIn}
use Rattle.laws_step.specs.RunRows.{Spelled, InMap, HasHalf, NoFrequency, Unheld}

-- "1 power-on | cell, vchg, ichg codes 0-7; ILIM ohms 0-33,000; stamp; cell ceiling 4,350-4,714; trickle, precharge, fast limits and watchdog period in seconds, 0-172,800"
pub record ProfileIn (p : SpelledProfile) : Type 0 where
  pub cell : p.cell ≤ 7
  pub vchg : p.vchg ≤ 7
  pub ichg : p.ichg ≤ 7
  pub ohms : p.ohms ≤ 33000
  pub ceiling : Among p.ceiling 4350 4714
  pub trickle : p.trickle ≤ 172800
  pub precharge : p.precharge ≤ 172800
  pub fast : p.fast ≤ 172800
  pub watchdog : p.watchdog ≤ 172800

-- 02, R-5: kind 9: "the CELL, VCHG and ICHG resistors in ohms", of which "ohms above 100,000 are 5", and then kind 1's numbers from the ILIM ohms on
pub record ResistorsIn (r : SpelledResistors) : Type 0 where
  pub cell : r.cell ≤ 100000
  pub vchg : r.vchg ≤ 100000
  pub ichg : r.ichg ≤ 100000
  pub ohms : r.ohms ≤ 33000
  pub ceiling : Among r.ceiling 4350 4714
  pub trickle : r.trickle ≤ 172800
  pub precharge : r.precharge ≤ 172800
  pub fast : r.fast ≤ 172800
  pub watchdog : r.watchdog ≤ 172800

-- 02, R-8: "kind 11 is kind 1 with an edition number 1 or 2"; "another edition number is 5"
pub record EditionIn (v : SpelledEdition) : Type 0 where
  pub profile : ProfileIn v.profile
  pub edition : (v.edition ≡ 1) ⊎ (v.edition ≡ 2)

-- "5 observe | stamp; VIN, VBAT 0-45,000; IBAT -10,000 to 5,000; TS 0-100,000; bits 0-63"
pub record SampleIn (x : SpelledSample) : Type 0 where
  pub input : x.input ≤ 45000
  pub pack : x.pack ≤ 45000
  pub ibat : (negsuc 9999 ≤ℤ x.ibat) × (x.ibat ≤ℤ pos 5000)
  pub ts : x.ts ≤ 100000
  pub bits : x.bits ≤ 63

-- 02, R-7: "Kind 10 is kind 5 with the second value right after the first", a TS too
pub record TwoIn (t : SpelledTwo) : Type 0 where
  pub sample : SampleIn t.sample
  pub second : t.second ≤ 100000

-- "a power-on's" kinds
pub data PowersOn : Event → Type 0 where
  by-codes : (p : SpelledProfile) → PowersOn (PowerOn p)
  by-resistors : (r : SpelledResistors) → PowersOn (PowerOnResistors r)
  by-edition : (v : SpelledEdition) → PowersOn (PowerOnEdition v)

pub data Row : ℕ → Model → Event → Type 0 where
  -- 5: "a number outside kind 1, 3 or 5's ranges above, or a handed-in model's field outside what it may hold"
  bad-field : (s : State) (e : Event) → state_ok s ≢ true → Row 5 (On s) e
  bad-profile : (m : Model) (p : SpelledProfile) → ¬ ProfileIn p → Row 5 m (PowerOn p)
  bad-resistors : (m : Model) (r : SpelledResistors) → ¬ ResistorsIn r → Row 5 m (PowerOnResistors r)
  bad-edition : (m : Model) (v : SpelledEdition) → ¬ EditionIn v → Row 5 m (PowerOnEdition v)
  bad-byte : (s : State) (address byte : ℕ) → Among address 0x15 0x1C → 255 < byte → Row 5 (On s) (Write address byte)
  bad-sample : (s : State) (x : SpelledSample) → ¬ SampleIn x → Row 5 (On s) (Observe x)
  bad-two : (s : State) (t : SpelledTwo) → ¬ TwoIn t → Row 5 (On s) (ObserveTwo t)
  -- 02, R-3: "has no spelling: the writer gives 5, and so does the model, after 6"
  no-spelling : (s : State) (first : ℕ) (raw : RawBytes) → ¬ Spelled raw → Row 5 (On s) (WriteRun first raw)
  -- 6: "any kind but a power-on's, before a power-on"
  not-powered : (e : Event) → ¬ PowersOn e → Row 6 Off e
  -- 7: "stamp more than 3,600,000 ms ahead"
  too_far : (s : State) (x : SpelledSample) → state_ok s ≡ true → SampleIn x → 3600000 < elapsed_of s.sample.stamp x.stamp → Row 7 (On s) (Observe x)
  two-too-far : (s : State) (t : SpelledTwo) → state_ok s ≡ true → TwoIn t → 3600000 < elapsed_of s.sample.stamp t.sample.stamp → Row 7 (On s) (ObserveTwo t)
  -- 8: "setting number not 1-14"
  no-setting : (s : State) (number value : ℕ) → state_ok s ≡ true → ¬ Among number 1 last_setting → Row 8 (On s) (Set number value)
  -- 9: "setting value outside its range or off its step"
  bad-value : (s : State) (number value : ℕ) → state_ok s ≡ true → Among number 1 last_setting → ¬ ValueIn s.profile number value → Row 9 (On s) (Set number value)
  -- R-3: "a field value that its setting can't hold is 9, last"
  run_value : (s : State) (first : ℕ) (raw : RawBytes) → state_ok s ≡ true → Spelled raw → InMap first raw → ¬ HasHalf first raw → ¬ NoFrequency first raw → Unheld s.profile first raw
      → Row 9 (On s) (WriteRun first raw)
  -- 10: "address not 0x15-0x1C"
  no_address : (s : State) (address byte : ℕ) → state_ok s ≡ true → ¬ Among address 0x15 0x1C → Row 10 (On s) (Write address byte)
  -- R-3: "a run touching an address outside the map, or kind 14 on no flag register, is 10"
  run-outside : (s : State) (first : ℕ) (raw : RawBytes) → state_ok s ≡ true → Spelled raw → ¬ InMap first raw → Row 10 (On s) (WriteRun first raw)
  no-flags : (s : State) (address : ℕ) → state_ok s ≡ true → ¬ ((address ≡ 0x20) ⊎ (address ≡ 0x21)) → Row 10 (On s) (ReadFlags address)
  -- 11: "FSW (0x16 bits 2:0) written 0 or 7"
  bad-frequency : (s : State) (byte : ℕ) → state_ok s ≡ true → byte ≤ 255 → (digit_of fsw byte ≡ 0) ⊎ (digit_of fsw byte ≡ 7) → Row 11 (On s) (Write fsw.address byte)
  run-frequency : (s : State) (first : ℕ) (raw : RawBytes) → state_ok s ≡ true → Spelled raw → InMap first raw → ¬ HasHalf first raw → NoFrequency first raw → Row 11 (On s) (WriteRun first raw)
  -- 15: "half of a sixteen-bit register, after 10, then 11"
  run-half : (s : State) (first : ℕ) (raw : RawBytes) → state_ok s ≡ true → Spelled raw → InMap first raw → HasHalf first raw → Row 15 (On s) (WriteRun first raw)
