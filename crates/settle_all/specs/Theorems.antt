-- What is proved of every settling, of every state, whatever the thermistors' bands are judged by: the rules take the pack's band as given. 02, R-8: "Prove the phase rules once over both editions".
use Rattle.std.specs.Prelude.{◌≤◌, ◌≡◌, Bool, true, false, not, ◌&&◌, ◌≢◌}
use Rattle.settle_bands.specs.Joined.{pack_band}
use Rattle.settle_bands.specs.Joining.{exchanged, exchanged_bands}
use Rattle.settle_bands.specs.Holding.{fresh_bands, held_bands}
use Rattle.settle_bands.specs.Held.{Rests}
use Rattle.settle_levels.specs.Clamps.{fault_of}
use Rattle.settle_levels.specs.Comparators.{latches_of}
use Rattle.settle_levels.specs.Voltage.{charge_voltage_of}
use Rattle.state_parts.specs.Stages.{charging}
use Rattle.state_parts.specs.With.{with_sample, with_bands}
use Rattle.state_parts.specs.declared.phase.Phase.TheVariants.{Done}
use Rattle.state_parts.specs.declared.state.State.{State}
use Rattle.settle_phases.specs.Cycles.{cycle_of}
use Rattle.settle_phases.specs.Order.{is_taper, judged_of, ends_of, phase_of}
use Rattle.settle_phases.specs.declared.tests.Tests.{Tests}
use Rattle.settle_permission.specs.Ending.{ending_of}
use Rattle.settle_permission.specs.Limits.{reached_of}
use Rattle.settle_all.specs.Gather.{tests_of}
use Rattle.settle_all.specs.Settle.{Bander, stored_of, forced_of, settle_with, settle_in, settle_of}
use Rattle.settle_all.specs.EndTested.{end_tested, tests_end_tested}

-- settling moves EN_CHG, latches, cycle, phase and bands, and nothing else
pub record Unmoved (before after : State) : Type 0 where
  pub profile : after.profile ≡ before.profile
  pub settings : after.settings ≡ stored_of (fault_of before.profile before.registers) before.settings
  pub registers : after.registers ≡ before.registers
  pub watchdog : after.watchdog ≡ before.watchdog
  pub sample : after.sample ≡ before.sample
  pub flags : after.flags ≡ before.flags

module _ (band : Bander) where
  -- 01: "Settling with neither a new event nor time changes nothing.", whatever asked for the first one
  abbrev pub SettlesOnce : Type 0
  SettlesOnce = (s : State) (observed : Bool) → settle_in band (settle_in band s observed) false ≡ settle_in band s observed

  abbrev pub SettlesAlone : Type 0
  SettlesAlone = (s : State) (observed : Bool) → Unmoved s (settle_in band s observed)

  -- what it moves them to: latches and bands by the sample, cycle and phase by the tests
  abbrev pub tested_in : State → Bool → Tests
  tested_in s observed = tests_of (forced_of s) (settle_in band s observed).latches (pack_band (settle_in band s observed).bands) observed

  pub record Moved (s : State) (observed : Bool) : Type 0 where
    pub latches : (settle_in band s observed).latches ≡ latches_of s.profile s.settings s.registers s.sample s.latches
    pub bands : (settle_in band s observed).bands ≡ band s.profile s.registers s.sample s.bands
    pub cycle : (settle_in band s observed).cycle ≡ cycle_of (tested_in s observed) s.cycle
    pub phase : (settle_in band s observed).phase ≡ phase_of (tested_in s observed)

  abbrev pub SettlesTo : Type 0
  SettlesTo = (s : State) (observed : Bool) → Moved s observed

  -- 01: "7 fault, .. a stage limit reached": in the stage that a settling comes to, no limit is reached
  abbrev pub BelowLimits : Type 0
  BelowLimits = (s : State) (observed : Bool) → charging (settle_in band s observed).phase ≡ true → reached_of s.profile (settle_in band s observed).cycle ≡ false

  -- "Done begins, and 5 is reported, only on an observation: phase 4 held before it and judged after it, EN_TERM, IBAT < ITERM, no regulation": where that is so it does
  abbrev pub TaperEnds : Type 0
  TaperEnds =
      (s : State) → is_taper s.phase ≡ true → is_taper (judged_of (tested_in s true)) ≡ true → ending_of s.settings s.sample ≡ true
      → (settle_in band s true).phase ≡ Done

  -- 02, R-1: the recharge point "is taken from the charge voltage after the band's cut". VBAT at or above that voltage, in the band that this settling judges
  abbrev pub Charged : State → Type 0
  Charged s = (charge_voltage_of s.profile s.settings s.registers (pack_band (band s.profile s.registers s.sample s.bands))).0 ≤ s.sample.pack

  -- there a charge that is done stays done, wherever phase 5 would hold
  abbrev pub ChargedStays : Type 0
  ChargedStays =
      (s : State) (observed : Bool) → Charged s → s.cycle.done ≡ true → (tested_in s observed).permitted ≡ true → (tested_in s observed).fault ≡ false
      → (tested_in s observed).suspended ≡ false → (settle_in band s observed).phase ≡ Done

  -- 02, R-2: "take the test out of the rule for done and show that no run's report changes": no state has tests on which it matters
  abbrev pub EndTestUnmet : Type 0
  EndTestUnmet = (s : State) (observed : Bool) → settle_with band tests_end_tested s observed ≡ settle_in band s observed

  -- all of them
  pub record PhaseRules : Type 0 where
    -- of bands that rest when judged again
    pub once : Rests band → SettlesOnce
    pub alone : SettlesAlone
    pub moved : SettlesTo
    pub below : BelowLimits
    pub ends : TaperEnds
    pub stays : ChargedStays
    pub test : EndTestUnmet

-- the rules are proved of any bands, and the two editions are two instances; this product's bands are those of the edition that its power-on says
pub record BothEditions : Type 0 where
  pub any : (band : Bander) → PhaseRules band
  pub first : PhaseRules fresh_bands
  pub second : PhaseRules held_bands

-- so settling again changes nothing, by either edition
pub record EachSettlesOnce : Type 0 where
  pub ours : (s : State) (observed : Bool) → settle_of (settle_of s observed) false ≡ settle_of s observed
  pub first : SettlesOnce fresh_bands
  pub second : SettlesOnce held_bands

-- 02, R-7: it doesn't matter which thermistor is which: with the two values in each other's place, and what is held of them, a state settles alike
abbrev pub other_way : State → State
other_way s = with_bands (with_sample s (exchanged s.sample)) (exchanged_bands s.bands)

abbrev pub EndsAlike : Type 0
EndsAlike = (s : State) (observed : Bool) → settle_of (other_way s) observed ≡ other_way (settle_of s observed)

-- 02, R-2: of the rule for done with the test and without
pub record TestDecidesNothing : Type 0 where
  -- the rule that is kept is the one that stood: ".., EN_TERM, IBAT < ITERM, no regulation, VBAT not below the recharge point."
  pub stood : (t : Tests) → ends_of (end_tested t t.recharge) ≡ (is_taper (judged_of t) && (t.observed && t.tapered && t.ending) && not t.recharge)
  -- the rules with the test and without are two: some tests tell them apart
  pub rules : (t : Tests) × (phase_of (end_tested t t.recharge) ≢ phase_of t)
  -- but no state has such tests, whatever it holds, so no settling does
  pub settles : (band : Bander) → EndTestUnmet band
