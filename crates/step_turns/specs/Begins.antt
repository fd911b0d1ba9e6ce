-- The profile that a run begins with, told by its power-on's own numbers, whichever kind brought them; of a resistor by the spans that are listed for whoever solders.
use Rattle.std.specs.Prelude.{ℕ, suc, ◌≡◌}
use Rattle.log_event.specs.declared.Event.{Event}
use Rattle.log_event.specs.declared.Event.TheVariants.{PowerOn, PowerOnResistors, PowerOnEdition}
use Rattle.log_event.specs.declared.spelled.SpelledProfile.{SpelledProfile}
use Rattle.log_event.specs.declared.spelled.SpelledResistors.{SpelledResistors}
use Rattle.state_parts.specs.declared.profile.Profile.{Profile}
use Rattle.step_pins.specs.Spans.{Within, listed_spans, span_at}

-- 02, R-5: the code of the span that a resistor lies in; "no match is code 0, a pin fault"
pub data StandsFor (ohms : ℕ) : ℕ → Type 0 where
  in_span : (i : ℕ) → Within ohms (span_at listed_spans i) → StandsFor ohms (suc i)
  in-none : ((i : ℕ) → ¬ Within ohms (span_at listed_spans i)) → StandsFor ohms 0

-- a profile as kind 1 says it, but for the edition, and as kind 9 does with these resistors
abbrev pub by_codes : Profile → SpelledProfile
by_codes p = record {
  cell = p.cell;
  vchg = p.vchg;
  ichg = p.ichg;
  ohms = p.ohms;
  stamp = p.stamp;
  ceiling = p.ceiling;
  trickle = p.trickle;
  precharge = p.precharge;
  fast = p.fast;
  watchdog = p.watchdog;
}

abbrev pub by_resistors : ℕ → ℕ → ℕ → Profile → SpelledResistors
by_resistors cell vchg ichg p = record {
  cell = cell;
  vchg = vchg;
  ichg = ichg;
  ohms = p.ohms;
  stamp = p.stamp;
  ceiling = p.ceiling;
  trickle = p.trickle;
  precharge = p.precharge;
  fast = p.fast;
  watchdog = p.watchdog;
}

-- 02, R-8: "Kinds 1 and 9 mean the first, kind 11 is kind 1 with an edition number 1 or 2 after the watchdog period."
pub data Begins : Event → Profile → Type 0 where
  coded : (p : Profile) → p.edition ≡ 1 → Begins (PowerOn (by_codes p)) p
  edited : (p : Profile) → Begins (PowerOnEdition (record { profile = by_codes p; edition = p.edition })) p
  soldered : (p : Profile) (cell vchg ichg : ℕ) → p.edition ≡ 1 → StandsFor cell p.cell → StandsFor vchg p.vchg → StandsFor ichg p.ichg
      → Begins (PowerOnResistors (by_resistors cell vchg ichg p)) p
