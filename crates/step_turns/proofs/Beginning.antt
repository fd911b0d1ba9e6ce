-- Each power-on says one profile, and a run begins with the one that its power-on says.
use Prim.Native.Nat.{ℕ, zero, suc}
use mathlib.Core.Path.{◌≡◌, refl, sym, ap, subst, ◌∙◌}
use mathlib.Core.Bool.{Bool, true, false}
use mathlib.Core.Logic.{◌⊎◌, inl, inr}
use native.Mathlib.Omega.{arith}
use Rattle.base.specs.Pick.{pick}
use Rattle.log_event.specs.declared.Event.{Event}
use Rattle.log_event.specs.declared.Event.TheVariants as event
use Rattle.log_event.specs.declared.spelled.SpelledResistors.{SpelledResistors}
use Rattle.log_event.specs.declared.spelled.SpelledSample.{SpelledSample}
use Rattle.state_parts.specs.declared.profile.Profile.{Profile}
use Rattle.step_pins.specs.Codes.{code_of}
use Rattle.step_pins.proofs.Pins.{pin-table}
use Rattle.step_turns.specs.Ranges.{edition_in_range, two_in_range, resistors_in_range}
use Rattle.step_turns.specs.Coded.{coded_of}
use Rattle.step_turns.specs.Turns.{held_profile, held_sample, opens_with, first_edition, second_of_one, observes_with, turn_of}
use Rattle.step_turns.specs.Begins.{StandsFor, in_span, in-none, by_codes, by_resistors, Begins, coded, edited, soldered}
use Rattle.step_turns.specs.Promises.{SaysOneProfile, BeginsAsSaid}
use Rattle.step_turns.specs.declared.later.Later.TheVariants.{Observe}
use Rattle.step_turns.specs.declared.turn.Turn.{Turn}
use Rattle.step_turns.specs.declared.turn.Turn.TheVariants.{Opens, Follows, OpensOutside, FollowsOutside}

-- ---- a resistor's code
stands : (ohms : ℕ) → StandsFor ohms (code_of ohms)
stands ohms = by (code_of ohms) refl
  where
    by : (c : ℕ) → code_of ohms ≡ c → StandsFor ohms c
    by zero e = in-none ((pin-table.none ohms).0 e)
    by (suc i) e = in_span i ((pin-table.code i ohms).0 e)

stands-for : {ohms c : ℕ} → StandsFor ohms c → code_of ohms ≡ c
stands-for {ohms} (in_span i w) = (pin-table.code i ohms).1 w
stands-for {ohms} (in-none out) = (pin-table.none ohms).1 out

-- ---- the profile that is said
by-its-resistors : (r : SpelledResistors) → Begins (event.PowerOnResistors r) (held_profile (coded_of r) first_edition)
by-its-resistors r = soldered (held_profile (coded_of r) first_edition) r.cell r.vchg r.ichg refl (stands r.cell) (stands r.vchg) (stands r.ichg)

abbrev said_or : Profile → Event → Profile
said_or other (event.PowerOn q) = held_profile q first_edition
said_or other (event.PowerOnEdition v) = held_profile v.profile v.edition
said_or other (event.Set number value) = other
said_or other (event.Write address byte) = other
said_or other event.TakeFlags = other
said_or other (event.Observe x) = other
said_or other event.Service = other
said_or other event.Reset = other
said_or other (event.PowerOnResistors r) = held_profile (coded_of r) first_edition
said_or other (event.ObserveTwo t) = other
said_or other (event.WriteRun address raw) = other
said_or other (event.ReadFlags address) = other

is_said : (other : Profile) (e : Event) (p : Profile) → Begins e p → said_or other e ≡ p
is_said other _ _ (coded p first) = ap (held_profile (by_codes p)) (sym first)
is_said other _ _ (edited p) = refl
is_said other _ _ (soldered p cell vchg ichg first a b c) = simp (stands-for a, stands-for b, stands-for c) (ap (held_profile (by_codes p)) (sym first))

pub says-one-profile : SaysOneProfile
says-one-profile = record {
  codes = λ q. (held_profile q first_edition, coded (held_profile q first_edition) refl);
  resistors = λ r. (held_profile (coded_of r) first_edition, by-its-resistors r);
  edition = λ v. (held_profile v.profile v.edition, edited (held_profile v.profile v.edition));
  one = λ e p q b c. sym (is_said p e p b) ∙ is_said p e q c;
}

-- ---- what a turn opens with
abbrev OpensAs : Turn → Profile → Type 0
OpensAs t p = (t ≡ Opens p) ⊎ (t ≡ OpensOutside)

by-test : (b : Bool) (t : Turn) (p : Profile) → OpensAs t p → OpensAs (pick b t OpensOutside) p
by-test true t p h = h
by-test false t p h = inr refl

opens : (e : Event) (p : Profile) → Begins e p → OpensAs (turn_of e) p
unfolding turn_of
opens _ _ (coded p first) = by-test (edition_in_range (by_codes p) first_edition) (Opens (held_profile (by_codes p) first_edition)) p (inl (ap (λ n. Opens (held_profile (by_codes p) n)) (sym first)))
opens _ _ (edited p) = by-test (edition_in_range (by_codes p) p.edition) (Opens p) p (inl refl)
opens _ _ (soldered p cell vchg ichg first a b c) =
    let r = by_resistors cell vchg ichg p in
    let is : Opens (held_profile (coded_of r) first_edition) ≡ Opens p = ap Opens (is_said p (event.PowerOnResistors r) p (soldered p cell vchg ichg first a b c)) in
    by-test (resistors_in_range r) (opens_with (coded_of r) first_edition) p (by-test (edition_in_range (coded_of r) first_edition) (Opens (held_profile (coded_of r) first_edition)) p (inl is))

-- ---- no other event opens a run
abbrev opened : Profile → Turn → Profile
opened other (Opens p) = p
opened other (Follows e) = other
opened other OpensOutside = other
opened other FollowsOutside = other

abbrev is_open : Turn → ℕ
is_open (Opens p) = 1
is_open (Follows e) = 0
is_open OpensOutside = 0
is_open FollowsOutside = 0

closed : {A : Type 0} (t : Turn) (p : Profile) → is_open t ≡ 0 → t ≡ Opens p → A
closed t p z e = absurd (let y : is_open t ≡ 1 = ap is_open e in omega (arith, y, z))

same : (e : Event) (p q : Profile) → Begins e p → turn_of e ≡ Opens q → Begins e q
same e p q b o = by (opens e p b)
  where
    by : OpensAs (turn_of e) p → Begins e q
    by (inl h) = subst (λ (x : Profile). Begins e x) (ap (opened p) (sym h ∙ o)) b
    by (inr h) = closed (turn_of e) q (ap is_open h) o

observed : {A : Type 0} (x : SpelledSample) (second : ℕ) (p : Profile) → observes_with x second ≡ Opens p → A
observed {A} x second p e = either (two_in_range x second) e
  where
    either : (b : Bool) → pick b (Follows (Observe (held_sample x second))) FollowsOutside ≡ Opens p → A
    either true e = closed _ p refl e
    either false e = closed _ p refl e

said : (e : Event) (p : Profile) → turn_of e ≡ Opens p → Begins e p
unfolding turn_of
said (event.PowerOn q) p e = same (event.PowerOn q) (held_profile q first_edition) p (coded (held_profile q first_edition) refl) e
said (event.PowerOnEdition v) p e = same (event.PowerOnEdition v) (held_profile v.profile v.edition) p (edited (held_profile v.profile v.edition)) e
said (event.Set number value) p e = closed _ p refl e
said (event.Write address byte) p e = closed _ p refl e
said event.TakeFlags p e = closed _ p refl e
said (event.Observe x) p e = observed x (second_of_one x) p e
said (event.ObserveTwo t) p e = observed t.sample t.second p e
said event.Service p e = closed _ p refl e
said event.Reset p e = closed _ p refl e
said (event.WriteRun address raw) p e = closed _ p refl e
said (event.ReadFlags address) p e = closed _ p refl e
said (event.PowerOnResistors r) p e =
    same (event.PowerOnResistors r) (held_profile (coded_of r) first_edition) p (by-its-resistors r) e

pub begins-as-said : BeginsAsSaid
begins-as-said = record { opens = opens; said = said }
