-- Each observation says one sample, and what follows is the observation of the one that is said.
use Prim.Native.Nat.{ℕ}
use mathlib.Core.Path.{◌≡◌, refl, sym, ap, subst, ◌∙◌}
use mathlib.Core.Bool.{Bool, true, false}
use mathlib.Core.Logic.{◌⊎◌, inl, inr}
use native.Mathlib.Omega.{arith}
use Rattle.base.specs.Pick.{pick}
use Rattle.log_event.specs.declared.Event.{Event}
use Rattle.log_event.specs.declared.Event.TheVariants as event
use Rattle.log_event.specs.declared.spelled.SpelledProfile.{SpelledProfile}
use Rattle.log_event.specs.declared.spelled.SpelledSample.{SpelledSample}
use Rattle.log_event.specs.declared.spelled.SpelledTwo.{SpelledTwo}
use Rattle.state_parts.specs.declared.sample.Sample.{Sample}
use Rattle.step_turns.specs.Ranges.{edition_in_range, two_in_range, resistors_in_range}
use Rattle.step_turns.specs.Coded.{coded_of}
use Rattle.step_turns.specs.Turns.{held_profile, held_sample, opens_with, first_edition, second_of_one, turn_of}
use Rattle.step_turns.specs.Sampled.{by_sample, SaysSample, one_value, two-values}
use Rattle.step_turns.specs.Promises.{SaysOneSample, ObservesAsSaid}
use Rattle.step_turns.specs.declared.later.Later.{Later}
use Rattle.step_turns.specs.declared.later.Later.TheVariants.{Set, Write, TakeFlags, Observe, Service, Reset, WriteRun, ReadFlags}
use Rattle.step_turns.specs.declared.turn.Turn.{Turn}
use Rattle.step_turns.specs.declared.turn.Turn.TheVariants.{Opens, Follows, OpensOutside, FollowsOutside}

-- ---- the sample that is said
by_one : (x : SpelledSample) → SaysSample (event.Observe x) (held_sample x (second_of_one x))
by_one x = one_value (held_sample x (second_of_one x)) refl

by_two : (t : SpelledTwo) → SaysSample (event.ObserveTwo t) (held_sample t.sample t.second)
by_two t = two-values (held_sample t.sample t.second)

abbrev said_or : Sample → Event → Sample
said_or other (event.PowerOn p) = other
said_or other (event.Set number value) = other
said_or other (event.Write address byte) = other
said_or other event.TakeFlags = other
said_or other (event.Observe x) = held_sample x (second_of_one x)
said_or other event.Service = other
said_or other event.Reset = other
said_or other (event.PowerOnResistors r) = other
said_or other (event.PowerOnEdition v) = other
said_or other (event.ObserveTwo t) = held_sample t.sample t.second
said_or other (event.WriteRun address raw) = other
said_or other (event.ReadFlags address) = other

is_said : (other : Sample) (e : Event) (x : Sample) → SaysSample e x → said_or other e ≡ x
is_said other _ _ (one_value x same) = ap (held_sample (by_sample x)) (sym same)
is_said other _ _ (two-values x) = refl

pub says-one-sample : SaysOneSample
says-one-sample = record {
  one_value = λ x. (held_sample x (second_of_one x), by_one x);
  two-values = λ t. (held_sample t.sample t.second, by_two t);
  one = λ e x y b c. sym (is_said x e x b) ∙ is_said x e y c;
}

-- ---- what follows
abbrev FollowsAs : Turn → Sample → Type 0
FollowsAs t x = (t ≡ Follows (Observe x)) ⊎ (t ≡ FollowsOutside)

by-range : (b : Bool) (x y : Sample) → x ≡ y → FollowsAs (pick b (Follows (Observe x)) FollowsOutside) y
by-range true x y e = inl (ap (λ (z : Sample). Follows (Observe z)) e)
by-range false x y e = inr refl

follows : (e : Event) (x : Sample) → SaysSample e x → FollowsAs (turn_of e) x
unfolding turn_of
follows _ _ (one_value x same) = by-range (two_in_range (by_sample x) x.ts) (held_sample (by_sample x) x.ts) x (ap (held_sample (by_sample x)) (sym same))
follows _ _ (two-values x) = by-range (two_in_range (by_sample x) x.secondts) x x refl

-- ---- no other event is an observation
abbrev is_sample : Later → ℕ
is_sample (Set number value) = 0
is_sample (Write address byte) = 0
is_sample TakeFlags = 0
is_sample (Observe x) = 1
is_sample Service = 0
is_sample Reset = 0
is_sample (WriteRun address raw) = 0
is_sample (ReadFlags address) = 0

abbrev observes : Turn → ℕ
observes (Opens p) = 0
observes (Follows e) = is_sample e
observes OpensOutside = 0
observes FollowsOutside = 0

abbrev later_or : Sample → Later → Sample
later_or other (Set number value) = other
later_or other (Write address byte) = other
later_or other TakeFlags = other
later_or other (Observe x) = x
later_or other Service = other
later_or other Reset = other
later_or other (WriteRun address raw) = other
later_or other (ReadFlags address) = other

abbrev sample_or : Sample → Turn → Sample
sample_or other (Opens p) = other
sample_or other (Follows e) = later_or other e
sample_or other OpensOutside = other
sample_or other FollowsOutside = other

none : {A : Type 0} (t : Turn) (x : Sample) → observes t ≡ 0 → t ≡ Follows (Observe x) → A
none t x z e = absurd (let y : observes t ≡ 1 = ap observes e in omega (arith, y, z))

within : (b : Bool) (t : Turn) → observes t ≡ 0 → observes (pick b t OpensOutside) ≡ 0
within true t z = z
within false t z = refl

opens : (p : SpelledProfile) (edition : ℕ) → observes (opens_with p edition) ≡ 0
opens p edition = within (edition_in_range p edition) (Opens (held_profile p edition)) refl

same : (e : Event) (x y : Sample) → SaysSample e x → turn_of e ≡ Follows (Observe y) → SaysSample e y
same e x y b o = by (follows e x b)
  where
    by : FollowsAs (turn_of e) x → SaysSample e y
    by (inl h) = subst (λ (z : Sample). SaysSample e z) (ap (sample_or x) (sym h ∙ o)) b
    by (inr h) = none (turn_of e) y (ap observes h) o

said : (e : Event) (x : Sample) → turn_of e ≡ Follows (Observe x) → SaysSample e x
unfolding turn_of
said (event.PowerOn p) x e = none (opens_with p first_edition) x (opens p first_edition) e
said (event.PowerOnEdition v) x e = none (opens_with v.profile v.edition) x (opens v.profile v.edition) e
said (event.Set number value) x e = none _ x refl e
said (event.Write address byte) x e = none _ x refl e
said event.TakeFlags x e = none _ x refl e
said (event.Observe s) x e = same (event.Observe s) (held_sample s (second_of_one s)) x (by_one s) e
said event.Service x e = none _ x refl e
said event.Reset x e = none _ x refl e
said (event.PowerOnResistors r) x e = none _ x (within (resistors_in_range r) (opens_with (coded_of r) first_edition) (opens (coded_of r) first_edition)) e
said (event.ObserveTwo t) x e = same (event.ObserveTwo t) (held_sample t.sample t.second) x (by_two t) e
said (event.WriteRun address raw) x e = none _ x refl e
said (event.ReadFlags address) x e = none _ x refl e

pub observes-as-said : ObservesAsSaid
observes-as-said = record { follows = follows; said = said }
