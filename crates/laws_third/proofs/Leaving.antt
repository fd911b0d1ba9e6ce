-- Every run of accepted events is left by a list of events: the same numbers, as a log spells them.
use mathlib.Core.Path.{◌≡◌, refl, ap, ◌∙◌}
use mathlib.Core.Bool.{true}
use mathlib.Core.List.{List, [], ◌∷◌, ◌++◌}
use Rattle.state_parts.specs.declared.profile.Profile.{Profile}
use Rattle.log_event.specs.declared.Event.{Event}
use Rattle.log_event.specs.declared.Event.TheVariants as event
use Rattle.state_valid.specs.Holds.{profile_ok, sample_ok}
use Rattle.step_turns.specs.Ranges.{profile_in_range, edition_in_range, sample_in_range, two_in_range}
use Rattle.step_turns.specs.Begins.{by_codes}
use Rattle.step_turns.specs.Sampled.{by_sample}
use Rattle.step_turns.specs.Turns.{turn_of}
use Rattle.step_turns.specs.Promises.{LaterFits}
use Rattle.step_turns.specs.declared.later.Later.{Later}
use Rattle.step_turns.specs.declared.later.Later.TheVariants.{Set, Write, TakeFlags, Observe, Service, Reset, WriteRun, ReadFlags}
use Rattle.step_turns.specs.declared.turn.Turn.TheVariants.{Opens, Follows}
use Rattle.laws_account.specs.History.{Run, powered, ◌▸◌}
use Rattle.laws_account.specs.Refused.{Past, none, some, refusal_in, next_by, next_of, past_of}
use Rattle.laws_third.specs.Laws.{EveryRunLeft}

abbrev event_for : Later → Event
event_for (Set number value) = event.Set number value
event_for (Write address byte) = event.Write address byte
event_for TakeFlags = event.TakeFlags
event_for (Observe x) = event.ObserveTwo (record { sample = by_sample x; second = x.secondts })
event_for Service = event.Service
event_for Reset = event.Reset
event_for (WriteRun first raw) = event.WriteRun first raw
event_for (ReadFlags address) = event.ReadFlags address

-- a power-on that says all of a profile
abbrev power_on : Profile → Event
power_on p = event.PowerOnEdition (record { profile = by_codes p; edition = p.edition })

opens : (p : Profile) → profile_ok p ≡ true → turn_of (power_on p) ≡ Opens p
unfolding turn_of profile_in_range edition_in_range profile_ok
opens p h = rw h

follows : (e : Later) → LaterFits e → turn_of (event_for e) ≡ Follows e
unfolding turn_of sample_in_range two_in_range sample_ok
follows (Set number value) h = refl
follows (Write address byte) h = refl
follows TakeFlags h = refl
follows (Observe x) h = rw h
follows Service h = refl
follows Reset h = refl
follows (WriteRun first raw) h = refl
follows (ReadFlags address) h = refl

past_more : (es : List Event) (h : Past) (e : Event) → past_of h (es ++ (e ∷ [])) ≡ next_of (past_of h es) e
unfolding past_of
past_more [] h e = refl
past_more (f ∷ es) h e = past_more es (next_of h f) e

opened : (p : Profile) → profile_ok p ≡ true → past_of none (power_on p ∷ []) ≡ some (powered p)
unfolding past_of next_of
opened p h = ap (λ t. next_by none t) (opens p h)

followed : (r : Run) (e : Later) → LaterFits e → refusal_in r e ≡ 0 → next_of (some r) (event_for e) ≡ some (r ▸ e)
unfolding next_of
followed r e fits h = ap (λ t. next_by (some r) t) (follows e fits) ∙ rw h

pub every-run-left : EveryRunLeft
every-run-left (powered p) a = (power_on p ∷ [], opened p a)
every-run-left (r ▸ e) a =
    let before = every-run-left r a.0 in
    (before.0 ++ (event_for e ∷ []), past_more before.0 none (event_for e) ∙ ap (λ h. next_of h (event_for e)) before.1 ∙ followed r e a.1.0 a.1.1)
