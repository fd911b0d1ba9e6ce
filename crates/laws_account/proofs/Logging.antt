-- Whatever a log holds, the walk over it leaves the model that the account has of its accepted events since the latest accepted power-on.
use Prim.Native.Nat.{ℕ, zero, suc}
use mathlib.Core.Path.{◌≡◌, refl, ap, ◌∙◌}
use mathlib.Core.List.{List, [], ◌∷◌}
use lib.ListN.{length}
use Rattle.log_event.specs.Kinds.{kinds}
use Rattle.log_event.specs.declared.Event.{Event}
use Rattle.log_record.specs.Records.{record_at}
use Rattle.log_record.specs.Records as log
use Rattle.step_event.specs.Steps.{step_of}
use Rattle.step_event.specs.Walks.{met_by, met_of, after_read, walk_of, start_walk}
use Rattle.step_event.specs.Pages.{passed_by, page_of, whole_of}
use Rattle.step_event.specs.Wholes.{event_by, events_of}
use Rattle.step_event.specs.declared.walking.Walk.{Walk}
use Rattle.laws_account.specs.Refused.{Past, none, next_of, past_of}
use Rattle.laws_account.specs.States.{model_of}
use Rattle.laws_account.specs.Runs.{Lawful, EveryLog}
use Rattle.laws_account.proofs.Agreeing.{keeps-lawful, next-model}

-- what is said of a page from a walk on
abbrev Follows : ℕ → List ℕ → Type 0
Follows most bytes = (w : Walk) (h : Past) → Lawful h → w.model ≡ model_of h → (page_of most bytes w).last.model ≡ model_of (past_of h (events_of most bytes w.place))

one-more : (most : ℕ) (bytes : List ℕ) → Follows most bytes → (w : Walk) (h : Past) → Lawful h → w.model ≡ model_of h → (x : log.Met)
    → (passed_by w (after_read w x) (λ v. page_of most bytes v)).last.model ≡ model_of (past_of h (event_by x (λ next. events_of most bytes next)))
unfolding past_of met_by
one-more most bytes ih w h l m (log.met e next) =
    ih (met_of w e next).walk (next_of h e) (keeps-lawful h l e) (ap (λ n. (step_of n e).model) m ∙ next-model h l e)
one-more most bytes ih w h l m (log.refused number place) = m
one-more most bytes ih w h l m log.end = m

no_more : (bytes : List ℕ) → Follows zero bytes
unfolding page_of events_of past_of
no_more bytes w h l m = m

next-page : (most : ℕ) (bytes : List ℕ) → Follows most bytes → Follows (suc most) bytes
unfolding page_of events_of walk_of
next-page most bytes ih w h l m = one-more most bytes ih w h l m (record_at kinds bytes w.place)

pub follows : (most : ℕ) (bytes : List ℕ) → Follows most bytes
follows zero bytes = no_more bytes
follows (suc most) bytes = next-page most bytes (follows most bytes)

none_more : (h : Past) → Lawful h → Lawful (past_of h [])
unfolding past_of
none_more h l = l

more-lawful : (h : Past) (e : Event) (es : List Event) → Lawful (past_of (next_of h e) es) → Lawful (past_of h (e ∷ es))
unfolding past_of
more-lawful h e es l = l

pub past-lawful : (es : List Event) (h : Past) → Lawful h → Lawful (past_of h es)
past-lawful [] h l = none_more h l
past-lawful (e ∷ es) h l = more-lawful h e es (past-lawful es (next_of h e) (keeps-lawful h l e))

pub every-log : EveryLog
unfolding whole_of start_walk
every-log bytes = record {
  model = follows (suc (length bytes)) bytes start_walk none tt refl;
  lawful = past-lawful (events_of (suc (length bytes)) bytes 0) none tt;
}
