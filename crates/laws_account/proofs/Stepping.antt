-- A step on the account's state comes to what the account says, kind by kind.
use Prim.Native.Nat.{ℕ, ◌+◌, ◌-◌}
use mathlib.Core.Path.{◌≡◌, refl, sym, ap, ◌∙◌}
use mathlib.Core.Bool.{Bool, true, false, not, ◌&&◌, ◌||◌}
use lib.Dec.{leb, ltb, eqb}
use Rattle.base.specs.Pick.{pick}
use Rattle.base.specs.Told.{Told, accepted, refused}
use Rattle.state_parts.specs.Edges.{no_flags}
use Rattle.state_parts.specs.declared.profile.Profile.{Profile}
use Rattle.state_parts.specs.declared.sample.Sample.{Sample}
use Rattle.state_parts.specs.declared.state.Model.{Model}
use Rattle.state_start.specs.Values.{start_state}
use Rattle.state_parts.specs.declared.state.State.{State}
use Rattle.state_parts.specs.declared.state.Model.TheVariants.{On}
use Rattle.state_table.specs.Rows.{frequency_ok, fsw, digit_of}
use Rattle.state_settings.specs.Ranges.{known_setting, may_hold}
use Rattle.state_valid.specs.Holds.{profile_ok, state_ok}
use Rattle.state_registers.specs.Writes.{write_of}
use Rattle.log_raw.specs.Raw.{byte_of, has_spelling}
use Rattle.log_raw.specs.Struct.{raw_of}
use Rattle.log_raw.specs.declared.RawBytes.{RawBytes}
use Rattle.state_runs.specs.Bytes.{value_in, is_written}
use Rattle.state_runs.specs.Runs.{halves, illegal_frequency, bad_run, write_run_of}
use Rattle.step_turns.specs.declared.turn.Turn.TheVariants.{Follows}
use Rattle.step_kinds.specs.Answers.{Outcome}
use Rattle.step_kinds.specs.Changes.{Changed, changed}
use Rattle.step_kinds.specs.Finish.{finish_of}
use Rattle.step_kinds.specs.Plain.{after_write, set_of, written_of, acted_of, after_run, run_from, read_flags_of}
use Rattle.step_kinds.specs.declared.change.Way.TheVariants.{Plain, Observes, Takes, Reads, Powers}
use Rattle.step_event.specs.Steps.{observe_of, followed_of, moved_of, change_of, seen_on, closed_by, turned_by}
use Rattle.laws_account.specs.History.{Run, powered, ◌▸◌}
use Rattle.step_turns.specs.declared.later.Later.{Later}
use Rattle.step_turns.specs.declared.later.Later.TheVariants.{Set, Write, TakeFlags, Observe, Service, Reset, WriteRun, ReadFlags}
use Rattle.laws_account.specs.Held.{profile_of, elapsed, was_observed}
use Rattle.laws_account.specs.Cycles.{phase_at}
use Rattle.laws_account.specs.Flagged.{Flag, was_taken, handed_back, pulsed}
use Rattle.laws_account.specs.Refused.{refusal_in, some}
use Rattle.laws_account.specs.States.{state_by, state_of, comes_to}
use Rattle.laws_account.proofs.Found.{written_by}
use Rattle.laws_account.proofs.Powering.{powered-is}
use Rattle.laws_account.proofs.Refusing.{set-refused, frequency-refused, half-refused, run-refused}
use Rattle.laws_account.proofs.Raising.{finish-is, kept-is, taken_is, hands-held, read_is, hands-byte}

-- what an accepted event comes to
abbrev pub accepted_at : Run → Outcome
accepted_at r = comes_to 0 (some r) (some r)

-- what the next event comes to
abbrev pub next_at : ℕ → Run → Later → Outcome
next_at refusal r e = comes_to refusal (some r) (some (pick (eqb refusal 0) (r ▸ e) r))

-- what the account's state makes of a change
abbrev closed : Run → Told Changed → Outcome
closed r = closed_by (On (state_of r))

plain-is : (r : Run) (e : Later) → was_observed (r ▸ e) ≡ false → ((k : Flag) → was_taken k (r ▸ e) ≡ false) → no_flags ≡ handed_back phase_at (r ▸ e)
    → closed r (changed (written_by (state_of r) e) Plain) ≡ accepted_at (r ▸ e)
unfolding seen_on
plain-is r e o h none = finish-is r e Plain (sym o) ∙ (λ i. record { number = 0; place = 0; model = On (kept-is r e h i); pulse = pulsed phase_at (r ▸ e); handed = none i })

observed-is : (r : Run) (x : Sample) → closed r (changed (written_by (state_of r) (Observe x)) Observes) ≡ accepted_at (r ▸ Observe x)
unfolding seen_on was_observed was_taken handed_back
observed-is r x =
    finish-is r (Observe x) Observes refl
    ∙ (λ i. record { number = 0; place = 0; model = On (kept-is r (Observe x) (λ k. refl) i); pulse = pulsed phase_at (r ▸ Observe x); handed = no_flags })

taken_next : (r : Run) → closed r (changed (state_of r) Takes) ≡ accepted_at (r ▸ TakeFlags)
unfolding seen_on was_observed
taken_next r =
    finish-is r TakeFlags Takes refl ∙ (λ i. record { number = 0; place = 0; model = On (taken_is r i); pulse = pulsed phase_at (r ▸ TakeFlags); handed = hands-held r i })

read_next : (r : Run) (a : ℕ) → closed r (changed (state_of r) (Reads a)) ≡ accepted_at (r ▸ ReadFlags a)
unfolding seen_on was_observed
read_next r a =
    finish-is r (ReadFlags a) (Reads a) refl ∙ (λ i. record { number = 0; place = 0; model = On (read_is r a i); pulse = pulsed phase_at (r ▸ ReadFlags a); handed = hands-byte r a i })

-- a refusal, and what stands where no test refuses
one-test : (a : Bool) (n : ℕ) (c : Told Changed) (r : Run) (e : Later) → eqb n 0 ≡ false → closed r c ≡ accepted_at (r ▸ e)
    → closed r (pick a (refused n) c) ≡ next_at (pick a n 0) r e
one-test true n c r e x h = rw x
one-test false n c r e x h = h

two-tests : (a b : Bool) (n k : ℕ) (c : Told Changed) (r : Run) (e : Later) → eqb n 0 ≡ false → eqb k 0 ≡ false → closed r c ≡ accepted_at (r ▸ e)
    → closed r (pick a (refused n) (pick b (refused k) c)) ≡ next_at (pick a n (pick b k 0)) r e
two-tests true b n k c r e x y h = rw x
two-tests false b n k c r e x y h = one-test b k c r e y h

three-tests : (a b c : Bool) (w : State) (r : Run) (e : Later) → closed r (changed w Plain) ≡ accepted_at (r ▸ e)
    → closed r (after_write (pick a (refused 10) (pick b (refused 5) (pick c (refused 11) (accepted w))))) ≡ next_at (pick a 10 (pick b 5 (pick c 11 0))) r e
three-tests true b c w r e h = refl
three-tests false true c w r e h = refl
three-tests false false true w r e h = refl
three-tests false false false w r e h = h

five-tests : (a b c d f : Bool) (w : State) (first : ℕ) (raw : RawBytes) (r : Run) (e : Later) → closed r (changed (acted_of w first (raw_of raw)) Plain) ≡ accepted_at (r ▸ e)
    → closed r (after_run (pick a (refused 5) (pick b (refused 10) (pick c (refused 15) (pick d (refused 11) (pick f (refused 9) (accepted w)))))) first (raw_of raw))
    ≡ next_at (pick a 5 (pick b 10 (pick c 15 (pick d 11 (pick f 9 0))))) r e
five-tests true b c d f w first raw r e h = refl
five-tests false true c d f w first raw r e h = refl
five-tests false false true d f w first raw r e h = refl
five-tests false false false true f w first raw r e h = refl
five-tests false false false false true w first raw r e h = refl
five-tests false false false false false w first raw r e h = h

pub followed-is : (r : Run) (e : Later) → closed r (followed_of (state_of r) e) ≡ next_at (refusal_in r e) r e
unfolding followed_of refusal_in set_of written_of write_of run_from write_run_of read_flags_of observe_of was_observed was_taken handed_back elapsed state_by
followed-is r (Set n v) =
    two-tests (not (known_setting (profile_of r) n)) (not (may_hold (profile_of r) n v)) 8 9 _ r (Set n v) refl refl (plain-is r (Set n v) refl (λ k. refl) refl)
    ∙ ap (λ k. next_at k r (Set n v)) (set-refused (profile_of r) n v 8 9)
followed-is r (Write a b) =
    three-tests (not (leb 0x15 a && leb a 0x1C)) (not (leb b 255)) (eqb a 0x16 && not (frequency_ok (profile_of r) (digit_of fsw b))) _ r (Write a b) (plain-is r (Write a b) refl (λ k. refl) refl)
    ∙ ap (λ bad. next_at (pick (not (leb 0x15 a && leb a 0x1C)) 10 (pick (not (leb b 255)) 5 (pick (eqb a 0x16 && bad) 11 0))) r (Write a b)) (frequency-refused (profile_of r) b)
followed-is r TakeFlags = taken_next r
followed-is r (Observe x) = one-test (ltb 3600000 (elapsed (r ▸ Observe x))) 7 _ r (Observe x) refl (observed-is r x)
followed-is r Service = plain-is r Service refl (λ k. refl) refl
followed-is r Reset = plain-is r Reset refl (λ k. refl) refl
followed-is r (WriteRun first raw) =
    let byte = byte_of (raw_of raw) in
    let count = raw.length in
    five-tests (not (has_spelling (raw_of raw))) (not (leb (first + count) 39)) (halves (profile_of r) first count) (illegal_frequency byte first count (profile_of r)) (bad_run byte first count (profile_of r)) _ first raw r (WriteRun first raw)
    (plain-is r (WriteRun first raw) refl (λ k. refl) refl)
    ∙ (λ i. next_at (pick (not (has_spelling (raw_of raw))) 5 (pick (not (leb (first + count) 39)) 10 (pick (half-refused (profile_of r) first count i) 15
    (pick (is_written first count fsw && frequency-refused (profile_of r) (value_in byte (0x16 - first)) i) 11 (pick (run-refused (profile_of r) first raw i) 9 0))))) r (WriteRun first raw))
followed-is r (ReadFlags a) = one-test (not (eqb a 0x20 || eqb a 0x21)) 10 _ r (ReadFlags a) refl (read_next r a)

pub turn_is : (r : Run) (e : Later) → state_ok (state_of r) ≡ true → turned_by (On (state_of r)) (Follows e) ≡ next_at (refusal_in r e) r e
unfolding turned_by change_of moved_of
turn_is r e ok = ap (λ b. closed r (pick b (followed_of (state_of r) e) (refused 5))) ok ∙ followed-is r e

-- a power-on, whatever was seen before it
pub opened-is : (p : Profile) → profile_ok p ≡ true → (m : Model) → finish_of (seen_on m) (start_state p) Powers ≡ accepted_at (powered p)
unfolding finish_of pulsed handed_back
opened-is p ok m = λ i. record { number = 0; place = 0; model = On (powered-is p ok i); pulse = true; handed = no_flags }
