-- Each refusal is given exactly when one of its rows says so.
use Prim.Native.Nat.{ℕ, ◌+◌, ◌<◌}
use mathlib.Core.Path.{◌≡◌, refl, sym, ap, subst, ◌∙◌}
use mathlib.Core.Bool.{Bool, true, false, not, ◌&&◌, false≢true}
use mathlib.Core.Logic.{◌↔◌, ◌⊎◌, inl, inr, ⊎_map}
use native.Mathlib.Omega.{arith}
use lib.Dec.{leb, ltb, eqb}
use borrow.Author.Tests.{le-leb, lt-leb, leb-true, leb-false, ltb-true, lt-ltb, eqb-true, not-true, not-false}
use Rattle.base.specs.Pick.{pick}
use Rattle.base.specs.Stamps.{elapsed_of}
use Rattle.base.specs.Told.{Told, accepted, refused, answer_number}
use Rattle.state_table.specs.Rows.{frequency_ok, fsw, digit_of}
use Rattle.log_event.specs.declared.spelled.SpelledEdition.{SpelledEdition}
use Rattle.log_event.specs.declared.spelled.SpelledProfile.{SpelledProfile}
use Rattle.log_event.specs.declared.spelled.SpelledResistors.{SpelledResistors}
use Rattle.log_event.specs.declared.spelled.SpelledSample.{SpelledSample}
use Rattle.state_parts.specs.declared.profile.Profile.{Profile}
use Rattle.state_parts.specs.declared.state.State.{State}
use Rattle.state_parts.specs.declared.state.Model.{Model}
use Rattle.state_parts.specs.declared.state.Model.TheVariants.{Off, On}
use Rattle.log_event.specs.declared.Event.{Event}
use Rattle.log_event.specs.declared.Event.TheVariants.{PowerOn, Set, Write, TakeFlags, Observe, Service, Reset, PowerOnResistors, ObserveTwo, PowerOnEdition, WriteRun, ReadFlags}
use Rattle.log_raw.specs.Raw.{byte_of, has_spelling}
use Rattle.log_raw.specs.Struct.{raw_of}
use Rattle.log_raw.specs.declared.RawBytes.{RawBytes}
use Rattle.report_registers.specs.Reads.{flag_register}
use Rattle.state_runs.specs.Runs.{halves, illegal_frequency, bad_run, written_run, write_run_of}
use Rattle.state_settings.specs.Ranges.{last_setting, known_setting, may_hold}
use Rattle.state_valid.specs.Holds.{state_ok}
use Rattle.step_turns.specs.Ranges.{edition_in_range, two_in_range, resistors_in_range}
use Rattle.step_turns.specs.Coded.{coded_of}
use Rattle.step_turns.specs.Turns.{held_profile, held_sample, opens_with, first_edition, observes_with, turn_of}
use Rattle.step_turns.specs.declared.later.Later.TheVariants as later
use Rattle.step_turns.specs.declared.turn.Turn.{Turn}
use Rattle.step_turns.specs.declared.turn.Turn.TheVariants.{Opens, Follows, OpensOutside, FollowsOutside}
use Rattle.state_registers.specs.Writes.{known_address, written_to, write_of}
use Rattle.state_registers.proofs.Order.{address-first, then-byte, then-frequency}
use Rattle.step_kinds.specs.Changes.{Changed}
use Rattle.step_kinds.specs.Finish.{finish_of}
use Rattle.step_kinds.specs.Plain.{after_write, set_of, written_of, after_run, run_from, read_flags_of}
use Rattle.step_event.specs.Steps.{observe_of, followed_of, moved_of, first_of, change_of, closed_by, turned_by, step_of}
use Rattle.laws_step.specs.Ranged.{Among}
use Rattle.laws_step.specs.Rows.{ResistorsIn, PowersOn, by-codes, by-resistors, by-edition, Row, bad-field, bad-profile, bad-resistors, bad-edition, bad-byte, bad-sample, bad-two, no-spelling, not-powered, too_far, two-too-far, no-setting, bad-value, run_value, no_address, run-outside, no-flags, bad-frequency, run-frequency, run-half}
use Rattle.laws_step.specs.Theorems.{EachGiven, NumberKnown}
use Rattle.laws_step.specs.RunRows.{Spelled, InMap, HasHalf, NoFrequency, Unheld}
use Rattle.laws_step.proofs.RunRows.{spelled_is, inside_is, half_is, frequency-is, unheld-is, flags-at}
use Rattle.laws_step.proofs.InRanges.{outside, refuted, failed, among, first-in, edition-in, resistors-in, two_in, twice_in, value-in, bad-frequency-is}

-- a change is an accepted event's, or a row gives its number
abbrev Says : Model → Event → Told Changed → Type 0
Says m e c = (answer_number c ≡ 0) ⊎ Row (answer_number c) m e

-- a refusal by a test, and what stands where the test fails
tests : (m : Model) (e : Event) (n : ℕ) (t : Bool) (c : Told Changed) → (t ≡ true → Row n m e) → (t ≡ false → Says m e c) → Says m e (pick t (refused n) c)
tests m e n true c row else = inr (row refl)
tests m e n false c row else = else refl

-- two tests one after the other are their conjunction
two-tests : (a b : Bool) (x y : Turn) → pick a (pick b x y) y ≡ pick (a && b) x y
two-tests true b x y = refl
two-tests false b x y = refl

-- a power-on, on a model that is on or off
module _ (m : Model) (change : Turn → Told Changed) (opens : (p : Profile) → answer_number (change (Opens p)) ≡ 0) (out : answer_number (change OpensOutside) ≡ 5) where
  opens_by : (e : Event) (p : Profile) (t : Bool) → (t ≡ false → Row 5 m e) → Says m e (change (pick t (Opens p) OpensOutside))
  opens_by e p true bad = inl (opens p)
  opens_by e p false bad = inr (subst (λ (n : ℕ). Row n m e) (sym out) (bad refl))

  powers : (p : SpelledProfile) → Says m (PowerOn p) (change (opens_with p first_edition))
  powers p =
      let t = edition_in_range p first_edition in
      opens_by (PowerOn p) (held_profile p first_edition) t (λ h. bad-profile m p (outside t (first-in p) h))

  edits : (v : SpelledEdition) → Says m (PowerOnEdition v) (change (opens_with v.profile v.edition))
  edits v =
      let t = edition_in_range v.profile v.edition in
      opens_by (PowerOnEdition v) (held_profile v.profile v.edition) t (λ h. bad-edition m v (outside t (edition-in v) h))

  solders : (r : SpelledResistors) → Says m (PowerOnResistors r) (change (pick (resistors_in_range r) (opens_with (coded_of r) first_edition) OpensOutside))
  solders r =
      let p = coded_of r in
      let t = resistors_in_range r && edition_in_range p first_edition in
      rw (two-tests (resistors_in_range r) (edition_in_range p first_edition) (Opens (held_profile p first_edition)) OpensOutside)
      (opens_by (PowerOnResistors r) (held_profile p first_edition) t (λ h. bad-resistors m r (outside t (resistors-in r) h)))

module _ (s : State) (ok : state_ok s ≡ true) where
  sets : (number value : ℕ) → Says (On s) (Set number value) (set_of s number value)
  unfolding set_of
  sets number value =
      tests (On s) (Set number value) 8 (not (known_setting s.profile number)) _ (λ out. no-setting s number value ok (refuted (known_setting s.profile number) (among number 1 last_setting) out))
      (λ known.
      let listed = (among number 1 last_setting).0 (not-false (known_setting s.profile number) known) in
      tests (On s) (Set number value) 9 (not (may_hold s.profile number value)) _
      (λ out. bad-value s number value ok listed (refuted (may_hold s.profile number value) (value-in s.profile number value listed) out)) (λ _. inl refl))

  writes : (address byte : ℕ) → Says (On s) (Write address byte) (written_of s address byte)
  unfolding written_of write_of
  writes address byte = by (not (known_address address)) (not (leb byte 255)) (eqb address 0x16) (not (frequency_ok s.profile (digit_of fsw byte))) refl refl refl refl
    where
      by : (unknown large at bad : Bool) → not (known_address address) ≡ unknown → not (leb byte 255) ≡ large → eqb address 0x16 ≡ at → not (frequency_ok s.profile (digit_of fsw byte)) ≡ bad
          → Says (On s) (Write address byte) (after_write (pick unknown (refused 10) (pick large (refused 5) (pick (at && bad) (refused 11) (accepted (written_to s address byte))))))
      by true large at bad a b c d = inr (no_address s address byte ok (refuted (known_address address) (among address 0x15 0x1C) a))
      by false true at bad a b c d = inr (bad-byte s address byte ((among address 0x15 0x1C).0 (not-false (known_address address) a)) (leb-false byte 255 (not-true (leb byte 255) b)))
      by false false false bad a b c d = inl refl
      by false false true false a b c d = inl refl
      by false false true true a b c d =
          inr (subst (λ (n : ℕ). Row 11 (On s) (Write n byte)) (sym (eqb-true address 0x16 c))
          (bad-frequency s byte ok (leb-true byte 255 (not-false (leb byte 255) b)) ((bad-frequency-is s.profile byte).0 d)))

  -- an observation, of one value or two
  observes : (e : Event) (x : SpelledSample) (second : ℕ) (t : Bool) → (t ≡ false → Row 5 (On s) e) → (t ≡ true → 3600000 < elapsed_of s.sample.stamp x.stamp → Row 7 (On s) e)
      → Says (On s) e (moved_of s (pick t (Follows (later.Observe (held_sample x second))) FollowsOutside))
  unfolding moved_of followed_of observe_of
  observes e x second true bad far =
      let ms = elapsed_of s.sample.stamp x.stamp in
      tests (On s) e 7 (ltb 3600000 ms) _ (λ late. far refl (ltb-true 3600000 ms late)) (λ _. inl refl)
  observes e x second false bad far = inr (bad refl)

  runs : (first : ℕ) (raw : RawBytes) → Says (On s) (WriteRun first raw) (run_from s first (raw_of raw))
  unfolding run_from write_run_of
  runs first raw =
      by (has_spelling (raw_of raw)) (leb (first + raw.length) 39) (halves s.profile first raw.length) (illegal_frequency (byte_of (raw_of raw)) first raw.length s.profile) (bad_run (byte_of (raw_of raw)) first raw.length s.profile)
      (spelled_is raw) (inside_is first raw) (half_is s.profile first raw) (frequency-is s.profile first raw) (unheld-is s.profile first raw)
    where
      by : (a b c d f : Bool) → (a ≡ true) ↔ Spelled raw → (b ≡ true) ↔ InMap first raw → (c ≡ true) ↔ HasHalf first raw → (d ≡ true) ↔ NoFrequency first raw → (f ≡ true) ↔ Unheld s.profile first raw
          → Says (On s) (WriteRun first raw) (after_run (pick (not a) (refused 5) (pick (not b) (refused 10) (pick c (refused 15) (pick d (refused 11) (pick f (refused 9) (accepted (written_run s first (raw_of raw)))))))) first (raw_of raw))
      by false b c d f ea eb ec ed ef = inr (no-spelling s first raw (outside false ea refl))
      by true false c d f ea eb ec ed ef = inr (run-outside s first raw ok (ea.0 refl) (outside false eb refl))
      by true true true d f ea eb ec ed ef = inr (run-half s first raw ok (ea.0 refl) (eb.0 refl) (ec.0 refl))
      by true true false true f ea eb ec ed ef = inr (run-frequency s first raw ok (ea.0 refl) (eb.0 refl) (outside false ec refl) (ed.0 refl))
      by true true false false true ea eb ec ed ef = inr (run_value s first raw ok (ea.0 refl) (eb.0 refl) (outside false ec refl) (outside false ed refl) (ef.0 refl))
      by true true false false false ea eb ec ed ef = inl refl

  reads : (address : ℕ) → Says (On s) (ReadFlags address) (read_flags_of s address)
  unfolding read_flags_of
  reads address =
      tests (On s) (ReadFlags address) 10 (not (flag_register s.profile address)) _ (λ out. no-flags s address ok (refuted (flag_register s.profile address) (flags-at s.profile address) out)) (λ _. inl refl)

  moves : (e : Event) → Says (On s) e (moved_of s (turn_of e))
  unfolding moved_of followed_of turn_of
  moves (PowerOn p) = powers (On s) (moved_of s) (λ q. refl) refl p
  moves (Set number value) = sets number value
  moves (Write address byte) = writes address byte
  moves TakeFlags = inl refl
  moves (Observe x) =
      let t = two_in_range x x.ts in
      observes (Observe x) x x.ts t (λ h. bad-sample s x (outside t (twice_in x) h)) (λ h far. too_far s x ok ((twice_in x).0 h) far)
  moves (ObserveTwo x) =
      let t = two_in_range x.sample x.second in
      observes (ObserveTwo x) x.sample x.second t (λ h. bad-two s x (outside t (two_in x) h)) (λ h far. two-too-far s x ok ((two_in x).0 h) far)
  moves Service = inl refl
  moves Reset = inl refl
  moves (PowerOnResistors r) = solders (On s) (moved_of s) (λ q. refl) refl r
  moves (PowerOnEdition v) = edits (On s) (moved_of s) (λ q. refl) refl v
  moves (WriteRun first raw) = runs first raw
  moves (ReadFlags address) = reads address

-- 6 comes before an observation's 5
six-first : (x : SpelledSample) (second : ℕ) (t : Bool) → answer_number (first_of (pick t (Follows (later.Observe (held_sample x second))) FollowsOutside)) ≡ 6
unfolding first_of
six-first x second true = refl
six-first x second false = refl

not_yet : (e : Event) (x : SpelledSample) (second : ℕ) → ¬ PowersOn e → Says Off e (first_of (observes_with x second))
not_yet e x second other = inr (subst (λ (n : ℕ). Row n Off e) (sym (six-first x second (two_in_range x second))) (not-powered e other))

first : (e : Event) → Says Off e (first_of (turn_of e))
unfolding first_of turn_of
first (PowerOn p) = powers Off first_of (λ q. refl) refl p
first (Set number value) = inr (not-powered (Set number value) (elim [ ]))
first (Write address byte) = inr (not-powered (Write address byte) (elim [ ]))
first TakeFlags = inr (not-powered TakeFlags (elim [ ]))
first (Observe x) = not_yet (Observe x) x x.ts (elim [ ])
first (ObserveTwo x) = not_yet (ObserveTwo x) x.sample x.second (elim [ ])
first Service = inr (not-powered Service (elim [ ]))
first Reset = inr (not-powered Reset (elim [ ]))
first (PowerOnResistors r) = solders Off first_of (λ q. refl) refl r
first (PowerOnEdition v) = edits Off first_of (λ q. refl) refl v
first (WriteRun address raw) = inr (not-powered (WriteRun address raw) (elim [ ]))
first (ReadFlags address) = inr (not-powered (ReadFlags address) (elim [ ]))

tells : (m : Model) (e : Event) → Says m e (change_of m (turn_of e))
unfolding change_of
tells Off e = first e
tells (On s) e = by (state_ok s) refl
  where
    by : (ok : Bool) → state_ok s ≡ ok → Says (On s) e (pick ok (moved_of s (turn_of e)) (refused 5))
    by true ok = moves s ok e
    by false bad = inr (bad-field s e (λ good. false≢true (sym bad ∙ good)))

-- a step's number is its change's
pub closed-number : (m : Model) (c : Told Changed) → (closed_by m c).number ≡ answer_number c
unfolding finish_of
closed-number m (accepted c) = refl
closed-number m (refused n) = refl

step-number : (m : Model) (e : Event) → (step_of m e).number ≡ answer_number (change_of m (turn_of e))
unfolding step_of turned_by
step-number m e = closed-number m (change_of m (turn_of e))

-- a row's number is given wherever it holds
by-test : (t : Bool) (n : ℕ) (c : Told Changed) → answer_number c ≡ n → answer_number (pick t c (refused n)) ≡ n
by-test true n c e = e
by-test false n c e = refl

outside-range : (r : SpelledResistors) → ¬ ResistorsIn r → pick (resistors_in_range r) (opens_with (coded_of r) first_edition) OpensOutside ≡ OpensOutside
outside-range r out =
    let p = coded_of r in
    two-tests (resistors_in_range r) (edition_in_range p first_edition) (Opens (held_profile p first_edition)) OpensOutside
    ∙ ap (λ (t : Bool). pick t (Opens (held_profile p first_edition)) OpensOutside) (failed (resistors_in_range r && edition_in_range p first_edition) (resistors-in r) out)

rows-give : {n : ℕ} {m : Model} {e : Event} → Row n m e → answer_number (change_of m (turn_of e)) ≡ n
unfolding change_of turn_of moved_of followed_of first_of written_of observe_of set_of run_from write_run_of read_flags_of
rows-give (bad-field s e bad) = simp (failed (state_ok s) (λ k. k, λ k. k) bad)
rows-give (bad-profile Off p out) = simp (failed (edition_in_range p first_edition) (first-in p) out)
rows-give (bad-profile (On s) p out) = by-test (state_ok s) 5 (moved_of s (turn_of (PowerOn p))) (simp (failed (edition_in_range p first_edition) (first-in p) out))
rows-give (bad-edition Off v out) = simp (failed (edition_in_range v.profile v.edition) (edition-in v) out)
rows-give (bad-edition (On s) v out) = by-test (state_ok s) 5 (moved_of s (turn_of (PowerOnEdition v))) (simp (failed (edition_in_range v.profile v.edition) (edition-in v) out))
rows-give (bad-resistors Off r out) = simp (outside-range r out)
rows-give (bad-resistors (On s) r out) = by-test (state_ok s) 5 (moved_of s (turn_of (PowerOnResistors r))) (simp (outside-range r out))
rows-give (bad-byte s address byte known large) =
    by-test (state_ok s) 5 (written_of s address byte) (simp (then-byte s address byte ((among address 0x15 0x1C).1 known) (lt-leb byte 255 large)))
rows-give (bad-sample s x out) = by-test (state_ok s) 5 (moved_of s (turn_of (Observe x))) (simp (failed (two_in_range x x.ts) (twice_in x) out))
rows-give (bad-two s x out) = by-test (state_ok s) 5 (moved_of s (turn_of (ObserveTwo x))) (simp (failed (two_in_range x.sample x.second) (two_in x) out))
rows-give (not-powered (PowerOn p) other) = absurd (other (by-codes p))
rows-give (not-powered (Set number value) other) = refl
rows-give (not-powered (Write address byte) other) = refl
rows-give (not-powered TakeFlags other) = refl
rows-give (not-powered (Observe x) other) = six-first x x.ts (two_in_range x x.ts)
rows-give (not-powered (ObserveTwo x) other) = six-first x.sample x.second (two_in_range x.sample x.second)
rows-give (not-powered Service other) = refl
rows-give (not-powered Reset other) = refl
rows-give (not-powered (PowerOnResistors r) other) = absurd (other (by-resistors r))
rows-give (not-powered (PowerOnEdition v) other) = absurd (other (by-edition v))
rows-give (not-powered (WriteRun address raw) other) = refl
rows-give (not-powered (ReadFlags address) other) = refl
rows-give (too_far s x ok fits far) = simp (ok, (twice_in x).1 fits, lt-ltb 3600000 (elapsed_of s.sample.stamp x.stamp) far)
rows-give (two-too-far s x ok fits far) = simp (ok, (two_in x).1 fits, lt-ltb 3600000 (elapsed_of s.sample.stamp x.sample.stamp) far)
rows-give (no-setting s number value ok out) = simp (ok, failed (known_setting s.profile number) (among number 1 last_setting) out)
rows-give (bad-value s number value ok known out) =
    simp (ok, (among number 1 last_setting).1 known, failed (may_hold s.profile number value) (value-in s.profile number value known) out)
rows-give (no_address s address byte ok out) = simp (ok, address-first s address byte (failed (known_address address) (among address 0x15 0x1C) out))
rows-give (bad-frequency s byte ok small bad) = simp (ok, then-frequency s 0x16 byte refl (le-leb byte 255 small) ((bad-frequency-is s.profile byte).1 bad))
rows-give (no-spelling s first raw out) = by-test (state_ok s) 5 (run_from s first (raw_of raw)) (simp (failed (has_spelling (raw_of raw)) (spelled_is raw) out))
rows-give (run-outside s first raw ok spelled out) = simp (ok, (spelled_is raw).1 spelled, failed (leb (first + raw.length) 39) (inside_is first raw) out)
rows-give (run-half s first raw ok spelled inside half) = simp (ok, (spelled_is raw).1 spelled, (inside_is first raw).1 inside, (half_is s.profile first raw).1 half)
rows-give (run-frequency s first raw ok spelled inside whole bad) =
    simp (ok, (spelled_is raw).1 spelled, (inside_is first raw).1 inside, failed (halves s.profile first raw.length) (half_is s.profile first raw) whole, (frequency-is s.profile first raw).1 bad)
rows-give (run_value s first raw ok spelled inside whole legal bad) =
    simp (
      ok,
      (spelled_is raw).1 spelled,
      (inside_is first raw).1 inside,
      failed (halves s.profile first raw.length) (half_is s.profile first raw) whole,
      failed (illegal_frequency (byte_of (raw_of raw)) first raw.length s.profile) (frequency-is s.profile first raw) legal,
      (unheld-is s.profile first raw).1 bad,
    )
rows-give (no-flags s address ok out) = simp (ok, failed (flag_register s.profile address) (flags-at s.profile address) out)

-- the same of the step
abbrev SaysStep : Model → Event → ℕ → Type 0
SaysStep m e n = (n ≡ 0) ⊎ Row n m e

pub tells-step : (m : Model) (e : Event) → SaysStep m e (step_of m e).number
tells-step m e = subst (SaysStep m e) (sym (step-number m e)) (tells m e)

pub each-given : EachGiven
each-given n some m e = (λ given. by (tells-step m e) given, λ row. step-number m e ∙ rows-give row)
  where
    by : SaysStep m e (step_of m e).number → (step_of m e).number ≡ n → Row n m e
    by (inl none) given = absurd (omega arith)
    by (inr row) given = subst (λ (k : ℕ). Row k m e) given row

known : {n : ℕ} {m : Model} {e : Event} → Row n m e → Among n 5 11 ⊎ (n ≡ 15)
known (bad-field s e bad) = inl (omega arith, omega arith)
known (bad-profile m p out) = inl (omega arith, omega arith)
known (bad-resistors m r out) = inl (omega arith, omega arith)
known (bad-edition m v out) = inl (omega arith, omega arith)
known (bad-byte s address byte among large) = inl (omega arith, omega arith)
known (bad-sample s x out) = inl (omega arith, omega arith)
known (bad-two s x out) = inl (omega arith, omega arith)
known (not-powered e other) = inl (omega arith, omega arith)
known (too_far s x ok fits far) = inl (omega arith, omega arith)
known (two-too-far s x ok fits far) = inl (omega arith, omega arith)
known (no-setting s number value ok out) = inl (omega arith, omega arith)
known (bad-value s number value ok among out) = inl (omega arith, omega arith)
known (no_address s address byte ok out) = inl (omega arith, omega arith)
known (bad-frequency s byte ok small bad) = inl (omega arith, omega arith)
known (no-spelling s first raw out) = inl (omega arith, omega arith)
known (run_value s first raw ok spelled inside whole legal bad) = inl (omega arith, omega arith)
known (run-outside s first raw ok spelled out) = inl (omega arith, omega arith)
known (no-flags s address ok out) = inl (omega arith, omega arith)
known (run-frequency s first raw ok spelled inside whole bad) = inl (omega arith, omega arith)
known (run-half s first raw ok spelled inside half) = inr refl

pub number-known : NumberKnown
number-known m e = ⊎_map (λ none. none) known (tells-step m e)
