-- What every step comes to: a refusal that leaves the model as it was, or the settling of a state whose parts hold what they may.
use Rattle.std.proofs.Common.{◌≡◌, ℕ, ◌*◌, ◌/◌, ◌%◌, ◌≤◌, Bool, true, false, not, ◌&&◌, eqb, ltb, leb, ◌≢◌, ◌⊎◌, refl, inl, inr, arith, ltb-false, le-leb, leb-true}
use borrow.Author.Tests.{not-false}
use Rattle.base.specs.Pick.{pick}
use Rattle.base.specs.Stamps.{elapsed_of}
use Rattle.base.specs.Refusals.{refusal_number}
use Rattle.base.specs.declared.refusal.Refusal.{Refusal}
use Rattle.base.specs.declared.refusal.Refusal.TheVariants.{OutOfRange, NotPowered, StampAhead, UnknownSetting, BadValue, UnknownAddress, BadFrequency, HalfRegister}
use Rattle.base.specs.Told.{Told, accepted, refused}
use Rattle.base.proofs.Tests.{and-iff}
use Rattle.state_parts.specs.Edges.{all_flags}
use Rattle.state_parts.specs.With.{with_settings, with_flags}
use Rattle.state_parts.specs.declared.profile.Profile.{Profile}
use Rattle.state_parts.specs.declared.sample.Sample.{Sample}
use Rattle.state_parts.specs.declared.state.State.{State}
use Rattle.state_parts.specs.declared.state.Model.{Model}
use Rattle.state_parts.specs.declared.state.Model.TheVariants.{Off, On}
use Rattle.log_event.specs.declared.Event.{Event}
use Rattle.log_raw.specs.Raw.{Raw, byte_of, has_spelling}
use Rattle.log_raw.specs.Struct.{raw_of}
use Rattle.report_registers.specs.Reads.{flag_register}
use Rattle.state_runs.specs.Runs.{outside, halves, illegal_frequency, bad_run, written_run, write_run_of, resets, serves}
use Rattle.state_runs.proofs.Keeps.{run-passes}
use Rattle.state_table.specs.Rows.{frequency_ok, fsw, digit_of}
use Rattle.state_start.specs.Values.{start_state}
use Rattle.state_settings.specs.Numbered.{store_of}
use Rattle.state_settings.specs.Ranges.{known_setting, may_hold}
use Rattle.state_settings.proofs.Stores.{store-passes}
use Rattle.state_valid.specs.Holds.{profile_ok, sample_ok, state_ok}
use Rattle.state_parts.proofs.FlagLaws.{flags-fit}
use Rattle.state_valid.proofs.Begins.{start-passes, start-watchdog-pass}
use Rattle.state_valid.proofs.Wholes.{apart, whole}
use Rattle.state_registers.specs.Writes.{known_address, written_to, write_of}
use Rattle.state_registers.specs.Resets.{reset_of}
use Rattle.state_registers.proofs.Keeps.{write-passes, reset-passes}
use Rattle.settle_all.specs.Settle.{settle_of}
use Rattle.step_turns.specs.Turns.{turn_of}
use Rattle.step_turns.specs.Promises.{LaterFits, TurnFits}
use Rattle.step_turns.specs.declared.later.Later.{Later}
use Rattle.step_turns.specs.declared.later.Later.TheVariants.{Set, Write, TakeFlags, Observe, Service, Reset, WriteRun, ReadFlags}
use Rattle.step_turns.specs.declared.turn.Turn.{Turn}
use Rattle.step_turns.specs.declared.turn.Turn.TheVariants.{Opens, Follows, OpensOutside, FollowsOutside}
use Rattle.step_turns.proofs.Fitting.{every-turn-fits}
use Rattle.step_event.specs.Clock.{observed_of}
use Rattle.step_kinds.specs.Answers.{Outcome, refused_with}
use Rattle.step_kinds.specs.Changes.{Changed, changed}
use Rattle.step_kinds.specs.Finish.{observing, kept_by, finish_of}
use Rattle.step_kinds.specs.Plain.{after_write, opened_as, set_of, written_of, serviced_of, acted_of, after_run, run_from, read_flags_of}
use Rattle.step_kinds.specs.declared.change.Way.{Way}
use Rattle.step_kinds.specs.declared.change.Way.TheVariants.{Plain, Observes, Takes, Reads, Powers}
use Rattle.step_event.specs.Steps.{observe_of, followed_of, moved_of, first_of, change_of, model_ok, seen_on, closed_by, turned_by, step_of}
use Rattle.step_event.specs.Theorems.{Untouched, RefusedLeaves, AcceptedPasses, StepKeeps}
use Rattle.step_event.proofs.Numbered.{some_number}
use Rattle.step_event.proofs.Settles.{Ready, ready, settled-passes}
use Rattle.step_event.proofs.Observes.{observed-ready}

-- what a change comes to: a refusal's number, or a state whose parts hold what they may
pub data Writes : Told Changed → Type 0 where
  refuses : (r : Refusal) → Writes (refused (refusal_number r))
  changes : (written : State) (way : Way) → Ready written → Writes (changed written way)

-- a refusal by a test, and what stands where the test fails
tests : (r : Refusal) (t : Bool) (c : Told Changed) → (t ≡ false → Writes c) → Writes (pick t (refused (refusal_number r)) c)
tests r true c k = refuses r
tests r false c k = k refl

opens : (p : Profile) → profile_ok p ≡ true → Writes (opened_as p)
opens p ok = changes (start_state p) Powers (ready (start_state p) (start-passes p ok))

module _ (s : State) (e : state_ok s ≡ true) where
  sets : (number value : ℕ) → Writes (set_of s number value)
  unfolding set_of
  sets number value =
      tests UnknownSetting (not (known_setting s.profile number)) _
      (λ _. tests BadValue (not (may_hold s.profile number value)) _
      (λ ok.
      let k = ready s e in
      changes (with_settings s (store_of s.settings number value)) Plain (record {
        profile = k.profile;
        settings = store-passes s.profile s.settings number value (not-false (may_hold s.profile number value) ok) k.settings;
        registers = k.registers;
        cycle = k.cycle;
        watchdog = k.watchdog;
        sample = k.sample;
        flags = k.flags;
      })))

  -- FSW is 1 to 6 where the byte is taken
  legal : (address byte : ℕ) → (eqb address 0x16 && not (frequency_ok s.profile (digit_of fsw byte))) ≡ false → address ≡ 0x16 → frequency_ok s.profile (digit_of fsw byte) ≡ true
  legal address byte t same = not-false (frequency_ok s.profile (digit_of fsw byte)) (simp same at t)

  writes : (address byte : ℕ) → Writes (written_of s address byte)
  unfolding written_of write_of
  writes address byte =
      by (not (known_address address)) (not (leb byte 255)) (eqb address 0x16 && not (frequency_ok s.profile (digit_of fsw byte)))
      (λ known small good.
      let k = (and-iff (leb 0x15 address) (leb address 0x1C)).0 (not-false (known_address address) known) in
      let most = leb-true byte 255 (not-false (leb byte 255) small) in
      write-passes s e address byte (leb-true 0x15 address k.0) (leb-true address 0x1C k.1) (omega arith) (legal address byte good))
    where
      by : (unknown large bad : Bool) → (unknown ≡ false → large ≡ false → bad ≡ false → state_ok (written_to s address byte) ≡ true)
          → Writes (after_write (pick unknown (refused 10) (pick large (refused 5) (pick bad (refused 11) (accepted (written_to s address byte))))))
      by true large bad k = refuses UnknownAddress
      by false true bad k = refuses OutOfRange
      by false false true k = refuses BadFrequency
      by false false false k = changes (written_to s address byte) Plain (ready (written_to s address byte) (k refl refl refl))

  observes : (x : Sample) → sample_ok x ≡ true → Writes (observe_of s x)
  unfolding observe_of
  observes x ok =
      tests StampAhead (ltb 3600000 (elapsed_of s.sample.stamp x.stamp)) _
      (λ near. changes (observed_of s x) Observes (observed-ready s x e ok (ltb-false 3600000 (elapsed_of s.sample.stamp x.stamp) near)))

  services : Ready (serviced_of s)
  services =
      let k = ready s e in
      record {
        profile = k.profile;
        settings = k.settings;
        registers = k.registers;
        cycle = k.cycle;
        watchdog = start-watchdog-pass s.profile;
        sample = k.sample;
        flags = k.flags;
      }

  reads : (address : ℕ) → Writes (read_flags_of s address)
  unfolding read_flags_of
  reads address = tests UnknownAddress (not (flag_register s.profile address)) _ (λ _. changes s (Reads address) (ready s e))

-- what a run's reset and service bits leave
acts : (s : State) → state_ok s ≡ true → (address : ℕ) (raw : Raw) → Ready (acted_of s address raw)
unfolding acted_of
acts s e address raw = by (resets address raw) (serves address raw)
  where
    serviced : (t : State) → state_ok t ≡ true → (serves : Bool) → Ready (pick serves (serviced_of t) t)
    serviced t ok true = services t ok
    serviced t ok false = ready t ok

    by : (resets serves : Bool) → let reset = pick resets (reset_of s) s in Ready (pick serves (serviced_of reset) reset)
    by true serves = serviced (reset_of s) (reset-passes s e) serves
    by false serves = serviced s e serves

module _ (s : State) (e : state_ok s ≡ true) where
  runs : (address : ℕ) (raw : Raw) → Writes (run_from s address raw)
  unfolding run_from write_run_of
  runs address raw =
      by (has_spelling raw) (outside address raw.count) (halves s.profile address raw.count) (illegal_frequency (byte_of raw) address raw.count s.profile)
      (bad_run (byte_of raw) address raw.count s.profile) refl refl refl refl refl
    where
      by : (a b c d f : Bool) → has_spelling raw ≡ a → outside address raw.count ≡ b → halves s.profile address raw.count ≡ c
          → illegal_frequency (byte_of raw) address raw.count s.profile ≡ d → bad_run (byte_of raw) address raw.count s.profile ≡ f
          → Writes (after_run (pick (not a) (refused 5) (pick b (refused 10) (pick c (refused 15) (pick d (refused 11) (pick f (refused 9) (accepted (written_run s address raw))))))) address raw)
      by false b c d f ea eb ec ed ef = refuses OutOfRange
      by true true c d f ea eb ec ed ef = refuses UnknownAddress
      by true false true d f ea eb ec ed ef = refuses HalfRegister
      by true false false true f ea eb ec ed ef = refuses BadFrequency
      by true false false false true ea eb ec ed ef = refuses BadValue
      by true false false false false ea eb ec ed ef =
          let after = run-passes s e address raw (record { spelled = ea; inside = eb; whole = ec; legal = ed; held = ef; after = refl }) in
          changes (acted_of (written_run s address raw) address raw) Plain (acts (written_run s address raw) after address raw)

  follows : (later : Later) → LaterFits later → Writes (followed_of s later)
  unfolding followed_of
  follows (Set number value) fits = sets s e number value
  follows (Write address byte) fits = writes s e address byte
  follows TakeFlags fits = changes s Takes (ready s e)
  follows (Observe x) fits = observes s e x fits
  follows Service fits = changes (serviced_of s) Plain (services s e)
  follows Reset fits = changes (reset_of s) Plain (ready (reset_of s) (reset-passes s e))
  follows (WriteRun address raw) fits = runs address (raw_of raw)
  follows (ReadFlags address) fits = reads s e address

  moves : (t : Turn) → TurnFits t → Writes (moved_of s t)
  unfolding moved_of
  moves (Opens p) fits = opens p fits
  moves (Follows later) fits = follows later fits
  moves OpensOutside fits = refuses OutOfRange
  moves FollowsOutside fits = refuses OutOfRange

first : (t : Turn) → TurnFits t → Writes (first_of t)
unfolding first_of
first (Opens p) fits = opens p fits
first (Follows later) fits = refuses NotPowered
first OpensOutside fits = refuses OutOfRange
first FollowsOutside fits = refuses NotPowered

pub writes-what : (m : Model) (t : Turn) → TurnFits t → Writes (change_of m t)
unfolding change_of
writes-what Off t fits = first t fits
writes-what (On s) t fits = by (state_ok s) refl
  where
    by : (ok : Bool) → state_ok s ≡ ok → Writes (pick ok (moved_of s t) (refused 5))
    by true e = moves s e t fits
    by false e = refuses OutOfRange

-- so a step is a refusal, or a settling
pub data Comes (m : Model) : Outcome → Type 0 where
  refuses : (r : Refusal) → Comes m (refused_with (refusal_number r) m)
  settles : (written : State) (way : Way) → Ready written → Comes m (finish_of (seen_on m) written way)

closes : (m : Model) {c : Told Changed} → Writes c → Comes m (closed_by m c)
closes m (refuses r) = refuses r
closes m (changes written way k) = settles written way k

pub comes-by : (m : Model) (t : Turn) → TurnFits t → Comes m (turned_by m t)
unfolding turned_by
comes-by m t fits = closes m (writes-what m t fits)

pub comes : (m : Model) (event : Event) → Comes m (step_of m event)
unfolding step_of
comes m event = comes-by m (turn_of event) (every-turn-fits event)

pub refused-leaves : RefusedLeaves
unfolding finish_of
refused-leaves m event = by (comes m event)
  where
    by : {o : Outcome} → Comes m o → o.number ≢ 0 → Untouched m o
    by (refuses r) h = record { place = refl; model = refl; pulse = refl; handed = refl }
    by (settles written way k) h = absurd (h refl)

-- only one test reads the flags
flagged-passes : (s : State) (f : ℕ) → state_ok s ≡ true → f ≤ all_flags → state_ok (with_flags s f) ≡ true
flagged-passes s f e h =
    let k = apart s e in
    whole (with_flags s f) (record {
      profile = k.profile;
      settings = k.settings;
      registers = k.registers;
      cycle = k.cycle;
      watchdog = k.watchdog;
      sample = k.sample;
      flags = le-leb f all_flags h;
    })

kept-fit : (way : Way) (all : ℕ) → all ≤ all_flags → kept_by way all ≤ all_flags
kept-fit Plain all h = h
kept-fit Observes all h = h
kept-fit Takes all h = omega arith
kept-fit (Reads address) all h = by (eqb address 0x20)
  where
    by : (t : Bool) → pick t (all / 256 * 256) (all % 256) ≤ all_flags
    by true = omega arith
    by false = omega arith
kept-fit Powers all h = omega arith

-- where the event is accepted the model before it doesn't matter
passes : (m : Model) {o : Outcome} → Comes m o → (o.number ≡ 0) ⊎ (model_ok m ≡ true) → model_ok o.model ≡ true
unfolding model_ok finish_of
passes m (refuses r) (inl none) = absurd (omega (arith, some_number r))
passes m (refuses r) (inr ok) = ok
passes m (settles written way k) h =
    let few = flags-fit written.flags _ (leb-true written.flags all_flags k.flags) in
    flagged-passes (settle_of written (observing way)) _ (settled-passes written (observing way) k) (kept-fit way _ few)

-- the same of a turn
pub turned-passes : (m : Model) (t : Turn) → TurnFits t → (turned_by m t).number ≡ 0 → model_ok (turned_by m t).model ≡ true
turned-passes m t fits none = passes m (comes-by m t fits) (inl none)

pub accepted-passes : AcceptedPasses
accepted-passes m event none = passes m (comes m event) (inl none)

pub step_keeps : StepKeeps
step_keeps m event ok = passes m (comes m event) (inr ok)
