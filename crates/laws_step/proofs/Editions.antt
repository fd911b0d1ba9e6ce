-- No rule but the hold reads the edition: what a state of one edition settles, writes, refuses and shows, one of the other does too.
use Prim.Native.Nat.{ℕ, ◌+◌}
use mathlib.Core.Path.{◌≡◌, refl, sym, ap, subst, ◌∙◌}
use mathlib.Core.Bool.{Bool, true, false, not, ◌&&◌, ◌||◌}
use lib.Dec.{leb, ltb, eqb}
use mathlib.Core.Logic.{inl, inr}
use native.Mathlib.Omega.{arith}
use Rattle.base.specs.Pick.{pick}
use Rattle.state_parts.specs.With.{with_edition}
use Rattle.state_parts.specs.declared.band.Bands.{Bands}
use Rattle.state_parts.specs.declared.profile.Profile.{Profile}
use Rattle.state_parts.specs.declared.sample.Sample.{Sample}
use Rattle.state_parts.specs.declared.state.State.{State}
use Rattle.state_table.specs.Rows.{Field, fields_of, over, digit_of, fsw, frequency_ok}
use Rattle.state_table.specs.declared.Access.{Access}
use Rattle.state_table.specs.declared.Access.TheVariants.{Reserved, Fixed, Status, Flag, Stored, Setting, Mask, Counted, Pin, Acts}
use Rattle.settle_bands.specs.Thresholds.{band_by, marks_of, band_of}
use Rattle.settle_bands.specs.Joined.{pack_band}
use Rattle.settle_bands.specs.Holding.{bands_of, fresh_bands}
use Rattle.settle_bands.proofs.Held.{by-edition}
use Rattle.settle_bands.specs.Effect.{suspends_of, cut_of}
use Rattle.settle_levels.specs.Clamps.{fault_of, pack_clamp_of, base_of}
use Rattle.settle_levels.specs.Comparators.{short_of, low_of, pack_over_of, latches_of}
use Rattle.settle_levels.specs.Voltage.{charge_voltage_of, below_recharge}
use Rattle.settle_permission.specs.Limits.{reached_of}
use Rattle.settle_permission.specs.Permission.{permitted_of}
use Rattle.settle_all.specs.Gather.{tests_of}
use Rattle.settle_all.specs.Settle.{Bander, forced_of, settled_of, settle_in, settle_of}
use Rattle.base.specs.Told.{Told, accepted, refused}
use Rattle.base.specs.Stamps.{elapsed_of}
use Rattle.log_raw.specs.Raw.{Raw, byte_of, has_spelling}
use Rattle.log_raw.specs.Struct.{raw_of}
use Rattle.state_parts.specs.Edges.{merged, pulse_of}
use Rattle.state_parts.specs.With.{with_settings, with_flags}
use Rattle.state_parts.specs.declared.flags.Edges.{Edges}
use Rattle.state_parts.specs.declared.latches.Latches.{Latches}
use Rattle.state_parts.specs.declared.state.Model.{Model}
use Rattle.state_parts.specs.declared.state.Model.TheVariants.{Off, On}
use Rattle.state_settings.specs.Ranges.{range_of, known_setting, may_hold}
use Rattle.state_settings.specs.Numbered.{store_of}
use Rattle.state_settings.specs.Kept.{settings_ok}
use Rattle.state_fields.specs.Held.{gathered, start_words, taken_by, restored_by, words_ok}
use Rattle.state_valid.specs.Holds.{profile_ok, registers_ok, cycle_ok, watchdog_ok, state_ok}
use Rattle.state_start.specs.Values.{start_vreg, start_ichg, start_vsysmin, start_settings}
use Rattle.state_registers.specs.Resets.{reset_registers, reset_of}
use Rattle.state_registers.specs.Writes.{known_address, recounted, written_registers, written_to, write_of}
use Rattle.state_runs.specs.Bytes.{value_in, stepwise}
use Rattle.state_runs.specs.Registers.{settings_taken, bad_by, bad_register, register_taken}
use Rattle.state_runs.specs.Runs.{outside, halves, illegal_frequency, bad_run, kept_run, written_run, write_run_of, resets, serves}
use Rattle.step_flags.specs.Edges.{seen_of, edges_of}
use Rattle.step_flags.specs.declared.between.Seen.{Seen}
use Rattle.step_flags.specs.Expiry.{expired_of, expires_of}
use Rattle.step_kinds.specs.Changes.{Changed, changed}
use Rattle.report_registers.specs.Reads.{value_by, flag_register, flag_byte}
use Rattle.step_kinds.specs.Answers.{Outcome, refused_with}
use Rattle.step_kinds.specs.Finish.{observing, kept_by, handed_by, pulses_by, finish_of}
use Rattle.step_kinds.specs.declared.change.Way.{Way}
use Rattle.step_kinds.specs.Plain.{opened_as, set_of, after_write, written_of, serviced_of, acted_of, after_run, run_from, read_flags_of}
use Rattle.step_kinds.specs.declared.change.Way.TheVariants.{Plain, Observes, Takes, Reads, Powers}
use Rattle.step_turns.specs.declared.later.Later.{Later}
use Rattle.step_turns.specs.declared.later.Later.TheVariants.{Set, Write, TakeFlags, Observe, Service, Reset, WriteRun, ReadFlags}
use Rattle.step_event.specs.Clock.{times_of, counted_of, observed_of}
use Rattle.step_event.specs.Steps.{seen_on, observe_of, followed_of, moved_of, first_of, change_of, closed_by, turned_by, step_of}
use Rattle.log_event.specs.declared.spelled.SpelledProfile.{SpelledProfile}
use Rattle.state_start.specs.Values.{start_state}
use Rattle.step_turns.specs.Ranges.{edition_in_range}
use Rattle.step_turns.specs.Turns.{held_profile, turn_of}
use Rattle.step_turns.specs.declared.turn.Turn.{Turn}
use Rattle.step_turns.specs.declared.turn.Turn.TheVariants.{Opens, Follows, OpensOutside, FollowsOutside}
use Rattle.laws_step.specs.Editions.{in_edition, JudgedAfresh, AlikeButEdition, EditionsActAlike, EditionsOpenAlike}

-- settling by the first edition's bands
fresh-settles : (n : ℕ) (s : State) (observed : Bool) → settle_in fresh_bands (in_edition n s) observed ≡ in_edition n (settle_in fresh_bands s observed)
unfolding settled_of forced_of tests_of latches_of short_of low_of pack_over_of fault_of pack_clamp_of base_of charge_voltage_of cut_of suspends_of below_recharge permitted_of reached_of fresh_bands band_of band_by marks_of
fresh-settles n s observed = refl

-- what is seen of a state, and a write's and a run's answers
seen_alike : (n : ℕ) (s : State) → seen_of (in_edition n s) ≡ seen_of s
unfolding seen_of expired_of reached_of
seen_alike n s = refl

abbrev told : ℕ → Told Changed → Told Changed
told n (accepted c) = changed (in_edition n c.state) c.way
told n (refused number) = refused number

by-test : (n : ℕ) (t : Bool) (a b : Told Changed) → told n (pick t a b) ≡ pick t (told n a) (told n b)
by-test n true a b = refl
by-test n false a b = refl

set-alike : (n : ℕ) (s : State) (number value : ℕ) → set_of (in_edition n s) number value ≡ told n (set_of s number value)
unfolding set_of may_hold range_of
set-alike n s number value = go (not (known_setting s.profile number)) (not (may_hold s.profile number value))
  where
    go : (a b : Bool)
        → pick a (refused 8) (pick b (refused 9) (changed (in_edition n (with_settings s (store_of s.settings number value))) Plain))
        ≡ told n (pick a (refused 8) (pick b (refused 9) (changed (with_settings s (store_of s.settings number value)) Plain)))
    go true b = refl
    go false true = refl
    go false false = refl

reset-alike : (n : ℕ) (s : State) → reset_of (in_edition n s) ≡ in_edition n (reset_of s)
unfolding reset_of start_settings start_vreg start_ichg start_vsysmin reset_registers restored_by gathered fields_of
reset-alike n s = refl

written-alike : (n : ℕ) (s : State) (address byte : ℕ) → written_to (in_edition n s) address byte ≡ in_edition n (written_to s address byte)
unfolding written_to recounted start_vsysmin written_registers taken_by fields_of
written-alike n s address byte = refl

observed-alike : (n : ℕ) (s : State) (x : Sample) → observed_of (in_edition n s) x ≡ in_edition n (observed_of s x)
unfolding observed_of times_of counted_of expires_of expired_of
observed-alike n s x = refl

run-alike : (n : ℕ) (s : State) (first : ℕ) (raw : Raw) → written_run (in_edition n s) first raw ≡ in_edition n (written_run s first raw)
unfolding written_run kept_run register_taken settings_taken recounted start_vsysmin taken_by fields_of written_registers
run-alike n s first raw = refl

-- a run's field that its setting can't hold
bad-field : (n : ℕ) (p : Profile) (a : Access) (code : ℕ) → bad_by (with_edition p n) a code ≡ bad_by p a code
unfolding may_hold range_of
bad-field n p Reserved code = refl
bad-field n p (Fixed value) code = refl
bad-field n p (Status number) code = refl
bad-field n p (Flag first count) code = refl
bad-field n p Stored code = refl
bad-field n p (Setting number step) code = refl
bad-field n p (Mask first count) code = refl
bad-field n p Counted code = refl
bad-field n p (Pin number) code = refl
bad-field n p (Acts number) code = refl

bad-register : (n : ℕ) (p : Profile) (address value : ℕ) → bad_register (with_edition p n) address value ≡ bad_register p address value
unfolding bad_register fields_of
bad-register n p address value =
    λ i. over (λ (f : Field). eqb f.address address) (λ (bad : Bool) (f : Field). bad || bad-field n p f.access (digit_of f value) i) (fields_of p) false

bad-alike : (n : ℕ) (p : Profile) (byte : ℕ → ℕ) (first count : ℕ) → bad_run byte first count (with_edition p n) ≡ bad_run byte first count p
unfolding bad_run
bad-alike n p byte first count = λ i. stepwise (λ (bad : Bool) (j : ℕ). bad || bad-register n p (first + j) (value_in byte j) i) count false

acted-alike : (n : ℕ) (s : State) (first : ℕ) (raw : Raw) → acted_of (in_edition n s) first raw ≡ in_edition n (acted_of s first raw)
unfolding acted_of
acted-alike n s first raw =
    (λ i. let reset = pick (resets first raw) (reset-alike n s i) (in_edition n s) in pick (serves first raw) (serviced_of reset) reset) ∙ go (resets first raw) (serves first raw)
  where
    go : (a b : Bool)
        → pick b (serviced_of (pick a (in_edition n (reset_of s)) (in_edition n s))) (pick a (in_edition n (reset_of s)) (in_edition n s))
        ≡ in_edition n (pick b (serviced_of (pick a (reset_of s) s)) (pick a (reset_of s) s))
    go true true = refl
    go true false = refl
    go false true = refl
    go false false = refl

-- ---- what follows a power-on
runs-alike : (n : ℕ) (s : State) (first : ℕ) (raw : Raw) → run_from (in_edition n s) first raw ≡ told n (run_from s first raw)
unfolding run_from write_run_of fields_of
runs-alike n s first raw =
    (λ i.
    after_run
    (pick (not (has_spelling raw)) (refused 5)
    (pick (outside first raw.count) (refused 10)
    (pick (halves s.profile first raw.count) (refused 15)
    (pick (illegal_frequency (byte_of raw) first raw.count s.profile) (refused 11)
    (pick (bad-alike n s.profile (byte_of raw) first raw.count i) (refused 9)
    (accepted (run-alike n s first raw i)))))))
    first raw)
    ∙ go (not (has_spelling raw)) (outside first raw.count) (halves s.profile first raw.count) (illegal_frequency (byte_of raw) first raw.count s.profile) (bad_run (byte_of raw) first raw.count s.profile)
  where
    go : (a b c d f : Bool)
        → after_run (pick a (refused 5) (pick b (refused 10) (pick c (refused 15) (pick d (refused 11) (pick f (refused 9) (accepted (in_edition n (written_run s first raw)))))))) first raw
        ≡ told n (after_run (pick a (refused 5) (pick b (refused 10) (pick c (refused 15) (pick d (refused 11) (pick f (refused 9) (accepted (written_run s first raw))))))) first raw)
    go true b c d f = refl
    go false true c d f = refl
    go false false true d f = refl
    go false false false true f = refl
    go false false false false true = refl
    go false false false false false = ap (λ (t : State). changed t Plain) (acted-alike n (written_run s first raw) first raw)

writes-alike : (n : ℕ) (s : State) (address byte : ℕ) → written_of (in_edition n s) address byte ≡ told n (written_of s address byte)
unfolding written_of write_of
writes-alike n s address byte =
    (λ i. after_write (pick (not (known_address address)) (refused 10) (pick (not (leb byte 255)) (refused 5) (pick (eqb address fsw.address && not (frequency_ok s.profile (digit_of fsw byte))) (refused 11) (accepted (written-alike n s address byte i))))))
    ∙ go (not (known_address address)) (not (leb byte 255)) (eqb address fsw.address && not (frequency_ok s.profile (digit_of fsw byte)))
  where
    go : (a b c : Bool)
        → after_write (pick a (refused 10) (pick b (refused 5) (pick c (refused 11) (accepted (in_edition n (written_to s address byte))))))
        ≡ told n (after_write (pick a (refused 10) (pick b (refused 5) (pick c (refused 11) (accepted (written_to s address byte))))))
    go true b c = refl
    go false true c = refl
    go false false true = refl
    go false false false = refl

follows-alike : (n : ℕ) (s : State) (e : Later) → followed_of (in_edition n s) e ≡ told n (followed_of s e)
unfolding followed_of observe_of read_flags_of
follows-alike n s (Set number value) = set-alike n s number value
follows-alike n s (Write address byte) = writes-alike n s address byte
follows-alike n s TakeFlags = refl
follows-alike n s (Observe x) =
    (λ i. pick (ltb 3600000 (elapsed_of s.sample.stamp x.stamp)) (refused 7) (changed (observed-alike n s x i) Observes))
    ∙ sym (by-test n (ltb 3600000 (elapsed_of s.sample.stamp x.stamp)) (refused 7) (changed (observed_of s x) Observes))
follows-alike n s Service = refl
follows-alike n s Reset = ap (λ (t : State). changed t Plain) (reset-alike n s)
follows-alike n s (WriteRun address raw) = runs-alike n s address (raw_of raw)
follows-alike n s (ReadFlags address) = sym (by-test n (not (flag_register s.profile address)) (refused 10) (changed s (Reads address)))

-- ---- what a model may hold
ok-alike : (s : State) → s.profile.edition ≡ 2 → state_ok (in_edition 1 s) ≡ state_ok s
unfolding state_ok profile_ok settings_ok may_hold range_of registers_ok words_ok gathered fields_of cycle_ok watchdog_ok
ok-alike s two = rw two

-- ---- what an event ends with
module _ (w : State) (observed : Bool) where
  abbrev start : State
  start = forced_of w

  abbrev levels : Latches
  levels = latches_of start.profile start.settings start.registers start.sample start.latches

  abbrev settled_by : Bands → State
  settled_by b = settled_of start levels b (tests_of start levels (pack_band b) observed)

  by-bands : (one other : Bander) → one w.profile w.registers w.sample w.bands ≡ other w.profile w.registers w.sample w.bands → settle_in one w observed ≡ settle_in other w observed
  unfolding forced_of
  by-bands one other same = ap settled_by same

settle-alike : (w : State) (observed : Bool) → bands_of w.profile w.registers w.sample w.bands ≡ fresh_bands w.profile w.registers w.sample w.bands
    → settle_of (in_edition 1 w) observed ≡ in_edition 1 (settle_of w observed)
unfolding settle_of
settle-alike w observed afresh =
    let p = with_edition w.profile 1 in
    by-bands (in_edition 1 w) observed bands_of fresh_bands (by-edition.first p w.registers w.sample w.bands (λ one. omega (arith, one)))
    ∙ fresh-settles 1 w observed
    ∙ sym (ap (in_edition 1) (by-bands w observed bands_of fresh_bands afresh))

handed-alike : (p : Profile) (n : ℕ) (way : Way) (all : ℕ) → handed_by (with_edition p n) way all ≡ handed_by p way all
unfolding flag_byte value_by fields_of
handed-alike p n Plain all = refl
handed-alike p n Observes all = refl
handed-alike p n Takes all = refl
handed-alike p n (Reads address) all = refl
handed-alike p n Powers all = refl

module _ (before : Seen) (w : State) (way : Way) where
  abbrev edges : State → Edges
  edges after = edges_of before (seen_of after)

  abbrev ended : State → Outcome
  ended after =
      let all = merged w.flags (edges after) in
      record { number = 0; place = 0; model = On (with_flags after (kept_by way all)); pulse = pulses_by way (pulse_of (edges after) after.settings.masks); handed = handed_by after.profile way all }

  abbrev one : Outcome
  one = finish_of before w way

  finished : JudgedAfresh (finish_of before w way).model → AlikeButEdition (finish_of before (in_edition 1 w) way) (finish_of before w way)
  unfolding finish_of settle_of settled_of forced_of fresh_bands
  finished afresh =
      let after = settle_of w (observing way) in
      let same : finish_of before (in_edition 1 w) way ≡ ended (in_edition 1 after) = ap ended (settle-alike w (observing way) afresh) in
      record {
        number = refl;
        place = refl;
        pulse = ap (λ (o : Outcome). o.pulse) same ∙ ap (λ (seen : Seen). pulses_by way (pulse_of (edges_of before seen) after.settings.masks)) (seen_alike 1 after);
        handed = ap (λ (o : Outcome). o.handed) same ∙ (λ i. handed_by (with_edition after.profile 1) way (merged w.flags (edges_of before (seen_alike 1 after i)))) ∙ handed-alike after.profile 1 way (merged w.flags (edges after));
        model = inl (ap (λ (o : Outcome). o.model) same ∙ ap (λ (seen : Seen). On (with_flags (in_edition 1 after) (kept_by way (merged w.flags (edges_of before seen))))) (seen_alike 1 after));
      }

module _ (s : State) where
  closed-alike : (c : Told Changed) → JudgedAfresh (closed_by (On s) c).model → AlikeButEdition (closed_by (On (in_edition 1 s)) (told 1 c)) (closed_by (On s) c)
  unfolding seen_on
  closed-alike (accepted c) afresh =
      subst (λ (seen : Seen). AlikeButEdition (finish_of seen (in_edition 1 c.state) c.way) (finish_of (seen_of s) c.state c.way)) (sym (seen_alike 1 s))
      (finished (seen_of s) c.state c.way afresh)
  closed-alike (refused number) afresh = record { number = refl; place = refl; pulse = refl; handed = refl; model = inl refl }

  -- a power-on begins anew, whatever was held
  opened-alike : (p : Profile) → closed_by (On (in_edition 1 s)) (opened_as p) ≡ closed_by (On s) (opened_as p)
  unfolding seen_on
  opened-alike p = ap (λ (seen : Seen). finish_of seen (start_state p) Powers) (seen_alike 1 s)

  same_outcome : (a b : Outcome) → a ≡ b → AlikeButEdition a b
  same_outcome a b e = record {
    number = ap (λ (o : Outcome). o.number) e;
    place = ap (λ (o : Outcome). o.place) e;
    pulse = ap (λ (o : Outcome). o.pulse) e;
    handed = ap (λ (o : Outcome). o.handed) e;
    model = inr (ap (λ (o : Outcome). o.model) e);
  }

  moved-alike : (t : Turn) → JudgedAfresh (closed_by (On s) (moved_of s t)).model → AlikeButEdition (closed_by (On (in_edition 1 s)) (moved_of (in_edition 1 s) t)) (closed_by (On s) (moved_of s t))
  unfolding moved_of
  moved-alike (Opens p) afresh = same_outcome _ _ (opened-alike p)
  moved-alike (Follows e) afresh =
      subst (λ (c : Told Changed). AlikeButEdition (closed_by (On (in_edition 1 s)) c) (closed_by (On s) (followed_of s e))) (sym (follows-alike 1 s e)) (closed-alike (followed_of s e) afresh)
  moved-alike OpensOutside afresh = closed-alike (refused 5) afresh
  moved-alike FollowsOutside afresh = closed-alike (refused 5) afresh

  turned-alike : (ok : Bool) (t : Turn) → JudgedAfresh (closed_by (On s) (pick ok (moved_of s t) (refused 5))).model
      → AlikeButEdition (closed_by (On (in_edition 1 s)) (pick ok (moved_of (in_edition 1 s) t) (refused 5))) (closed_by (On s) (pick ok (moved_of s t) (refused 5)))
  turned-alike true t afresh = moved-alike t afresh
  turned-alike false t afresh = closed-alike (refused 5) afresh

pub editions-act-alike : EditionsActAlike step_of
unfolding step_of turned_by change_of
editions-act-alike s e two afresh =
    let t = turn_of e in
    subst (λ (ok : Bool). AlikeButEdition (closed_by (On (in_edition 1 s)) (pick ok (moved_of (in_edition 1 s) t) (refused 5))) (closed_by (On s) (pick (state_ok s) (moved_of s t) (refused 5)))) (sym (ok-alike s two))
    (turned-alike s (state_ok s) t afresh)

-- ---- a power-on of each
start-alike : (p : SpelledProfile) → start_state (held_profile p 1) ≡ in_edition 1 (start_state (held_profile p 2))
unfolding start_state start_settings start_vreg start_ichg start_vsysmin start_words gathered fields_of
start-alike p = refl

refused-alike : (m : Model) (number : ℕ) → AlikeButEdition (refused_with number m) (refused_with number m)
refused-alike m number = record { number = refl; place = refl; pulse = refl; handed = refl; model = inr refl }

module _ (m : Model) (p : SpelledProfile) where
  powers-alike : JudgedAfresh (closed_by m (opened_as (held_profile p 2))).model → AlikeButEdition (closed_by m (opened_as (held_profile p 1))) (closed_by m (opened_as (held_profile p 2)))
  powers-alike afresh =
      subst (λ (w : State). AlikeButEdition (finish_of (seen_on m) w Powers) (finish_of (seen_on m) (start_state (held_profile p 2)) Powers)) (sym (start-alike p))
      (finished (seen_on m) (start_state (held_profile p 2)) Powers afresh)

  -- a model that doesn't pass refuses both
  checked-alike : (ok : Bool) → JudgedAfresh (closed_by m (pick ok (opened_as (held_profile p 2)) (refused 5))).model
      → AlikeButEdition (closed_by m (pick ok (opened_as (held_profile p 1)) (refused 5))) (closed_by m (pick ok (opened_as (held_profile p 2)) (refused 5)))
  checked-alike true afresh = powers-alike afresh
  checked-alike false afresh = refused-alike m 5

opens-alike : (m : Model) (p : SpelledProfile) → JudgedAfresh (turned_by m (Opens (held_profile p 2))).model → AlikeButEdition (turned_by m (Opens (held_profile p 1))) (turned_by m (Opens (held_profile p 2)))
unfolding turned_by change_of first_of moved_of
opens-alike Off p afresh = powers-alike Off p afresh
opens-alike (On s) p afresh = checked-alike (On s) p (state_ok s) afresh

-- both are in their ranges, or neither is
range-alike : (p : SpelledProfile) → edition_in_range p 1 ≡ edition_in_range p 2
unfolding edition_in_range
range-alike p = refl

ranged-alike : (m : Model) (p : SpelledProfile) (t : Bool) → JudgedAfresh (turned_by m (pick t (Opens (held_profile p 2)) OpensOutside)).model
    → AlikeButEdition (turned_by m (pick t (Opens (held_profile p 1)) OpensOutside)) (turned_by m (pick t (Opens (held_profile p 2)) OpensOutside))
ranged-alike m p true afresh = opens-alike m p afresh
ranged-alike m p false afresh = record { number = refl; place = refl; pulse = refl; handed = refl; model = inr refl }

pub editions-open-alike : EditionsOpenAlike step_of
unfolding step_of turn_of
editions-open-alike m p afresh =
    subst (λ (t : Bool). AlikeButEdition (turned_by m (pick t (Opens (held_profile p 1)) OpensOutside)) (turned_by m (pick (edition_in_range p 2) (Opens (held_profile p 2)) OpensOutside))) (sym (range-alike p))
    (ranged-alike m p (edition_in_range p 2) afresh)
