-- Runs that differ in read-only and reserved bits alone have one outcome.
use Prim.Native.Nat.{ℕ, zero, suc, ◌+◌, ◌-◌, ◌<◌}
use mathlib.Core.Path.{◌≡◌, refl, sym, ap, subst, ◌∙◌}
use mathlib.Core.Bool.{Bool, true, false, not, ◌&&◌, ◌||◌}
use native.Mathlib.Omega.{arith}
use lib.Dec.{eqb}
use borrow.Author.Tests.{le-leb, lt-ltb}
use Rattle.base.specs.Pick.{pick}
use Rattle.base.specs.Told.{Told, accepted, refused}
use Rattle.log_raw.specs.Raw.{Raw, byte_of}
use Rattle.state_fields.proofs.Gathers.{nth}
use Rattle.state_parts.specs.declared.profile.Profile.{Profile}
use Rattle.state_parts.specs.declared.state.State.{State}
use Rattle.state_runs.specs.Bytes.{value_in, stepwise, is_written, written_code}
use Rattle.state_runs.specs.Runs.{outside, halves, illegal_frequency, bad_run, kept_run, kept_of, with_kept, written_run, write_run_of, acts, resets, serves}
use Rattle.state_table.specs.Rows.{Field, fields, digit_of, fsw, reg_rst, wd_rst, frequency_ok}
use Rattle.state_registers.specs.Resets.{reset_of}
use Rattle.step_kinds.specs.Changes.{changed}
use Rattle.step_kinds.specs.declared.change.Way.TheVariants.{Plain}
use Rattle.step_kinds.specs.Plain.{serviced_of, acted_of, after_run, run_from}
use Rattle.laws_registers.specs.Alike.{is_writable, Alike, OnlyWrittenCount}
use Rattle.laws_registers.proofs.Places.{by_number}
use Rattle.laws_registers.proofs.Values.{judged-alike, taken-alike}

-- steps that do the same at each number
pub up-alike : {A : Type 0} (step other : A → ℕ → A) (k : ℕ) (u : A) → ((i : ℕ) → i < k → (v : A) → step v i ≡ other v i) → stepwise step k u ≡ stepwise other k u
up-alike step other zero u same = refl
up-alike step other (suc k) u same = same k (omega arith) (stepwise step k u) ∙ ap (λ (v : _). other v k) (up-alike step other k u (λ i h. same i (omega arith)))

-- a field that is written where a run says so
written-there : (first count : ℕ) (f : Field) (i : ℕ) → i < count → f.address ≡ first + i → is_written first count f ≡ true
written-there first count f i h e = rw (le-leb first f.address (omega arith), lt-ltb f.address (first + count) (omega arith)) refl

module _ (s : State) (first : ℕ) (one other : Raw) (same : Alike first one other) where
  abbrev p : Profile
  p = s.profile

  abbrev n : ℕ
  n = one.count

  codes : (j : ℕ) → j < 147 → is_writable (nth j).access ≡ true → is_written first n (nth j) ≡ true → written_code (byte_of one) first (nth j) ≡ written_code (byte_of other) first (nth j)
  codes j h =
      subst (λ (f : Field). is_writable f.access ≡ true → is_written first n f ≡ true → written_code (byte_of one) first f ≡ written_code (byte_of other) first f) (by_number j h) (same.codes j)

  digits : (i : ℕ) → i < n → (j : ℕ) → j < 147 → (nth j).address ≡ first + i → is_writable (nth j).access ≡ true
      → digit_of (nth j) (value_in (byte_of one) i) ≡ digit_of (nth j) (value_in (byte_of other) i)
  digits i h j l there written =
      let k : (nth j).address - first ≡ i = omega arith in
      subst (λ (x : ℕ). digit_of (nth j) (value_in (byte_of one) x) ≡ digit_of (nth j) (value_in (byte_of other) x)) k
      (codes j l written (written-there first n (nth j) i h there))

  judged : bad_run (byte_of one) first n p ≡ bad_run (byte_of other) first n p
  unfolding bad_run
  judged = up-alike _ _ n false (λ i h bad. ap (λ (b : Bool). bad || b) (judged-alike p (first + i) (value_in (byte_of one) i) (value_in (byte_of other) i) (digits i h)))

  taken : kept_run (byte_of one) first n p s.registers (kept_of s) ≡ kept_run (byte_of other) first n p s.registers (kept_of s)
  unfolding kept_run
  taken = up-alike _ _ n (kept_of s) (λ i h k. taken-alike p (first + i) (value_in (byte_of one) i) (value_in (byte_of other) i) (digits i h) s.registers k)

  -- where a field is written, its code counts
  at_row : (j : ℕ) (f : Field) → j < 147 → nth j ≡ f → is_writable f.access ≡ true → (test : ℕ → Bool)
      → (is_written first n f && test (written_code (byte_of one) first f)) ≡ (is_written first n f && test (written_code (byte_of other) first f))
  at_row j f h row written test = go (is_written first n f) refl
    where
      go : (t : Bool) → is_written first n f ≡ t → (t && test (written_code (byte_of one) first f)) ≡ (t && test (written_code (byte_of other) first f))
      go true e = ap test (subst (λ (g : Field). is_writable g.access ≡ true → is_written first n g ≡ true → written_code (byte_of one) first g ≡ written_code (byte_of other) first g) row (codes j h) written e)
      go false e = refl

  frequency : illegal_frequency (byte_of one) first n p ≡ illegal_frequency (byte_of other) first n p
  unfolding fields
  frequency = at_row 62 fsw (omega arith) refl refl (λ c. not (frequency_ok p c))

  resets-alike : resets first one ≡ resets first other
  unfolding resets fields
  resets-alike = at_row 30 reg_rst (omega arith) refl refl (λ c. eqb c 1) ∙ ap (λ (k : ℕ). acts (byte_of other) first k reg_rst) same.long

  serves-alike : serves first one ≡ serves first other
  unfolding serves fields
  serves-alike = at_row 38 wd_rst (omega arith) refl refl (λ c. eqb c 1) ∙ ap (λ (k : ℕ). acts (byte_of other) first k wd_rst) same.long

  written-alike : written_run s first one ≡ written_run s first other
  unfolding written_run
  written-alike = ap (with_kept s) taken ∙ ap (λ (k : ℕ). with_kept s (kept_run (byte_of other) first k p s.registers (kept_of s))) same.long

  -- the tests of a run in their order
  abbrev tested : Bool → Bool → Bool → Bool → Bool → State → Told State
  tested spelled beyond cut bad worse after =
      pick (not spelled) (refused 5) (pick beyond (refused 10) (pick cut (refused 15) (pick bad (refused 11) (pick worse (refused 9) (accepted after)))))

  told : write_run_of s first one ≡ write_run_of s first other
  unfolding write_run_of
  told =
      let beyond = ap (outside first) same.long in
      let cut = ap (halves p first) same.long in
      let bad = frequency ∙ ap (λ (k : ℕ). illegal_frequency (byte_of other) first k p) same.long in
      let worse = judged ∙ ap (λ (k : ℕ). bad_run (byte_of other) first k p) same.long in
      let spelled = same.one-spelled ∙ sym same.other-spelled in
      λ i. tested (spelled i) (beyond i) (cut i) (bad i) (worse i) (written-alike i)

  acted : (t : State) → acted_of t first one ≡ acted_of t first other
  unfolding acted_of
  acted t = λ i. let reset = pick (resets-alike i) (reset_of t) t in pick (serves-alike i) (serviced_of reset) reset

  ends-alike : (t : Told State) → after_run t first one ≡ after_run t first other
  ends-alike (accepted t) = ap (λ (u : State). changed u Plain) (acted t)
  ends-alike (refused number) = refl

  run-alike : run_from s first one ≡ run_from s first other
  unfolding run_from
  run-alike = ap (λ (t : Told State). after_run t first one) told ∙ ends-alike (write_run_of s first other)

pub only-written-count : OnlyWrittenCount
only-written-count s first one other same = run-alike s first one other same
