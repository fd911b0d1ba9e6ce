-- Writing a field's bytes and sending the matching set leave the same: once, over the table.
use Prim.Native.Nat.{ℕ, ◌-◌, ◌*◌, ◌/◌, ◌%◌, ◌^◌, ◌≤◌, ◌<◌}
use mathlib.Core.Path.{◌≡◌, refl, sym, ap, subst, ◌∙◌}
use mathlib.Core.Bool.{Bool, true, false, not, ◌&&◌, ◌||◌, false≢true}
use mathlib.Core.Logic.{⊎_elim}
use native.Mathlib.Nat.{mod-eq_of_lt}
use native.Mathlib.Omega.{arith}
use lib.Dec.{eqb}
use borrow.Author.Tests.{le-leb, eqb-true, eq-eqb, ne_eqb, not-true}
use Rattle.base.specs.Pick.{pick}
use Rattle.base.specs.Told.{Told, accepted, refused}
use Rattle.log_raw.specs.Raw.{Raw, byte_of}
use Rattle.log_raw.specs.Struct.{raw_of}
use Rattle.log_raw.specs.declared.RawBytes.{RawBytes}
use Rattle.report_registers.specs.Reads.{code_by, code_of}
use Rattle.state_fields.specs.Held.{taken_by}
use Rattle.state_fields.proofs.Fields.{field-mod}
use Rattle.state_fields.proofs.Gathers.{nth, stored}
use Rattle.state_parts.specs.With.{with_settings}
use Rattle.state_parts.specs.declared.profile.Profile.{Profile}
use Rattle.state_parts.specs.declared.settings.Settings.{Settings}
use Rattle.state_parts.specs.declared.state.State.{State}
use Rattle.state_parts.specs.declared.state.Model.TheVariants.{On}
use Rattle.state_registers.proofs.Said.{every-value-said}
use Rattle.state_runs.specs.Bytes.{value_in, is_written, written_code}
use Rattle.state_runs.specs.Registers.{setting_by, settings_taken, bad_by, bad_register, register_taken}
use Rattle.state_runs.specs.Runs.{outside, halves, illegal_frequency, bad_run, kept_run, kept_of, with_kept, written_run, write_run_of, resets, serves}
use Rattle.state_settings.specs.Kept.{settings_ok}
use Rattle.state_settings.specs.Numbered.{held_of, store_of}
use Rattle.state_settings.specs.Ranges.{last_setting, may_hold}
use Rattle.state_settings.proofs.Stores.{each-may}
use Rattle.state_table.specs.Rows.{Field, fields, fields_of, bit_of, digit_of, is_stored, reg_rst, wd_rst}
use Rattle.state_table.specs.Packed.{field_at, kind_of}
use Rattle.state_table.proofs.Tested.{long}
use Rattle.state_table.specs.declared.Access.{Access}
use Rattle.state_table.specs.declared.Access.TheVariants.{Reserved, Fixed, Status, Flag, Stored, Setting, Mask, Counted, Pin, Acts}
use Rattle.state_valid.specs.Holds.{state_ok}
use Rattle.state_valid.proofs.Wholes.{apart}
use Rattle.step_kinds.specs.Changes.{changed}
use Rattle.step_kinds.specs.declared.change.Way.TheVariants.{Plain}
use Rattle.step_kinds.specs.Plain.{set_of, acted_of, after_run, run_from}
use Rattle.step_turns.specs.declared.later.Later.TheVariants.{Set, WriteRun}
use Rattle.step_turns.specs.declared.turn.Turn.TheVariants.{Follows}
use Rattle.step_event.specs.Steps.{closed_by, followed_of, moved_of, change_of, turned_by}
use Rattle.laws_registers.specs.Fields.{register_size, recoded, FieldBytes, WritesAsSet, TurnsAsSet}
use Rattle.laws_registers.proofs.Folds.{over-one}
use Rattle.laws_registers.proofs.Mates.{mate, Alone, alone_at}
use Rattle.laws_registers.proofs.OneRegister.{one-taken, one-judged}
use Rattle.laws_registers.proofs.Places.{in_table, by_number, bits-apart, housed-at}
use Rattle.laws_registers.proofs.Words.{stored-code, words-held}
use Rattle.laws_registers.proofs.Stores.{store-held, store-held-after}

-- REG_RST is the table's field 30
reset-row : nth 30 ≡ reg_rst
unfolding fields
reset-row = refl

never : (b : Bool) → (b && false) ≡ false
never true = refl
never false = refl

module _ (s : State) (ok : state_ok s ≡ true) (i n step code : ℕ) (h : i < 147) (here : (nth i).access ≡ Setting n step) (small : code < 2 ^ (nth i).width) (raw : Raw) (given : FieldBytes s (nth i) code raw) where
  abbrev p : Profile
  p = s.profile

  abbrev f : Field
  f = nth i

  abbrev a : ℕ
  a = f.address

  abbrev value : ℕ
  value = value_in (byte_of raw) 0

  abbrev v : ℕ
  v = code * step

  abbrev t : Settings
  t = s.settings

  single : Alone p n i
  single = alone_at p i n step h here

  -- the field's own code, and that of another field of its register
  own_code : digit_of f value ≡ code
  own_code =
      subst (λ (g : Field). g.address ≡ a → digit_of g value ≡ recoded s f code g % 2 ^ g.width) (by_number i h) (given.each i) refl
      ∙ ap (λ (b : Bool). pick b code (code_of s f) % 2 ^ f.width) (eq-eqb (bit_of f) (bit_of f) refl) ∙ mod-eq_of_lt small

  other-code : (j : ℕ) → j < 147 → (j ≡ i → ⊥) → (nth j).address ≡ a → digit_of (nth j) value ≡ code_of s (nth j) % 2 ^ (nth j).width
  other-code j l other there =
      subst (λ (g : Field). g.address ≡ a → digit_of g value ≡ recoded s f code g % 2 ^ g.width) (by_number j l) (given.each j) there
      ∙ ap (λ (b : Bool). pick b code (code_of s (nth j)) % 2 ^ (nth j).width) (ne_eqb (bit_of (nth j)) (bit_of f) (bits-apart i j h l other))

  -- a setting's code as it reads stands for what it holds
  may-hold : (m : ℕ) → 1 ≤ m → m ≤ last_setting → may_hold p m (held_of t m) ≡ true
  unfolding settings_ok
  may-hold m some most = each-may p t last_setting m (apart s ok).settings some most

  said : (j m k : ℕ) → j < 147 → (nth j).access ≡ Setting m k → held_of t m / k % 2 ^ (nth j).width * k ≡ held_of t m
  said j m k l e =
      let its = alone_at p j m k l e in
      let both = every-value-said p j m k (held_of t m) (ap (λ (g : Field). g.access) (by_number j l) ∙ e) (may-hold m its.some its.known) in
      let fits : held_of t m / k < 2 ^ (nth j).width = subst (λ (g : Field). held_of t m / k < 2 ^ g.width) (by_number j l) both.1 in
      ap (λ (x : ℕ). x * k) (mod-eq_of_lt fits) ∙ both.0

  -- the settings: each other field gives what is held
  abbrev sets : Settings → Field → Settings
  sets u g = setting_by g.access (digit_of g value) u

  module _ (j : ℕ) (l : j < 147) (other : j ≡ i → ⊥) (there : (nth j).address ≡ a) where
    digit : digit_of (nth j) value ≡ code_of s (nth j) % 2 ^ (nth j).width
    digit = other-code j l other there

    may-stand : mate n (nth j).access ≡ true
    may-stand = single.mates j l there (bits-apart i j h l other)

    gives-held : (m k : ℕ) → (nth j).access ≡ Setting m k → digit_of (nth j) value * k ≡ held_of t m
    unfolding code_of
    gives-held m k e = ap (λ (x : ℕ). x * k) digit ∙ ap (λ (x : Access). code_by x s (nth j) % 2 ^ (nth j).width * k) e ∙ said j m k l e

    stands : (u : Settings) → ((m : ℕ) → (m ≡ n → ⊥) → store_of u m (held_of t m) ≡ u) → (x : Access) → (nth j).access ≡ x → mate n x ≡ true → setting_by x (digit_of (nth j) value) u ≡ u
    stands u keeps Reserved e fits = refl
    stands u keeps (Fixed x) e fits = refl
    stands u keeps (Status x) e fits = refl
    stands u keeps (Flag x y) e fits = refl
    stands u keeps Stored e fits = refl
    stands u keeps (Setting m k) e fits =
        ap (store_of u m) (gives-held m k e) ∙ keeps m (λ same. false≢true (sym (not-true (eqb m n) fits) ∙ eq-eqb m n same))
    stands u keeps (Mask x y) e fits = absurd (false≢true fits)
    stands u keeps Counted e fits = refl
    stands u keeps (Pin x) e fits = refl
    stands u keeps (Acts x) e fits = refl

    fine : (x : Access) → (nth j).access ≡ x → bad_by p x (digit_of (nth j) value) ≡ false
    fine Reserved e = refl
    fine (Fixed x) e = refl
    fine (Status x) e = refl
    fine (Flag x y) e = refl
    fine Stored e = refl
    fine (Setting m k) e =
        let its = alone_at p j m k l e in
        ap (λ (x : ℕ). not (may_hold p m x)) (gives-held m k e) ∙ ap not (may-hold m its.some its.known)
    fine (Mask x y) e = refl
    fine Counted e = refl
    fine (Pin x) e = refl
    fine (Acts x) e = refl

  -- a field that isn't the register's, or changes nothing
  passed : {A : Type 0} (g : Field) (old new : A) → (g.address ≡ a → new ≡ old) → pick (eqb g.address a) new old ≡ old
  passed g old new e = go (eqb g.address a) refl
    where
      go : (b : Bool) → eqb g.address a ≡ b → pick b new old ≡ old
      go true q = e (eqb-true g.address a q)
      go false q = refl

  set-alone : settings_taken p a value t ≡ store_of t n v
  unfolding settings_taken fields_of
  set-alone =
      over-one (λ (g : Field). eqb g.address a) sets fields i t (store_of t n v) (in_table i h)
      (ap (λ (b : Bool). pick b (sets t f) t) (eq-eqb a a refl) ∙ ap (λ (x : Access). setting_by x (digit_of f value) t) here ∙ ap (λ (x : ℕ). store_of t n (x * step)) own_code)
      (λ j l other.
      let k : j < 147 = subst (λ (x : ℕ). j < x) long l in (
        passed (nth j) t (sets t (nth j)) (λ there. stands j k other there t (λ m _. store-held t m) (nth j).access refl (may-stand j k other there)),
        passed (nth j) (store_of t n v) (sets (store_of t n v) (nth j))
            (λ there. stands j k other there (store_of t n v) (λ m differs. store-held-after t n v m differs) (nth j).access refl (may-stand j k other there)),
      ))

  -- 9: for the field's own value alone
  abbrev worse : Bool → Field → Bool
  worse bad g = bad || bad_by p g.access (digit_of g value)

  either : (b c : Bool) → c ≡ false → (b || c) ≡ b
  either true c e = refl
  either false c e = e

  judged-alone : bad_register p a value ≡ not (may_hold p n v)
  unfolding bad_register fields_of
  judged-alone =
      over-one (λ (g : Field). eqb g.address a) worse fields i false (not (may_hold p n v)) (in_table i h)
      (ap (λ (b : Bool). pick b (worse false f) false) (eq-eqb a a refl) ∙ ap (λ (x : Access). bad_by p x (digit_of f value)) here ∙ ap (λ (x : ℕ). not (may_hold p n (x * step))) own_code)
      (λ j l other.
      let k : j < 147 = subst (λ (x : ℕ). j < x) long l in (
        passed (nth j) false (worse false (nth j)) (λ there. fine j k other there (nth j).access refl),
        passed (nth j) (not (may_hold p n v)) (worse (not (may_hold p n v)) (nth j)) (λ there. either (not (may_hold p n v)) _ (fine j k other there (nth j).access refl)),
      ))

  not_own : (j : ℕ) → stored (nth j) ≡ true → j ≡ i → ⊥
  not_own j st same = false≢true (sym (ap (λ (x : Access). is_stored x) here) ∙ ap (λ (k : ℕ). stored (nth k)) (sym same) ∙ st)

  -- the stored fields are given what they hold
  words-stand : taken_by p a value s.registers.words ≡ s.registers.words
  words-stand =
      words-held s ok a value
      (λ j l st there.
      other-code j l (not_own j st) there ∙ ap (λ (x : ℕ). x % 2 ^ (nth j).width) (stored-code s (nth j) st) ∙ field-mod (nth j) s.registers)

  -- the run, refusal by refusal
  inside : outside a raw.count ≡ false
  inside = ap (outside a) given.whole ∙ (housed-at p i h).inside

  whole : halves p a raw.count ≡ false
  whole = ap (halves p a) given.whole ∙ (housed-at p i h).whole

  legal : illegal_frequency (byte_of raw) a raw.count p ≡ false
  legal = ap (λ (k : ℕ). illegal_frequency (byte_of raw) a k p) given.whole ∙ rw single.no-frequency refl

  held : bad_run (byte_of raw) a raw.count p ≡ not (may_hold p n v)
  held = ap (λ (k : ℕ). bad_run (byte_of raw) a k p) given.whole ∙ one-judged p a (byte_of raw) ∙ judged-alone

  written : written_run s a raw ≡ with_settings s (store_of t n v)
  unfolding written_run register_taken
  written =
      ap (λ (k : ℕ). with_kept s (kept_run (byte_of raw) a k p s.registers (kept_of s))) given.whole
      ∙ ap (with_kept s) (one-taken p a (byte_of raw) s.registers (kept_of s))
      ∙ rw (single.no-count, set-alone, words-stand) refl

  -- REG_RST reads 0, and WD_RST is elsewhere: neither acts
  no-reset-code : a ≡ reg_rst.address → written_code (byte_of raw) a reg_rst ≡ 0
  unfolding code_of
  no-reset-code e =
      let other : 30 ≡ i → ⊥ = λ same. let k : ◌≡◌ {A = ℕ} 9 5 = ap kind_of (ap (λ (g : Field). g.access) (sym reset-row) ∙ ap (λ (x : ℕ). (nth x).access) same ∙ here) in omega arith in
      let first : reg_rst.address - a ≡ 0 = omega arith in
      ap (λ (x : ℕ). digit_of reg_rst (value_in (byte_of raw) x)) first
      ∙ subst (λ (g : Field). g.address ≡ a → digit_of g value ≡ code_of s g % 2 ^ g.width) reset-row (other-code 30 (omega arith) other) (sym e)

  acts-not : (resets a raw ≡ false) × (serves a raw ≡ false)
  unfolding resets serves
  acts-not = (
    ap (λ (k : ℕ). is_written a k reg_rst && eqb (written_code (byte_of raw) a reg_rst) 1) given.whole
        ∙ ⊎_elim (λ none. ap (λ (b : Bool). b && eqb (written_code (byte_of raw) a reg_rst) 1) none)
        (λ same. ap (λ (x : ℕ). is_written a (register_size p a) reg_rst && eqb x 1) (no-reset-code same) ∙ never (is_written a (register_size p a) reg_rst)) single.reset,
    ap (λ (k : ℕ). is_written a k wd_rst && eqb (written_code (byte_of raw) a wd_rst) 1) given.whole ∙ rw single.no-service refl,
  )

  told : write_run_of s a raw ≡ pick (not (may_hold p n v)) (refused 9) (accepted (with_settings s (store_of t n v)))
  unfolding write_run_of
  told = simp (given.spelled, inside, whole, legal, held, written)

  as-set : run_from s a raw ≡ set_of s n v
  unfolding run_from set_of acted_of
  as-set =
      ap (λ (x : Told State). after_run x a raw) told ∙ go (may_hold p n v)
      ∙ sym (rw (le-leb 1 n single.some, le-leb n last_setting single.known) refl)
    where
      after : State
      after = with_settings s (store_of t n v)

      go : (b : Bool) → after_run (pick (not b) (refused 9) (accepted after)) a raw ≡ pick (not b) (refused 9) (changed after Plain)
      go true = simp (acts-not.0, acts-not.1)
      go false = refl

pub writes-as-set : WritesAsSet
unfolding field_at
writes-as-set s i n step code raw ok here small given = as-set s ok (i % 147) n step code (omega arith) here small raw given

-- a run that writes what a set writes has the set's outcome; on a state that doesn't pass both are 5
pub turns_as : (s : State) (address : ℕ) (raw : RawBytes) (n value : ℕ) → (state_ok s ≡ true → run_from s address (raw_of raw) ≡ set_of s n value)
    → turned_by (On s) (Follows (WriteRun address raw)) ≡ turned_by (On s) (Follows (Set n value))
unfolding turned_by change_of moved_of followed_of
turns_as s address raw n value same = ap (closed_by (On s)) (go (state_ok s) refl)
  where
    go : (b : Bool) → state_ok s ≡ b → pick b (run_from s address (raw_of raw)) (refused 5) ≡ pick b (set_of s n value) (refused 5)
    go true ok = same ok
    go false ok = refl

pub turns-as-set : TurnsAsSet
turns-as-set s i n step code raw here small given = turns_as s (field_at i).address raw n (code * step) (λ ok. writes-as-set s i n step code (raw_of raw) ok here small given)
