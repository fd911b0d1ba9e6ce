-- What one register leaves in one setting: the value of its own field, if the field is the register's, and else what was held.
use Prim.Native.Nat.{ℕ, zero, suc, ◌*◌, ◌≤◌, ◌<◌}
use mathlib.Core.Path.{◌≡◌, refl, sym, ap, subst, ◌∙◌}
use mathlib.Core.Bool.{Bool, true, false, not, ◌||◌, false≢true}
use mathlib.Core.List.{List, [], ◌∷◌}
use mathlib.Core.Logic.{◌⊎◌, ⊎_elim}
use native.Mathlib.Nat.{not-suc-le-zero}
use native.Mathlib.Omega.{arith}
use lib.Dec.{eqb}
use lib.ListN.{length, get_or}
use borrow.Author.Tests.{eqb-true, eq-eqb, ne_eqb, not-true, not-false}
use Rattle.base.specs.Pick.{pick}
use Rattle.base.proofs.Span.{span}
use Rattle.base.proofs.Tests.{neither}
use Rattle.state_fields.proofs.Gathers.{nth}
use Rattle.state_parts.specs.declared.profile.Profile.{Profile}
use Rattle.state_parts.specs.declared.settings.Settings.{Settings}
use Rattle.state_registers.specs.Writes.{recounted}
use Rattle.state_runs.specs.Registers.{setting_by, settings_taken, bad_by, bad_register}
use Rattle.state_settings.specs.Numbered.{setting_numbers, held_of, store_of}
use Rattle.state_settings.specs.Ranges.{last_setting, may_hold}
use Rattle.state_settings.proofs.Stores.{held_after}
use Rattle.state_table.specs.Rows.{Field, fields, fields_of, over, bit_of, digit_of}
use Rattle.state_table.specs.Packed.{no_field}
use Rattle.state_table.specs.declared.Access.{Access}
use Rattle.state_table.specs.declared.Access.TheVariants.{Reserved, Fixed, Status, Flag, Stored, Setting, Mask, Counted, Pin, Acts}
use Rattle.state_table.proofs.Tested.{every, at, long}
use Rattle.laws_registers.proofs.Gets.{over-gets}
use Rattle.laws_registers.proofs.Mates.{or-second, alone_at}
use Rattle.laws_registers.proofs.Places.{in_table, bits-apart}

-- a store of another setting leaves this one
held-other : (t : Settings) (m v n : ℕ) → (m ≡ n → ⊥) → 1 ≤ n → n ≤ last_setting → held_of (store_of t m v) n ≡ held_of t n
unfolding held_of setting_numbers store_of
held-other t m v n other some most =
    span (λ (k : ℕ). eqb m k ≡ false → held_of (store_of t m v) k ≡ held_of t k) 1 last_setting n
    (λ e. rw e refl, (λ e. rw e refl, (λ e. rw e refl, (λ e. rw e refl, (λ e. rw e refl, (λ e. rw e refl, (λ e. rw e refl, (λ e. rw e refl, (λ e. rw e refl, (λ e. rw e refl, (λ e. rw e refl, (λ e. rw e refl, (λ e. rw e refl, (λ e. rw e refl, tt))))))))))))))
    some (omega arith) (ne_eqb m n other)

-- a count that is taken moves VREG and VSYSMIN alone, and VREG only if VCHG has a code
pub held-recounted : (p : Profile) (cells : ℕ) (t : Settings) (n : ℕ) → ((n ≡ 1 → ⊥) ⊎ (p.vchg ≡ 0)) → (n ≡ 6 → ⊥) → 1 ≤ n → n ≤ last_setting → held_of (recounted p cells t) n ≡ held_of t n
unfolding held_of setting_numbers recounted
held-recounted p cells t n first sixth some most =
    span (λ (k : ℕ). ((k ≡ 1 → ⊥) ⊎ (p.vchg ≡ 0)) → (k ≡ 6 → ⊥) → held_of (recounted p cells t) k ≡ held_of t k) 1 last_setting n
    (λ a b. ⊎_elim (λ other. absurd (other refl)) (λ fault. rw fault refl) a, (λ a b. refl, (λ a b. refl, (λ a b. refl, (λ a b. refl, (λ a b. absurd (b refl), (λ a b. refl, (λ a b. refl, (λ a b. refl, (λ a b. refl, (λ a b. refl, (λ a b. refl, (λ a b. refl, (λ a b. refl, tt))))))))))))))
    some (omega arith) first sixth

-- no other field of the table is of the same setting
abbrev unlike : ℕ → Access → Bool
unlike n Reserved = true
unlike n (Fixed value) = true
unlike n (Status number) = true
unlike n (Flag first count) = true
unlike n Stored = true
unlike n (Setting m step) = not (eqb m n)
unlike n (Mask first count) = not (eqb 14 n)
unlike n Counted = true
unlike n (Pin number) = true
unlike n (Acts number) = true

abbrev only : Field → Access → Bool
only f Reserved = true
only f (Fixed value) = true
only f (Status number) = true
only f (Flag first count) = true
only f Stored = true
only f (Setting n step) = every (λ (g : Field). eqb (bit_of g) (bit_of f) || unlike n g.access) fields
only f (Mask first count) = true
only f Counted = true
only f (Pin number) = true
only f (Acts number) = true

all-only : every (λ (f : Field). only f f.access) fields ≡ true
unfolding fields
all-only = refl

differs : (i n step j : ℕ) → i < 147 → (nth i).access ≡ Setting n step → j < 147 → (j ≡ i → ⊥) → unlike n (nth j).access ≡ true
differs i n step j h e l other =
    let near : Field → Bool = λ g. eqb (bit_of g) (bit_of (nth i)) || unlike n g.access in
    let test : only (nth i) (Setting n step) ≡ true = subst (λ (x : Access). only (nth i) x ≡ true) e (at (λ (g : Field). only g g.access) fields i all-only (in_table i h)) in
    or-second (eqb (bit_of (nth j)) (bit_of (nth i))) (unlike n (nth j).access) (ne_eqb (bit_of (nth j)) (bit_of (nth i)) (bits-apart i j h l other)) (at near fields j test (in_table j l))

module _ (p : Profile) (a value : ℕ) where
  abbrev on : Field → Bool
  on f = eqb f.address a

  abbrev worse : Bool → Field → Bool
  worse bad f = bad || bad_by p f.access (digit_of f value)

  -- of a register that isn't bad no field is
  abbrev Fine : List Field → Type 0
  Fine fs = (i : ℕ) → i < length fs → on (get_or fs i no_field) ≡ true → bad_by p (get_or fs i no_field).access (digit_of (get_or fs i no_field) value) ≡ false

  none-bad : (fs : List Field) (b : Bool) → over on worse fs b ≡ false → (b ≡ false) × Fine fs
  none-bad [] b e = (e, λ i h. absurd (not-suc-le-zero h))
  none-bad (f ∷ fs) b e = let rest = none-bad fs (pick (on f) (worse b f) b) e in go (on f) refl rest.0 rest.1
    where
      join : (on f ≡ true → bad_by p f.access (digit_of f value) ≡ false) → Fine fs → Fine (f ∷ fs)
      join first more zero h there = first there
      join first more (suc i) h there = more i (omega arith) there

      go : (t : Bool) → on f ≡ t → pick t (worse b f) b ≡ false → Fine fs → (b ≡ false) × Fine (f ∷ fs)
      go true q none more = let both = neither b (bad_by p f.access (digit_of f value)) none in (both.0, join (λ _. both.1) more)
      go false q none more = (none, join (λ there. absurd (false≢true (sym q ∙ there))) more)

  field-fine : bad_register p a value ≡ false → (i : ℕ) → i < 147 → (nth i).address ≡ a → bad_by p (nth i).access (digit_of (nth i) value) ≡ false
  unfolding bad_register fields_of
  field-fine none i h there = (none-bad fields false none).1 i (in_table i h) (eq-eqb (nth i).address a there)

  module _ (i n step : ℕ) (h : i < 147) (e : (nth i).access ≡ Setting n step) (none : bad_register p a value ≡ false) where
    some : 1 ≤ n
    some = (alone_at p i n step h e).some

    most : n ≤ last_setting
    most = (alone_at p i n step h e).known

    -- another field leaves it
    stands : (x : Access) (code : ℕ) (u : Settings) → unlike n x ≡ true → held_of (setting_by x code u) n ≡ held_of u n
    stands Reserved code u k = refl
    stands (Fixed v) code u k = refl
    stands (Status v) code u k = refl
    stands (Flag v w) code u k = refl
    stands Stored code u k = refl
    stands (Setting m v) code u k = held-other u m (code * v) n (λ same. false≢true (sym (not-true (eqb m n) k) ∙ eq-eqb m n same)) some most
    stands (Mask v w) code u k = held-other u 14 _ n (λ same. false≢true (sym (not-true (eqb 14 n) k) ∙ eq-eqb 14 n same)) some most
    stands Counted code u k = refl
    stands (Pin v) code u k = refl
    stands (Acts v) code u k = refl

    pub held-taken : (t : Settings) → held_of (settings_taken p a value t) n ≡ pick (eqb (nth i).address a) (digit_of (nth i) value * step) (held_of t n)
    unfolding settings_taken fields_of
    held-taken t = over-gets (λ (u : Settings). held_of u n) on (λ (u : Settings) (f : Field). setting_by f.access (digit_of f value) u) fields i (eqb (nth i).address a) (digit_of (nth i) value * step) (in_table i h) own others t
      where
        own : (u : Settings) → held_of (pick (on (nth i)) (setting_by (nth i).access (digit_of (nth i) value) u) u) n ≡ pick (on (nth i)) (digit_of (nth i) value * step) (held_of u n)
        own u = go (on (nth i)) refl
          where
            go : (b : Bool) → on (nth i) ≡ b → held_of (pick b (setting_by (nth i).access (digit_of (nth i) value) u) u) n ≡ pick b (digit_of (nth i) value * step) (held_of u n)
            go true q =
                let fine = field-fine none i h (eqb-true (nth i).address a q) in
                let may : may_hold p n (digit_of (nth i) value * step) ≡ true = not-false _ (subst (λ (x : Access). bad_by p x (digit_of (nth i) value) ≡ false) e fine) in
                ap (λ (x : Access). held_of (setting_by x (digit_of (nth i) value) u) n) e ∙ held_after p u n (digit_of (nth i) value * step) may n some most
                ∙ ap (λ (b : Bool). pick b (digit_of (nth i) value * step) (held_of u n)) (eq-eqb n n refl)
            go false q = refl

        others : (j : ℕ) → j < length fields → (j ≡ i → ⊥) → (u : Settings) → held_of (pick (on (nth j)) (setting_by (nth j).access (digit_of (nth j) value) u) u) n ≡ held_of u n
        others j l other u = go (on (nth j))
          where
            go : (b : Bool) → held_of (pick b (setting_by (nth j).access (digit_of (nth j) value) u) u) n ≡ held_of u n
            go true = stands (nth j).access (digit_of (nth j) value) u (differs i n step j h e (subst (λ (x : ℕ). j < x) long l) other)
            go false = refl
