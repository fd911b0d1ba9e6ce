-- The flag registers, by the table's rows.
use Prim.Native.Nat.{ℕ, ◌<◌}
use mathlib.Core.Path.{◌≡◌, refl, sym, subst, ◌∙◌}
use mathlib.Core.Bool.{Bool, true, false, not, ◌||◌, false≢true}
use mathlib.Core.List.{List}
use native.Mathlib.Omega.{arith}
use lib.Dec.{eqb, ltb}
use borrow.Author.Tests.{eqb-true, ne_eqb, ltb-true, ltb-false, not-true}
use Rattle.base.proofs.Span.{all_of, tested}
use Rattle.state_parts.specs.declared.profile.Profile.{Profile}
use Rattle.state_parts.specs.declared.state.State.{State}
use Rattle.state_table.specs.Rows.{Field, fields, fields_of, over}
use Rattle.state_table.proofs.Turns.{nothing}
use Rattle.report_registers.specs.Reads.{code_of, value_by, byte_by, read_of, flag_register, flag_byte}
use Rattle.report_registers.specs.Theorems.{FlagsAsRead, is_flag, FlagRegisters}

at-20 : (s : State) → flag_byte s.profile 0x20 s.flags ≡ read_of s 0x20
unfolding flag_byte read_of byte_by value_by code_of fields_of fields
at-20 s = refl

at-21 : (s : State) → flag_byte s.profile 0x21 s.flags ≡ read_of s 0x21
unfolding flag_byte read_of byte_by value_by code_of fields_of fields
at-21 s = refl

pub flags-as-read : FlagsAsRead
flags-as-read s a e = go (eqb a 0x20) (eqb a 0x21) refl refl e
  where
    go : (t u : Bool) → eqb a 0x20 ≡ t → eqb a 0x21 ≡ u → (t || u) ≡ true → flag_byte s.profile a s.flags ≡ read_of s a
    go true u et eu e = subst (λ (n : ℕ). flag_byte s.profile n s.flags ≡ read_of s n) (sym (eqb-true a 0x20 et)) (at-20 s)
    go false true et eu e = subst (λ (n : ℕ). flag_byte s.profile n s.flags ≡ read_of s n) (sym (eqb-true a 0x21 eu)) (at-21 s)
    go false false et eu e = absurd (false≢true e)

-- two tests that come out the same
abbrev agree : Bool → Bool → Bool
agree true t = t
agree false t = not t

agreed : (s t : Bool) → agree s t ≡ true → s ≡ t
agreed true t e = sym e
agreed false t e = sym (not-true t e)

-- some field of the address is one of flags
abbrev some : ℕ → List Field → Bool
some a fs = over (λ (f : Field). eqb f.address a) (λ (t : Bool) (f : Field). t || is_flag f.access) fs false

all : (p : Profile) → all_of (λ (n : ℕ). agree (some n fields) (flag_register p n)) 0 39 ≡ true
unfolding fields
all p = refl

pub flag-registers : FlagRegisters
unfolding fields_of
flag-registers p a = go (ltb a 39) refl
  where
    beyond : 38 < a → some a fields ≡ flag_register p a
    beyond h =
        nothing (λ (f : Field). eqb f.address a) (λ (t : Bool) (f : Field). t || is_flag f.access) a (λ f other. ne_eqb f.address a other) false h
        ∙ rw (ne_eqb a 0x20 (λ e. omega arith), ne_eqb a 0x21 (λ e. omega arith)) refl

    inside : a < 39 → some a fields ≡ flag_register p a
    inside h = agreed (some a fields) (flag_register p a) (tested (λ (n : ℕ). agree (some n fields) (flag_register p n)) 0 39 a (all p) (omega arith) h)

    go : (t : Bool) → ltb a 39 ≡ t → some a fields ≡ flag_register p a
    go true e = inside (ltb-true a 39 e)
    go false e = beyond (let h = ltb-false a 39 e in omega arith)
