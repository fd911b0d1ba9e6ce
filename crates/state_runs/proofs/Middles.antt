-- The addresses in a register's middle, by the table's rows.
use Prim.Native.Nat.{ℕ, ◌%◌}
use mathlib.Core.Path.{◌≡◌, refl, sym}
use mathlib.Core.Bool.{Bool, true, false, not, ◌&&◌, ◌||◌}
use native.Mathlib.Omega.{arith}
use lib.Dec.{leb, ltb, eqb}
use borrow.Author.Tests.{ltb-true, ltb-false, lt-leb, ne_eqb, not-true}
use Rattle.base.proofs.Span.{all_of, tested}
use Rattle.state_parts.specs.declared.profile.Profile.{Profile}
use Rattle.state_table.specs.Rows.{fields, fields_of}
use Rattle.state_runs.specs.Runs.{in_middle}
use Rattle.state_runs.specs.Theorems.{MiddlesListed}

-- two tests that come out the same
abbrev agree : Bool → Bool → Bool
agree true t = t
agree false t = not t

agreed : (s t : Bool) → agree s t ≡ true → s ≡ t
agreed true t e = sym e
agreed false t e = sym (not-true t e)

abbrev listed : ℕ → Bool
listed a = (leb a 0x0D && eqb (a % 2) 1) || eqb a 0x25

all_listed : (p : Profile) → all_of (λ (n : ℕ). agree (in_middle p n) (listed n)) 0 39 ≡ true
unfolding fields_of fields
all_listed p = refl

pub middles-listed : MiddlesListed
middles-listed p a = go (ltb a 39) refl
  where
    go : (t : Bool) → ltb a 39 ≡ t → in_middle p a ≡ listed a
    go true e = agreed (in_middle p a) (listed a) (tested (λ (n : ℕ). agree (in_middle p n) (listed n)) 0 39 a (all_listed p) (omega arith) (ltb-true a 39 e))
    go false e =
        let h = ltb-false a 39 e in
        rw (e, lt-leb a 0x0D (omega arith), ne_eqb a 0x25 (λ q. omega arith)) refl
