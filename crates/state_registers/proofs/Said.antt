-- A field that is a setting can say every value that the setting may hold.
use Prim.Native.Nat.{ℕ, ◌/◌, ◌%◌, ◌^◌, ◌≤◌}
use mathlib.Core.Path.{◌≡◌, refl, subst, ap, sym, ◌∙◌}
use mathlib.Core.Bool.{Bool, true, ◌&&◌}
use native.Mathlib.Omega.{arith}
use lib.Dec.{leb, ltb, eqb}
use borrow.Author.Tests.{leb-true, ltb-true, eqb-true}
use lib.Ieee.Nearest.{div_mono}
use native.Mathlib.Nat.{mul-le-mul, le_refl, div-add-mod', lt_of_le_of_lt}
use Rattle.base.proofs.Tests.{and-iff}
use Rattle.state_settings.proofs.Steps.{at_most, on_step}
use Rattle.state_parts.specs.declared.profile.Profile.{Profile}
use Rattle.state_settings.specs.Ranges.{ranges, range_of}
use Rattle.state_table.specs.Rows.{Field, fields}
use Rattle.state_table.specs.Packed.{field_at}
use Rattle.state_table.specs.declared.Access.{Access}
use Rattle.state_table.specs.declared.Access.TheVariants.{Reserved, Fixed, Status, Flag, Stored, Setting, Mask, Counted, Pin, Acts}
use Rattle.state_table.proofs.Tested.{every, at, long}
use Rattle.state_registers.specs.Theorems.{EveryValueSaid}

-- the field has the setting's own step, and the highest value's code fits it
abbrev says : Profile → Access → ℕ → Bool
says p Reserved width = true
says p (Fixed value) width = true
says p (Status number) width = true
says p (Flag first count) width = true
says p Stored width = true
says p (Setting n step) width = eqb (range_of p n).step step && leb 1 step && ltb ((range_of p n).high / step) (2 ^ width)
says p (Mask first count) width = true
says p Counted width = true
says p (Pin number) width = true
says p (Acts number) width = true

all_say : (p : Profile) → every (λ (f : Field). says p f.access f.width) fields ≡ true
unfolding fields range_of ranges
all_say p = refl

pub every-value-said : EveryValueSaid
unfolding field_at
every-value-said p i n step v e may =
    let f = field_at i in
    let test : says p (Setting n step) f.width ≡ true =
    subst (λ (a : Access). says p a f.width ≡ true) e (at (λ (g : Field). says p g.access g.width) fields (i % 147) (all_say p) (rw long (omega arith))) in
    let k = (and-iff (eqb (range_of p n).step step && leb 1 step) (ltb ((range_of p n).high / step) (2 ^ f.width))).0 test in
    let l = (and-iff (eqb (range_of p n).step step) (leb 1 step)).0 k.0 in
    let some : 1 ≤ step = leb-true 1 step l.1 in
    let most : v ≤ (range_of p n).high = at_most p n v may in
    let mono : v / step ≤ (range_of p n).high / step = div_mono v step (range_of p n).high step some some (mul-le-mul most (le_refl step)) in
    let less = ltb-true ((range_of p n).high / step) (2 ^ f.width) k.1 in
    let even : v % step ≡ 0 = ap (λ (m : ℕ). v % m) (sym (eqb-true (range_of p n).step step l.0)) ∙ on_step p n v may in
    let whole = div-add-mod' v step in (
      omega arith,
      lt_of_le_of_lt mono less,
    )
