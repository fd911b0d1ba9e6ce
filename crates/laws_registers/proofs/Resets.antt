-- A register reset leaves VINDPM, STOP_WD_CHG and EN_BYPASS_LL_EXIT, and of the stored fields no other.
use Prim.Native.Nat.{ℕ, ◌%◌, ◌^◌}
use mathlib.Core.Path.{◌≡◌, refl, ◌∙◌}
use mathlib.Core.Bool.{Bool, true, false, not, false≢true}
use native.Mathlib.Nat.{mod-eq_of_lt}
use native.Mathlib.Omega.{arith}
use Rattle.base.specs.Pick.{pick}
use Rattle.state_fields.specs.Held.{field_of}
use Rattle.state_fields.proofs.Fields.{field-mod}
use Rattle.state_fields.proofs.Gathers.{nth, stored}
use Rattle.state_registers.proofs.Leaves.{leaves-fields}
use Rattle.state_table.specs.Rows.{Field, fields, is_stored}
use Rattle.state_table.specs.Packed.{field_at}
use Rattle.state_table.proofs.Tested.{every, at}
use Rattle.state_table.proofs.Whole.{resets-fit}
use Rattle.laws_registers.specs.Resets.{is_left, LeftRows, ResetLeavesThree}
use Rattle.laws_registers.proofs.Places.{in_table}

pub left-rows : LeftRows
unfolding field_at fields
left-rows = record { vindpm-row = refl; stop-row = refl; exit-row = refl }

-- of the stored fields those three aren't marked
abbrev marked : Field → Bool
marked f = pick (is_stored f.access) (pick f.restored (not (is_left f)) (is_left f)) true

all-marked : every marked fields ≡ true
unfolding fields
all-marked = refl

-- what is restored has its reset, and what isn't stands
chosen : (kept restored left : Bool) (new old m : ℕ) → kept ≡ true → pick kept (pick restored (not left) left) true ≡ true → new % m ≡ new → old % m ≡ old
    → pick kept (pick restored new old % m) 0 ≡ pick left old new
chosen true true true new old m k e fn fo = absurd (false≢true e)
chosen true true false new old m k e fn fo = fn
chosen true false true new old m k e fn fo = fo
chosen true false false new old m k e fn fo = absurd (false≢true e)
chosen false restored left new old m k e fn fo = absurd (false≢true k)

pub reset-leaves-three : ResetLeavesThree
unfolding field_at
reset-leaves-three s i st =
    let f = nth (i % 147) in
    leaves-fields s (i % 147) (omega arith)
    ∙ chosen (stored f) f.restored (is_left f) f.reset (field_of f s.registers) (2 ^ f.width) st (at marked fields (i % 147) all-marked (in_table (i % 147) (omega arith)))
    (mod-eq_of_lt (resets-fit i)) (field-mod f s.registers)
