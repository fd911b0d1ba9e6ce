-- `code`: an arm to each access.
use Prim.Native.Nat.{ℕ, ◌/◌}
use mathlib.Core.Path.{◌≡◌, sym, ap, subst, ◌∙◌}
use mathlib.Core.Bool.{true}
use borrow.Author.Tests.{leb-true}
use Rattle.state_parts.specs.declared.state.State.{State}
use Rattle.state_table.specs.Packed.{field_at, row_of, fits_access}
use Rattle.state_table.specs.declared.Access.{Access}
use Rattle.state_table.specs.declared.Access.TheVariants.{Reserved, Fixed, Status, Flag, Stored, Setting, Mask, Counted, Pin, Acts}
use Rattle.state_table.specs.declared.Row.{Row}
use Rattle.state_table.proofs.Parts.{access-is, row_fits}
use Rattle.step_flags.specs.declared.between.Seen.{Seen}
use Rattle.report_registers.specs.Reads.{code_by, code_of, status_of}
use Rattle.report_registers.proofs.codes.code.Goals as goal

-- the row's access is the field's
module _ (r : Row) (i : ℕ) (e : r ≡ row_of (field_at i)) (a : Access) (known : r.access ≡ a) where
  pub fits-as : fits_access a ≡ true
  fits-as = subst (λ (x : Access). fits_access x ≡ true) (sym (access-is r i e) ∙ known) (row_fits r i e).access

  pub read_as : (s : State) → code_by a s (field_at i) ≡ code_of s (field_at i)
  unfolding code_of
  read_as s = ap (λ (x : Access). code_by x s (field_at i)) (sym (sym (access-is r i e) ∙ known))

pub any_of-requires : goal.any_of-requires
any_of-requires c =
    let r = c.row_at-row in
    let a = c.args in
    leb-true _ 31 (fits-as r.result a.number r.ensures (Flag _ _) c.in-Flag.is)

pub nonzero_div-result : goal.nonzero_div-result
nonzero_div-result c =
    let r = c.row_at-row in
    let a = c.args in
    leb-true 1 _ (fits-as r.result a.number r.ensures (Setting _ _) c.in-Setting.is)

pub all_of-requires : goal.all_of-requires
all_of-requires c =
    let r = c.row_at-row in
    let a = c.args in
    leb-true _ 31 (fits-as r.result a.number r.ensures (Mask _ _) c.in-Mask.is)

pub returns-in-Reserved : goal.returns-in-Reserved
returns-in-Reserved c =
    let r = c.row_at-row in
    let a = c.args in
    read_as r.result a.number r.ensures Reserved c.in-Reserved.is a.s

pub returns-in-Fixed : goal.returns-in-Fixed
returns-in-Fixed c =
    let r = c.row_at-row in
    let a = c.args in
    read_as r.result a.number r.ensures (Fixed _) c.in-Fixed.is a.s

pub returns-in-Status : goal.returns-in-Status
returns-in-Status c =
    let r = c.row_at-row in
    let a = c.args in
    c.status.ensures ∙ ap (λ (x : Seen). status_of x c.in-Status.which) c.requires ∙ read_as r.result a.number r.ensures (Status _) c.in-Status.is a.s

pub returns-in-Flag : goal.returns-in-Flag
returns-in-Flag c =
    let r = c.row_at-row in
    let a = c.args in
    c.any_of.ensures ∙ read_as r.result a.number r.ensures (Flag _ _) c.in-Flag.is a.s

pub returns-in-Stored : goal.returns-in-Stored
returns-in-Stored c =
    let r = c.row_at-row in
    let a = c.args in
    c.field_at.ensures ∙ read_as r.result a.number r.ensures Stored c.in-Stored.is a.s

pub returns-in-Setting : goal.returns-in-Setting
returns-in-Setting c =
    let r = c.row_at-row in
    let a = c.args in
    ap (λ (n : ℕ). n / c.in-Setting.step) c.held.ensures ∙ read_as r.result a.number r.ensures (Setting _ _) c.in-Setting.is a.s

pub returns-in-Mask : goal.returns-in-Mask
returns-in-Mask c =
    let r = c.row_at-row in
    let a = c.args in
    c.all_of.ensures ∙ read_as r.result a.number r.ensures (Mask _ _) c.in-Mask.is a.s

pub returns-in-Counted : goal.returns-in-Counted
returns-in-Counted c =
    let r = c.row_at-row in
    let a = c.args in
    read_as r.result a.number r.ensures Counted c.in-Counted.is a.s

pub returns-in-Pin : goal.returns-in-Pin
returns-in-Pin c =
    let r = c.row_at-row in
    let a = c.args in
    c.pin.ensures ∙ read_as r.result a.number r.ensures (Pin _) c.in-Pin.is a.s

pub returns-in-Acts : goal.returns-in-Acts
returns-in-Acts c =
    let r = c.row_at-row in
    let a = c.args in
    read_as r.result a.number r.ensures (Acts _) c.in-Acts.is a.s
