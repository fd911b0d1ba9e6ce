-- `taken`: a loop over the register's rows.
use Prim.Native.Nat.{ℕ, ◌≤◌, ◌<◌}
use mathlib.Core.Path.{sym, subst, ◌∙◌}
use Rattle.state_table.specs.Rows.{fields, fields_of}
use Rattle.state_table.proofs.Parts.{fits_row}
use Rattle.state_table.proofs.Turns.{skipped, finished, nothing, turn}
use Rattle.state_fields.specs.Held.{taken_by}
use Rattle.state_fields.proofs.Turns.{on, step, off, taken-turn}
use Rattle.state_fields.proofs.taking.taken.Goals as goal

pub returns-then-address-gt38 : goal.returns-then-address-gt38
unfolding taken_by fields_of
returns-then-address-gt38 c =
    let a = c.args in
    sym (nothing (on a.address a.value) (step a.address a.value) a.address (off a.address a.value) a.w c.if-address-gt38.true)

pub loop-i-init : goal.loop-i-init
loop-i-init c =
    let a = c.args in
    rw c.rows_below-i.ensures (sym (skipped (on a.address a.value) (step a.address a.value) a.address (off a.address a.value) fields a.w))

pub take-u-requires : goal.take-u-requires
take-u-requires c = fits_row c.row_at-row.result c.loop-i.i c.row_at-row.ensures

pub loop-i-preserved : goal.loop-i-preserved
loop-i-preserved c =
    let a = c.args in
    let l = c.loop-i in
    let row = c.row_at-row in
    let first = subst (λ (n : ℕ). n ≤ l.i) c.rows_below-i.ensures l.auto.i in
    let last = subst (λ (n : ℕ). l.i < n) c.rows_below-i-end.ensures c.loop-i-test.true in
    turn a.address l.i first last (on a.address a.value) (step a.address a.value) l.u c.take-u.result
    (taken-turn a.address a.value l.i first last row.result row.ensures l.u c.take-u.result c.take-u.ensures)
    ∙ l.invariant

pub returns : goal.returns
unfolding taken_by fields_of
returns c =
    let a = c.args in
    let l = c.loop-i in
    let past = subst (λ (n : ℕ). n ≤ l.i) c.rows_below-i-end.ensures c.loop-i-test.false in
    sym (finished (on a.address a.value) (step a.address a.value) a.address (off a.address a.value) l.i l.u past) ∙ l.invariant
