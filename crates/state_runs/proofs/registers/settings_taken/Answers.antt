-- `settings_taken`: a loop over the register's rows.
use Prim.Native.Nat.{ℕ, ◌≤◌, ◌<◌}
use mathlib.Core.Path.{sym, subst, ◌∙◌}
use Rattle.state_table.specs.Rows.{fields, fields_of}
use Rattle.state_table.proofs.Parts.{fits_row}
use Rattle.state_table.proofs.Turns.{skipped, finished, nothing, turn}
use Rattle.state_runs.specs.Registers.{setting_by, settings_taken}
use Rattle.state_runs.proofs.Turns.{on, off, step, code-turn}
use Rattle.state_runs.proofs.registers.settings_taken.Goals as goal

pub returns-then-address-gt38 : goal.returns-then-address-gt38
unfolding settings_taken fields_of
returns-then-address-gt38 c =
    let a = c.args in
    sym (nothing (on a.address) (step a.address setting_by a.value) a.address (off a.address) a.t c.if-address-gt38.true)

pub loop-i-init : goal.loop-i-init
loop-i-init c =
    let a = c.args in
    rw c.rows_below-i.ensures (sym (skipped (on a.address) (step a.address setting_by a.value) a.address (off a.address) fields a.t))

pub set_by-u-requires : goal.set_by-u-requires
set_by-u-requires c = fits_row c.row_at-row.result c.loop-i.i c.row_at-row.ensures

pub loop-i-preserved : goal.loop-i-preserved
loop-i-preserved c =
    let a = c.args in
    let l = c.loop-i in
    let row = c.row_at-row in
    let first = subst (λ (n : ℕ). n ≤ l.i) c.rows_below-i.ensures l.auto.i in
    let last = subst (λ (n : ℕ). l.i < n) c.rows_below-i-end.ensures c.loop-i-test.true in
    turn a.address l.i first last (on a.address) (step a.address setting_by a.value) l.u c.set_by-u.result
    (code-turn a.address setting_by a.value l.i first last row.result row.ensures l.u c.set_by-u.result c.set_by-u.ensures)
    ∙ l.invariant

pub returns : goal.returns
unfolding settings_taken fields_of
returns c =
    let a = c.args in
    let l = c.loop-i in
    let past = subst (λ (n : ℕ). n ≤ l.i) c.rows_below-i-end.ensures c.loop-i-test.false in
    sym (finished (on a.address) (step a.address setting_by a.value) a.address (off a.address) l.i l.u past) ∙ l.invariant
