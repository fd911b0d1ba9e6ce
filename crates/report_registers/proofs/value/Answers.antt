-- `value`: a loop over the register's rows.
use Prim.Native.Nat.{ℕ, ◌+◌, ◌≤◌, ◌<◌}
use mathlib.Core.Path.{sym, subst, ◌∙◌}
use native.Mathlib.Omega.{arith}
use Rattle.state_table.specs.Rows.{fields, fields_of}
use Rattle.state_table.proofs.Parts.{fits_row}
use Rattle.state_table.proofs.Turns.{skipped, finished, known, turn}
use Rattle.report_registers.specs.Reads.{code_of, value_by}
use Rattle.report_registers.proofs.Sums.{on, step, off, sum-turn}
use Rattle.report_registers.proofs.value.Goals as goal

pub loop-i-init : goal.loop-i-init
loop-i-init c =
    let a = c.args in
    rw c.rows_below-i.ensures (omega arith, sym (skipped (on a.address (code_of a.s)) (step a.address (code_of a.s)) a.address (off a.address (code_of a.s)) fields 0))

pub placed-part-requires : goal.placed-part-requires
placed-part-requires c = fits_row c.row_at-row.result c.loop-i.i c.row_at-row.ensures

pub overflow_add-sum : goal.overflow_add-sum
overflow_add-sum c =
    let a = c.args in
    let l = c.loop-i in
    let first = subst (λ (n : ℕ). n ≤ l.i) c.rows_below-i.ensures l.auto.i in
    let last = subst (λ (n : ℕ). l.i < n) c.rows_below-i-end.ensures c.loop-i-test.true in
    let few = known a.address l.i first last in
    let s = l.invariant.0 in
    let p = c.placed-part.ensures.1 in
    record { fits = omega arith }

pub loop-i-preserved : goal.loop-i-preserved
loop-i-preserved c =
    let a = c.args in
    let l = c.loop-i in
    let r = c.row_at-row in
    let first = subst (λ (n : ℕ). n ≤ l.i) c.rows_below-i.ensures l.auto.i in
    let last = subst (λ (n : ℕ). l.i < n) c.rows_below-i-end.ensures c.loop-i-test.true in
    let s = l.invariant.0 in
    let p = c.placed-part.ensures.1 in (
      omega arith,
      turn a.address l.i first last (on a.address (code_of a.s)) (step a.address (code_of a.s)) l.sum (l.sum + c.placed-part.result)
          (sum-turn a.address (code_of a.s) l.i first last r.result r.ensures l.sum c.placed-part.result (rw (sym c.code-here.ensures) c.placed-part.ensures.0))
          ∙ l.invariant.1,
    )

pub returns : goal.returns
unfolding value_by fields_of
returns c =
    let a = c.args in
    let l = c.loop-i in
    let past = subst (λ (n : ℕ). n ≤ l.i) c.rows_below-i-end.ensures c.loop-i-test.false in
    sym (finished (on a.address (code_of a.s)) (step a.address (code_of a.s)) a.address (off a.address (code_of a.s)) l.i l.sum past) ∙ l.invariant.1
