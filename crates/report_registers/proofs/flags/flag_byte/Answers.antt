-- `flag_byte`: a loop over the register's rows.
use Prim.Native.Nat.{ℕ, ◌+◌, ◌*◌, ◌%◌, ◌^◌, ◌≤◌, ◌<◌}
use mathlib.Core.Path.{sym, ap, subst, ◌∙◌}
use native.Mathlib.Omega.{arith}
use Rattle.state_table.specs.Rows.{fields, fields_of}
use Rattle.state_table.specs.declared.Row.{Row}
use Rattle.state_table.proofs.Parts.{fits_row}
use Rattle.state_table.proofs.Turns.{skipped, finished, nothing, known, turn}
use Rattle.report_registers.specs.Reads.{flag_by, value_by, flag_byte}
use Rattle.report_registers.proofs.Sums.{on, step, off, sum-turn}
use Rattle.report_registers.proofs.flags.flag_byte.Invariants.{code}
use Rattle.report_registers.proofs.flags.flag_byte.Goals as goal

pub returns-then-address-gt38 : goal.returns-then-address-gt38
unfolding flag_byte value_by fields_of
returns-then-address-gt38 c =
    let a = c.args in
    ap (λ (n : ℕ). n % 256) (sym (nothing (on a.address (code a.flags)) (step a.address (code a.flags)) a.address (off a.address (code a.flags)) 0 (omega arith)))

pub loop-i-init : goal.loop-i-init
loop-i-init c =
    let a = c.args in
    rw c.rows_below-i.ensures (omega arith, sym (skipped (on a.address (code a.flags)) (step a.address (code a.flags)) a.address (off a.address (code a.flags)) fields 0))

pub flag_by-here-requires : goal.flag_by-here-requires
flag_by-here-requires c = fits_row c.row_at-row.result c.loop-i.i c.row_at-row.ensures

pub placed-part-requires : goal.placed-part-requires
placed-part-requires c = fits_row c.row_at-row.result c.loop-i.i c.row_at-row.ensures

pub overflow_add-sum : goal.overflow_add-sum
overflow_add-sum c =
    let a = c.args in
    let l = c.loop-i in
    let first = subst (λ (n : ℕ). n ≤ l.i) c.rows_below-i.ensures l.auto.i in
    let last = subst (λ (n : ℕ). l.i < n) c.rows_below-i-end.ensures c.loop-i-test.true in
    let few = known a.address l.i first last in
    let s = l.invariant.0 in
    let p = c.placed-part.ensures.1 in
    record { fits = omega arith }

pub loop-i-preserved : goal.loop-i-preserved
loop-i-preserved c =
    let a = c.args in
    let l = c.loop-i in
    let r = c.row_at-row in
    let first = subst (λ (n : ℕ). n ≤ l.i) c.rows_below-i.ensures l.auto.i in
    let last = subst (λ (n : ℕ). l.i < n) c.rows_below-i-end.ensures c.loop-i-test.true in
    let s = l.invariant.0 in
    let p = c.placed-part.ensures.1 in (
      omega arith,
      turn a.address l.i first last (on a.address (code a.flags)) (step a.address (code a.flags)) l.sum (l.sum + c.placed-part.result)
          (sum-turn a.address (code a.flags) l.i first last r.result r.ensures l.sum c.placed-part.result
          (c.placed-part.ensures.0 ∙ ap (λ (n : ℕ). n % 2 ^ r.result.width * 2 ^ r.result.low) (c.flag_by-here.ensures ∙ ap (λ (x : Row). flag_by x.access a.flags) r.ensures)))
          ∙ l.invariant.1,
    )

pub returns : goal.returns
unfolding flag_byte value_by fields_of
returns c =
    let a = c.args in
    let l = c.loop-i in
    let past = subst (λ (n : ℕ). n ≤ l.i) c.rows_below-i-end.ensures c.loop-i-test.false in
    ap (λ (n : ℕ). n % 256)
    (sym (finished (on a.address (code a.flags)) (step a.address (code a.flags)) a.address (off a.address (code a.flags)) l.i l.sum past) ∙ l.invariant.1)
