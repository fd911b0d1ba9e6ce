-- `read`: the register's value, or its upper half.
use Prim.Native.Nat.{ℕ, zero, suc, ◌+◌, ◌≤◌}
use mathlib.Core.Path.{◌≡◌, sym, ◌∙◌}
use mathlib.Core.Bool.{true, false}
use native.Mathlib.Omega.{arith}
use borrow.Author.Tests.{eq-eqb, ne_eqb, le-leb, lt-leb}
use lib.Dec.{eqb}
use Rattle.state_table.specs.Rows.{fields, fields_of}
use Rattle.state_table.specs.Packed.{below}
use Rattle.report_registers.specs.Reads.{byte_by, read_of}
use Rattle.report_registers.proofs.read.Goals as goal

-- 0x00 is no upper half
some-before : (a first last : ℕ) → first ≡ below a fields → last ≡ below (a + 1) fields → first ≡ last → 1 ≤ a
unfolding fields
some-before zero first last e f same = absurd (omega arith)
some-before (suc a) first last e f same = omega arith

pub returns-then-address-ge39 : goal.returns-then-address-ge39
unfolding read_of byte_by
returns-then-address-ge39 c = simp (le-leb 39 c.args.address (omega arith))

pub overflow_sub-address : goal.overflow_sub-address
overflow_sub-address c =
    some-before c.args.address c.rows_below-first.result c.rows_below-last.result c.rows_below-first.ensures c.rows_below-last.ensures c.if-first-last.true

pub returns-then-first-last : goal.returns-then-first-last
unfolding read_of byte_by fields_of
returns-then-first-last c =
    let a = c.args in
    let first = c.rows_below-first in
    let last = c.rows_below-last in
    let half : eqb (below a.address fields) (below (a.address + 1) fields) ≡ true = eq-eqb _ _ (sym first.ensures ∙ c.if-first-last.true ∙ last.ensures) in
    simp (lt-leb 39 a.address (omega arith), half, c.value-whole.ensures)

pub returns-else-first-last : goal.returns-else-first-last
unfolding read_of byte_by fields_of
returns-else-first-last c =
    let a = c.args in
    let first = c.rows_below-first in
    let last = c.rows_below-last in
    let half : eqb (below a.address fields) (below (a.address + 1) fields) ≡ false = ne_eqb _ _ (λ e. c.if-first-last.false (first.ensures ∙ e ∙ sym last.ensures)) in
    simp (lt-leb 39 a.address (omega arith), half, c.value-whole-else-first-last.ensures)
