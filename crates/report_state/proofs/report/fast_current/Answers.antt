-- `fast_current`: a share of at most 100 percent fits if the whole does.
use Prim.Native.Nat.{◌≤◌}
use native.Mathlib.Nat.{mul-le-mul}
use native.Mathlib.Omega.{arith}
use Rattle.settle_bands.proofs.Shares.{share-most}
use borrow.Author.Rules.{rules}
use Rattle.report_state.proofs.report.fast_current.Goals as goal

pub overflow_cast-result-3 : goal.overflow_cast-result-3
overflow_cast-result-3 c =
    let a = c.args in
    let most : c.share-share.result ≤ 100 = rw c.share-share.ensures (share-most a.profile a.registers a.band) in
    let all : c.min-whole.result ≤ 4294967295 = search rules in
    let m = mul-le-mul all most in
    record { fits = omega arith }
