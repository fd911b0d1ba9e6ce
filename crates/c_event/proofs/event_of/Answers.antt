-- `event_of` meets its contract: of the words that are read, a kind's numbers are the first.
use Rattle.std.proofs.Common.{◌≡◌, sym, ap, ◌∙◌, rules}
use Rattle.log_event.specs.Kinds.{kinds, row_for, known_told}
use Rattle.c_event.proofs.Givens.{given_is}
use Rattle.c_event.proofs.event_of.Goals as goal

pub returns : goal.returns
returns c =
    let same : c.in_ok-byte.byte ≡ c.args.kind = search rules in
    let row = ap known_told (sym c.in_ok-of.ensures.ok_part) ∙ c.kind_for.ensures ∙ ap (row_for kinds) same in
    given_is c.args.kind c.args.bytes.now c.in_ok-of.of c.count.result c.read.new.all c.made.result row c.count.ensures.0 c.count.ensures.1 c.if-bytes-count.false c.read.ensures c.made.ensures
