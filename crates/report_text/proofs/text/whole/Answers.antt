-- `whole`: the room is measured before any byte is written.
use native.Mathlib.Omega.{arith}
use Rattle.report_text.specs.Text.{line_text}
use Rattle.report_text.proofs.Outcomes.{no_room, with-room}
use Rattle.report_text.proofs.text.whole.Goals as goal

pub returns-then-out-bytes : goal.returns-then-out-bytes
returns-then-out-bytes c =
    let a = c.args in
    no_room (line_text a.numbers.now) a.out.now (omega (arith, c.width-bytes.ensures.0))

pub returns : goal.returns
returns c =
    let a = c.args in
    let w = c.width-bytes in
    with-room (line_text a.numbers.now) a.out.now (omega (arith, w.ensures.0)) w.result c.put.new.out w.ensures.0 c.put.ensures
