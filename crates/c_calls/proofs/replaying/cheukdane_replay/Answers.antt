-- `cheukdane_replay` meets its contract: what is read first, and the rest behind it, is the log's rest.
use Rattle.std.proofs.Common.{sym, ap, ◌∙◌, arith}
use Rattle.std.proofs.lemmas.Grind.{common_steps}
use Rattle.step_event.specs.Walks.{walk_from}
use Rattle.step_event.specs.Rests.{played_by}
use Rattle.step_event.proofs.Playing.{played-is}
use Rattle.c_image.specs.Images.{saved_in}
use Rattle.c_image.proofs.ImageLaws.{loaded-long}
use Rattle.c_calls.specs.Replaying.{replay_of}
use Rattle.c_calls.proofs.replaying.cheukdane_replay.Goals as goal

pub returns : goal.returns
unfolding replay_of saved_in
returns c =
    let from = walk_from c.in-Some.model c.args.place in
    let rest = c.run-ended.ensures ∙ ap (played_by c.args.log.now from) c.read-got.ensures ∙ played-is _ (λ i. omega (arith, c.type_inv.log i)) from in
    let long = loaded-long c.args.image.now c.in-Some.model (sym c.in-Some.ensures) in
    grind (arith, common_steps, rest, long)
