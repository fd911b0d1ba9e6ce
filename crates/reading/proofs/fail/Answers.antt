-- Of four texts that are written one after the other the third is the error's words.
use Rattle.std.proofs.lemmas.Result.{on_ok_weaker}
use Rattle.std.proofs.KnownBytes.{Appends-trans}
use Rattle.reading.proofs.fail.Goals as goal

pub returns : goal.returns
returns g c =
    on_ok_weaker c.put-ended.result (λ last. (c.words.result.now, Appends-trans _ _ _ _ _ (Appends-trans _ _ _ _ _ (Appends-trans _ _ _ _ _ c.in_ok-told.ensures c.in_ok-parted.ensures) c.in_ok-explained.ensures) last)) c.put-ended.ensures
