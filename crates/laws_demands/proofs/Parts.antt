-- What breaks a part of a demand breaks the demand.
use mathlib.Core.Path.{subst}
use Rattle.c_calls.specs.Promises.{RefusalLeaves}
use Rattle.laws_format.specs.Readers.{Reads, Writes}
use Rattle.laws_pairs.specs.Compared.{Compares}
use Rattle.laws_third.specs.Demand.{ThirdOfLists}
use Rattle.laws_heads.specs.Third.{ThirdOfImages}
use Rattle.laws_heads.specs.Growing.{CatchesUp}
use Rattle.laws_demands.specs.Product.{Step, Reporter}
use Rattle.laws_demands.specs.Refuted.{PartsBreak}

pub parts-break : PartsBreak
parts-break = record {
  read = λ read breaks p e d. breaks (subst Reads e d.reads);
  write = λ write breaks p e d. breaks (subst Writes e d.writes);
  compare = λ compare breaks p e d. breaks (subst Compares e d.compares);
  leaves = λ calls breaks p e d. breaks (subst RefusalLeaves e d.leaves);
  grows = λ calls breaks p e d. breaks (subst CatchesUp e d.grows);
  images = λ calls breaks p e d. breaks (subst ThirdOfImages e d.images);
  lists = λ step report breaks p e f d.
      breaks (subst (λ (r : Reporter). ThirdOfLists step r) f (subst (λ (s : Step). ThirdOfLists s p.report) e d.lists));
}
