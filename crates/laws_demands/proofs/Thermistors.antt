-- What every product does with an observation of two equal values, and with one whose values are in each other's place.
use mathlib.Core.Path.{◌≡◌, sym, subst}
use Rattle.step_event.specs.Steps.{step_of}
use Rattle.laws_step.specs.Observed.{EqualActAsFive, ExchangedActAlike}
use Rattle.laws_step.proofs.Observed.{equal-act-as-five}
use Rattle.laws_step.proofs.Exchanged.{exchanged-act-alike}
use Rattle.laws_demands.specs.Product.{Step, Product}
use Rattle.laws_demands.specs.First.{FirstDemand}
use Rattle.laws_demands.specs.Second.{SecondDemand}
use Rattle.laws_demands.specs.Thermistors.{EveryProductActsAsFive, EveryProductActsAlike}
use Rattle.laws_demands.proofs.Only.{only-ours}

-- what holds of this product's step holds of every such product's
pub of-ours : (said : Step → Type 0) → said step_of → (p : Product) → FirstDemand p → SecondDemand p → said p.step
of-ours said holds p first second =
    let steps : p.step ≡ step_of = λ i m e. (only-ours p first second).steps m e i in
    subst said (sym steps) holds

pub every-product-acts-as-five : EveryProductActsAsFive
every-product-acts-as-five = of-ours EqualActAsFive equal-act-as-five

pub every-product-acts-alike : EveryProductActsAlike
every-product-acts-alike = of-ours ExchangedActAlike exchanged-act-alike
