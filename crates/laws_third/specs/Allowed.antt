-- Demand 3, what a charge needs at a moment: a good input, permission, no fault, a temperature that doesn't suspend it.
use Rattle.std.specs.Prelude.{◌≡◌, ◌⊎◌, true, false}
use Rattle.settle_permission.specs.Bits.{ce_high, hiz_high, shutdown_of}
use Rattle.laws_account.specs.History.{Run}
use Rattle.laws_account.specs.Held.{sample_of}
use Rattle.laws_account.specs.Valued.{setting_of}
use Rattle.laws_third.specs.Crossed.{InputGood, PinFault, PackOver}
use Rattle.laws_third.specs.Banded.{Suspending}

-- "no HIZ (EN_HIZ, or EN_EXTILIM with the pin high)"
abbrev pub HighZ : Run → Type 0
HighZ r = (setting_of 11 r ≡ 1) ⊎ ((setting_of 12 r ≡ 1) × (hiz_high (sample_of r) ≡ true))

-- "Permission: input good, no HIZ .., EN_CHG, CE low, no pin fault.": what it asks beside a good input
pub record Permitted (r : Run) : Type 0 where
  pub driven : ¬ HighZ r
  pub enabled : setting_of 9 r ≡ 1
  pub ce_low : ce_high (sample_of r) ≡ false
  pub pinned : ¬ PinFault r

-- "7 fault, thermal shutdown, battery over or a stage limit reached": the first two, a limit has a clause of its own
abbrev pub Fault : Run → Type 0
Fault r = (shutdown_of (sample_of r) ≡ true) ⊎ PackOver r

-- "the input is good, charge is permitted, no fault or suspending temperature holds"
pub record Allowed (r : Run) : Type 0 where
  pub good : InputGood r
  pub permitted : Permitted r
  pub sound : ¬ Fault r
  pub mild : ¬ Suspending r
