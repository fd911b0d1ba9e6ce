-- Settling leaves what a run wrote, but for EN_CHG.
use Prim.Native.Nat.{ℕ}
use mathlib.Core.Path.{◌≡◌, refl}
use mathlib.Core.Bool.{Bool, true, false, not, ◌&&◌}
use native.Mathlib.Omega.{arith}
use Rattle.base.specs.Pick.{pick, bit_of}
use Rattle.base.proofs.Span.{span}
use Rattle.settle_all.specs.Settle.{forced_of, settled_of, settle_of}
use Rattle.settle_levels.specs.Clamps.{fault_of}
use Rattle.state_settings.specs.Numbered.{setting_numbers, held_of}
use Rattle.state_settings.specs.Ranges.{last_setting}
use Rattle.laws_registers.specs.Settled.{SettlingMovesEnable}

forced : (on fault : Bool) → bit_of (on && not fault) ≡ pick fault 0 (bit_of on)
forced true true = refl
forced true false = refl
forced false true = refl
forced false false = refl

pub settling-moves-enable : SettlingMovesEnable
unfolding settle_of settled_of forced_of held_of setting_numbers
settling-moves-enable s observed =
    record {
      registers = refl;
      others = λ n low high other.
          span (λ (k : ℕ). (k ≡ 9 → ⊥) → held_of (settle_of s observed).settings k ≡ held_of s.settings k) 1 last_setting n
          (λ o. refl, (λ o. refl, (λ o. refl, (λ o. refl, (λ o. refl, (λ o. refl, (λ o. refl, (λ o. refl, (λ o. absurd (o refl), (λ o. refl, (λ o. refl, (λ o. refl, (λ o. refl, (λ o. refl, tt)))))))))))))) low (omega arith) other;
      enable = forced s.settings.enchg (fault_of s.profile s.registers);
    }
