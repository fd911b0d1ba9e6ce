-- What a charge needs at a moment, as the account tests it, means what the demand says.
use mathlib.Core.Path.{◌≡◌, refl}
use mathlib.Core.Bool.{Bool, true, false, not, ◌&&◌}
use Rattle.settle_permission.specs.Bits.{ce_high, hiz_high, shutdown_of}
use Rattle.laws_account.specs.History.{Run}
use Rattle.laws_account.specs.Held.{sample_of}
use Rattle.laws_account.specs.Valued.{pin_fault, setting_of, enabled}
use Rattle.laws_account.specs.Judged.{input_good, high_z, permitted}
use Rattle.laws_account.specs.Refused.{Accepted}
use Rattle.laws_third.specs.Crossed.{InputGood}
use Rattle.laws_third.specs.Allowed.{HighZ, Permitted, Fault, Allowed}
use Rattle.laws_third.proofs.Means.{Means, eqb-means, true-means, false-means, and-means, or-means, not-means, re-means, by-test}
use Rattle.laws_third.proofs.Bands.{suspended-means}
use Rattle.laws_third.proofs.Crossings.{good-means, pins-mean, pack-means}
use Rattle.laws_third.proofs.Charges.{faulty}
use Rattle.laws_third.proofs.Ended.{may_charge}

high-means : (r : Run) → Means (high_z r) (HighZ r)
high-means r = or-means (eqb-means (setting_of 11 r) 1) (and-means (eqb-means (setting_of 12 r) 1) (true-means (hiz_high (sample_of r))))

-- what permission asks beside a good input
abbrev pub allowed : Run → Bool
allowed r = not (high_z r) && enabled 9 r && not (ce_high (sample_of r)) && not (pin_fault r)

pub allowed-means : (r : Run) → Means (allowed r) (Permitted r)
allowed-means r =
    re-means (λ h. record { driven = h.0.0.0; enabled = h.0.0.1; ce_low = h.0.1; pinned = h.1 })
    (λ h. (((h.driven, h.enabled), h.ce_low), h.pinned))
    (and-means
    (and-means (and-means (not-means (high-means r)) (eqb-means (setting_of 9 r) 1)) (false-means (ce_high (sample_of r))))
    (not-means (pins-mean r)))

apart : (a b c d e : Bool) → (a && b && c && d && e) ≡ (a && (b && c && d && e))
apart true b c d e = refl
apart false b c d e = refl

pub permitted-means : (r : Run) → Means (permitted r) (InputGood r × Permitted r)
unfolding permitted
permitted-means r =
    by-test (apart (input_good r) (not (high_z r)) (enabled 9 r) (not (ce_high (sample_of r))) (not (pin_fault r)))
    (and-means (good-means r) (allowed-means r))

pub fault-means : (r : Run) → Accepted r → Means (faulty r) (Fault r)
fault-means r a = or-means (true-means (shutdown_of (sample_of r))) (pack-means r a)

pub may-means : (r : Run) → Accepted r → Means (may_charge r) (Allowed r)
may-means r a =
    re-means (λ h. record { good = h.0.0; permitted = h.0.1; sound = h.1.0; mild = h.1.1 })
    (λ h. ((h.good, h.permitted), (h.sound, h.mild)))
    (and-means (permitted-means r) (and-means (not-means (fault-means r a)) (not-means (suspended-means r))))
