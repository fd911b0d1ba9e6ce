-- 01, "Settling, in order": the permission to charge.
use Rattle.std.specs.Prelude.{Bool, not, ◌&&◌, ◌||◌}
use Rattle.state_parts.specs.declared.latches.Latches.{Latches}
use Rattle.state_parts.specs.declared.profile.Profile.{Profile}
use Rattle.state_parts.specs.declared.registers.Registers.{Registers}
use Rattle.state_parts.specs.declared.sample.Sample.{Sample}
use Rattle.state_parts.specs.declared.settings.Settings.{Settings}
use Rattle.settle_permission.specs.Bits.{ce_high, hiz_high}
use Rattle.settle_levels.specs.Clamps.{fault_of}
use Rattle.settle_levels.specs.Comparators.{good_of}

-- "HIZ (EN_HIZ, or EN_EXTILIM with the pin high)"
abbrev pub hiz_of : Settings → Sample → Bool
hiz_of s x = s.enhiz || (s.enextilim && hiz_high x)

-- "Permission: input good, no HIZ (..), EN_CHG, CE low, no pin fault."
unfoldable pub permitted_of : Profile → Settings → Registers → Sample → Latches → Bool
permitted_of p s g x k = good_of k && not (hiz_of s x) && s.enchg && not (ce_high x) && not (fault_of p g)
