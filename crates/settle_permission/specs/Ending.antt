-- 01, "Settling, in order": what a sample must show for a charge to end.
use Rattle.std.specs.Prelude.{Bool, not, ◌&&◌, pos}
use Rattle.std.specs.Int.Signed.{lt_z}
use Rattle.state_parts.specs.declared.sample.Sample.{Sample}
use Rattle.state_parts.specs.declared.settings.Settings.{Settings}
use Rattle.settle_permission.specs.Bits.{regulated_of}

-- "EN_TERM, IBAT < ITERM, no regulation"
unfoldable pub ending_of : Settings → Sample → Bool
ending_of s x = s.enterm && lt_z x.ibat (pos s.iterm) && not (regulated_of x)
