-- The definitions of this crate at values that 01 names.
use mathlib.Core.Path.{◌≡◌, refl}
use mathlib.Core.Bool.{true, false}
use Rattle.state_parts.specs.Edges.{flags_number, power_on_flags, pulse_of}
use Rattle.state_parts.specs.declared.flags.Edges.{Edges}

-- the watchdog's edge alone
abbrev expiry : Edges
expiry = record {
  good = false;
  lost = false;
  iindpm = false;
  vindpm = false;
  thermal = false;
  expired = true;
  phase = false;
  band = false;
  inputover = false;
  shutdown = false;
  packover = false;
  limit = false;
}

-- "Power-on sets flags to 32": bit 5 alone
flags-at-power-on : flags_number expiry ≡ power_on_flags
unfolding flags_number
flags-at-power-on = refl

-- a mask bit of 1 suppresses its own edge and no other
masked-pulse : (pulse_of expiry 32 ≡ false) × (pulse_of expiry 4063 ≡ true)
unfolding pulse_of
masked-pulse = (refl, refl)
