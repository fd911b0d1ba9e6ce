-- 01: "Bits: 1 CE high, 2 ILIM_HIZ pin high, 4 IINDPM, 8 VINDPM, 16 thermal regulation, 32 thermal shutdown."
use Rattle.std.specs.Prelude.{◌/◌, ◌%◌, Bool, ◌||◌, eqb}
use Rattle.state_parts.specs.declared.sample.Sample.{Sample}

abbrev pub ce_high : Sample → Bool
ce_high x = eqb (x.bits % 2) 1

abbrev pub hiz_high : Sample → Bool
hiz_high x = eqb (x.bits / 2 % 2) 1

abbrev pub iindpm_of : Sample → Bool
iindpm_of x = eqb (x.bits / 4 % 2) 1

abbrev pub vindpm_of : Sample → Bool
vindpm_of x = eqb (x.bits / 8 % 2) 1

abbrev pub thermal_of : Sample → Bool
thermal_of x = eqb (x.bits / 16 % 2) 1

abbrev pub shutdown_of : Sample → Bool
shutdown_of x = eqb (x.bits / 32 % 2) 1

-- 01: "while the old sample shows any regulation", "no regulation"
unfoldable pub regulated_of : Sample → Bool
regulated_of x = iindpm_of x || vindpm_of x || thermal_of x
