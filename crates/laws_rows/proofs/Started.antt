-- The registers when a power-on begins, computed.
use Prim.Native.Nat.{◌%◌}
use mathlib.Core.Path.{◌≡◌, refl}
use mathlib.Core.Bool.{Bool, true}
use native.Mathlib.Omega.{arith}
use Rattle.state_settings.specs.Numbered.{setting_numbers, held_of}
use Rattle.state_start.specs.Values.{start_settings, start_state}
use Rattle.state_table.specs.Rows.{Field, fields, fields_of}
use Rattle.state_table.specs.Packed.{field_at}
use Rattle.state_table.proofs.Tested.{every, at, long}
use Rattle.state_fields.specs.Words.{put_at, with_word, put_in}
use Rattle.state_fields.specs.Held.{gathered, start_words}
use Rattle.report_registers.specs.Reads.{code_of, value_by, byte_by, read_of}
use Rattle.laws_rows.specs.Started.{StartsAsTheSheet, reads_reset, FixedReadResets}

pub starts-as-the-sheet : StartsAsTheSheet
unfolding read_of byte_by value_by code_of fields_of fields held_of setting_numbers start_state start_settings start_words gathered put_in with_word put_at
starts-as-the-sheet p = (
  (refl, (refl, (refl, (refl, (refl, (refl, (refl, (refl, (refl, (refl, (refl, (refl, (refl, (refl, (refl, (refl, (refl, (refl, (refl, (refl, (refl, tt))))))))))))))))))))),
  (refl, (refl, (refl, (refl, (refl, (refl, tt)))))),
)

abbrev reads : Field → Bool
reads f = reads_reset f.access f.reset

all_read : every reads fields ≡ true
unfolding fields
all_read = refl

pub fixed-read-resets : FixedReadResets
unfolding field_at
fixed-read-resets number = at reads fields (number % 147) all_read (rw long (omega arith))
