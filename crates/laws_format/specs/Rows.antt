-- The paper's own bytes: what its examples spell, and what can't be read.
use Rattle.std.specs.Prelude.{ℕ, ◌<◌, ◌≡◌, List, [], ◌∷◌, ◌↔◌, ◌⊎◌, pos, negsuc}
use Rattle.log_event.specs.declared.Event.TheVariants.{PowerOn, Set, Write, TakeFlags, Observe, Service, Reset, WriteRun, PowerOnResistors, ObserveTwo, PowerOnEdition, ReadFlags}
use Rattle.laws_format.specs.Format.{Groups, Ibat, NoKind, Spells}
use Rattle.laws_format.specs.Unreadable.{NoNumber, NoRecord}
use Rattle.laws_format.specs.Readers.{SmallNumbers}

pub record PaperBytes : Type 0 where
  -- "01 02 05 04 00 00 94 23 90 1C A0 38 A0 99 02 00 05 E8 07 E0 5D B0 3B 00 D8 AD 03 00": a power-on and an observation
  pub power_on : Spells
      (PowerOn (record { cell = 2; vchg = 5; ichg = 4; ohms = 0; stamp = 0; ceiling = 4500; trickle = 3600; precharge = 7200; fast = 36000; watchdog = 0 }))
      (0x01 ∷ 0x02 ∷ 0x05 ∷ 0x04 ∷ 0x00 ∷ 0x00 ∷ 0x94 ∷ 0x23 ∷ 0x90 ∷ 0x1C ∷ 0xA0 ∷ 0x38 ∷ 0xA0 ∷ 0x99 ∷ 0x02 ∷ 0x00 ∷ [])
  pub observation : Spells
      (Observe (record { stamp = 1000; input = 12000; pack = 7600; ibat = pos 0; ts = 55000; bits = 0 }))
      (0x05 ∷ 0xE8 ∷ 0x07 ∷ 0xE0 ∷ 0x5D ∷ 0xB0 ∷ 0x3B ∷ 0x00 ∷ 0xD8 ∷ 0xAD ∷ 0x03 ∷ 0x00 ∷ [])
  -- "IBAT -1 logs 01"
  pub minus_one : Ibat (negsuc 0) 0x01
  -- "number `80 00` is 2"
  pub zero_group : NoNumber 2 (0x80 ∷ 0x00 ∷ []) 1
  -- "number by number": `02 80 00` is 2, not 1
  pub number_by_number : NoRecord 2 (0x02 ∷ 0x80 ∷ 0x00 ∷ []) 2
  -- "4,294,967,295" is the largest, and one more is 3
  pub the_largest : Groups 4294967295 (0xFF ∷ 0xFF ∷ 0xFF ∷ 0xFF ∷ 0x0F ∷ [])
  pub one_more : NoNumber 3 (0x80 ∷ 0x80 ∷ 0x80 ∷ 0x80 ∷ 0x10 ∷ []) 4
  -- "five high-bit groups are 3 even at the log's end"; four there are 1, and four before a zero are 2
  pub five_high : NoNumber 3 (0x80 ∷ 0x80 ∷ 0x80 ∷ 0x80 ∷ 0x80 ∷ []) 4
  pub four_high : NoNumber 1 (0xFF ∷ 0xFF ∷ 0xFF ∷ 0xFF ∷ []) 4
  pub four_and_zero : NoNumber 2 (0x80 ∷ 0x80 ∷ 0x80 ∷ 0x80 ∷ 0x00 ∷ []) 4
  -- "kind not 1-7", nor 02's 8 to 11 and 14
  pub kinds_listed : (b : ℕ) → NoKind b ↔ ((b ≡ 0) ⊎ (((11 < b) × (b < 14)) ⊎ (14 < b)))
  pub kind_zero : NoRecord 4 (0x00 ∷ []) 0
  pub kind_twelve : NoRecord 4 (0x0C ∷ []) 0
  -- a record of each other kind: setting 1 to 8,400, byte 0x42 to address 0x1B, and those with no numbers
  pub set : Spells (Set 1 8400) (0x02 ∷ 0x01 ∷ 0xD0 ∷ 0x41 ∷ [])
  pub write : Spells (Write 0x1B 0x42) (0x03 ∷ 0x1B ∷ 0x42 ∷ [])
  pub take_flags : Spells TakeFlags (0x04 ∷ [])
  pub service : Spells Service (0x06 ∷ [])
  pub reset : Spells Reset (0x07 ∷ [])
  -- 02, R-5: the example's power-on by the maker's resistors of its codes, 6,040, 13,700 and 10,500 ohms
  pub power_on_resistors : Spells
      (PowerOnResistors (record { cell = 6040; vchg = 13700; ichg = 10500; ohms = 0; stamp = 0; ceiling = 4500; trickle = 3600; precharge = 7200; fast = 36000; watchdog = 0 }))
      (0x09 ∷ 0x98 ∷ 0x2F ∷ 0x84 ∷ 0x6B ∷ 0x84 ∷ 0x52 ∷ 0x00 ∷ 0x00 ∷ 0x94 ∷ 0x23 ∷ 0x90 ∷ 0x1C ∷ 0xA0 ∷ 0x38 ∷ 0xA0 ∷ 0x99 ∷ 0x02 ∷ 0x00 ∷ [])
  -- 02, R-7: the example's observation with 40,000 of a second thermistor, and with 7 for the bits behind it
  pub observe_two : Spells
      (ObserveTwo (record { sample = record { stamp = 1000; input = 12000; pack = 7600; ibat = pos 0; ts = 55000; bits = 7 }; second = 40000 }))
      (0x0A ∷ 0xE8 ∷ 0x07 ∷ 0xE0 ∷ 0x5D ∷ 0xB0 ∷ 0x3B ∷ 0x00 ∷ 0xD8 ∷ 0xAD ∷ 0x03 ∷ 0xC0 ∷ 0xB8 ∷ 0x02 ∷ 0x07 ∷ [])
  -- 02, R-8: the example's power-on with a watchdog of 160 seconds, and with the second edition behind it
  pub power_on_edition : Spells
      (PowerOnEdition (record { profile = record { cell = 2; vchg = 5; ichg = 4; ohms = 0; stamp = 0; ceiling = 4500; trickle = 3600; precharge = 7200; fast = 36000; watchdog = 160 }; edition = 2 }))
      (0x0B ∷ 0x02 ∷ 0x05 ∷ 0x04 ∷ 0x00 ∷ 0x00 ∷ 0x94 ∷ 0x23 ∷ 0x90 ∷ 0x1C ∷ 0xA0 ∷ 0x38 ∷ 0xA0 ∷ 0x99 ∷ 0x02 ∷ 0xA0 ∷ 0x01 ∷ 0x02 ∷ [])
  -- 02, R-3: bytes 0x42 and 0x00 to addresses 0x1B and 0x1C; the flags of 0x20
  pub write_run : Spells
      (WriteRun 0x1B (record { length = 2; w0 = 0x42; w1 = 0; w2 = 0; w3 = 0; w4 = 0; w5 = 0; w6 = 0; w7 = 0 }))
      (0x08 ∷ 0x1B ∷ 0x02 ∷ 0x42 ∷ 0x00 ∷ [])
  pub read_flags : Spells (ReadFlags 0x20) (0x0E ∷ 0x20 ∷ [])
  -- "length 1-32": 0 and 33 are 5, at the length; `A1 00`, a zero last group, is 2; one byte of two is 1 at the log's end
  pub no_bytes : NoRecord 5 (0x08 ∷ 0x1B ∷ 0x00 ∷ []) 2
  pub too_many_bytes : NoRecord 5 (0x08 ∷ 0x1B ∷ 0x21 ∷ []) 2
  pub zero_in_length : NoRecord 2 (0x08 ∷ 0x1B ∷ 0xA1 ∷ 0x00 ∷ []) 3
  pub cut_bytes : NoRecord 1 (0x08 ∷ 0x1B ∷ 0x02 ∷ 0x42 ∷ []) 4
  -- and so a run of no bytes is an event of a program's that has no spelling: the writer gives 5
  pub unspelled : let e = WriteRun 0x1B (record { length = 0; w0 = 0; w1 = 0; w2 = 0; w3 = 0; w4 = 0; w5 = 0; w6 = 0; w7 = 0 }) in SmallNumbers e × ((spelling : List ℕ) → ¬ Spells e spelling)
