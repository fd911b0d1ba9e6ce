-- Wrong readers and writers, each this product's own with one thing changed, and that each breaks the format.
use Rattle.std.specs.Prelude.{ℕ, zero, suc, length, leb, eqb}
use Rattle.base.specs.Pick.{pick}
use Rattle.log_event.specs.declared.Event.{Event}
use Rattle.log_event.specs.declared.Event.TheVariants.{PowerOn, Set, Write, TakeFlags, Observe, Service, Reset, WriteRun, PowerOnResistors, ObserveTwo, PowerOnEdition, ReadFlags}
use Rattle.log_event.specs.declared.spelled.SpelledTwo.{SpelledTwo}
use Rattle.log_record.specs.Records.{Met, met, refused, end}
use Rattle.laws_format.specs.Readers.{Reader, Writer, Reads, Writes}
use Rattle.laws_format.specs.Ours.{our_read, our_write}
use Rattle.laws_format.specs.Deciding.{PlacesDecide}

-- another byte code: a service is 07 and a reset 06
abbrev pub swapped : Event → Event
swapped (PowerOn p) = PowerOn p
swapped (Set n v) = Set n v
swapped (Write a b) = Write a b
swapped TakeFlags = TakeFlags
swapped (Observe s) = Observe s
swapped Service = Reset
swapped Reset = Service
swapped (WriteRun a b) = WriteRun a b
swapped (PowerOnResistors r) = PowerOnResistors r
swapped (ObserveTwo t) = ObserveTwo t
swapped (PowerOnEdition v) = PowerOnEdition v
swapped (ReadFlags a) = ReadFlags a

-- what a reader answers, with another event or with another number for a refusal
abbrev pub changed : (Event → Event) → (ℕ → ℕ) → Met → Met
changed event number (met e next) = met (event e) next
changed event number (refused n place) = refused (number n) place
changed event number end = end

abbrev pub reads_swapped : Reader
reads_swapped bytes at = changed swapped (λ n. n) (our_read bytes at)

abbrev pub writes_swapped : Writer
writes_swapped e buffer = our_write (swapped e) buffer

-- 02, R-7: the second thermistor's value read after the bits
abbrev pub last_second : SpelledTwo → SpelledTwo
last_second t =
    let s = t.sample in
    record { sample = record { stamp = s.stamp; input = s.input; pack = s.pack; ibat = s.ibat; ts = s.ts; bits = t.second }; second = s.bits }

abbrev pub after_bits : Event → Event
after_bits (PowerOn p) = PowerOn p
after_bits (Set n v) = Set n v
after_bits (Write a b) = Write a b
after_bits TakeFlags = TakeFlags
after_bits (Observe s) = Observe s
after_bits Service = Service
after_bits Reset = Reset
after_bits (WriteRun a b) = WriteRun a b
after_bits (PowerOnResistors r) = PowerOnResistors r
after_bits (ObserveTwo t) = ObserveTwo (last_second t)
after_bits (PowerOnEdition v) = PowerOnEdition v
after_bits (ReadFlags a) = ReadFlags a

abbrev pub reads_after_bits : Reader
reads_after_bits bytes at = changed after_bits (λ n. n) (our_read bytes at)

-- reads at place 0 alone: 1 at every other place before the log's end
unfoldable pub reads_first : Reader
reads_first bytes zero = our_read bytes zero
reads_first bytes (suc at) = pick (leb (length bytes) (suc at)) end (refused 1 (suc at))

-- 1 for whatever can't be read
abbrev pub always_one : ℕ → ℕ
always_one n = 1

abbrev pub refuses_with_one : Reader
refuses_with_one bytes at = changed (λ e. e) always_one (our_read bytes at)

-- 3 for 2, and 2 for 3
abbrev pub three_for_two : ℕ → ℕ
three_for_two n = pick (eqb n 2) 3 (pick (eqb n 3) 2 n)

abbrev pub swaps_two_and_three : Reader
swaps_two_and_three bytes at = changed (λ e. e) three_for_two (our_read bytes at)

-- tells the record's start for what is refused with one number, and this product's place for all else
abbrev pub start_for : ℕ → ℕ → Met → Met
start_for number at (met e next) = met e next
start_for number at (refused n place) = refused n (pick (eqb n number) at place)
start_for number at end = end

abbrev pub tells_start : ℕ → Reader
tells_start number bytes at = start_for number at (our_read bytes at)

-- of 1, 2 and 3 the record's start isn't what decided it, and of 5 it isn't the length's first byte
pub record StartRefuted : Type 0 where
  pub one : ¬ PlacesDecide (tells_start 1)
  pub two : ¬ PlacesDecide (tells_start 2)
  pub three : ¬ PlacesDecide (tells_start 3)
  pub five : ¬ PlacesDecide (tells_start 5)

pub record FormatRefuted : Type 0 where
  pub other_code : ¬ Reads reads_swapped
  pub other_code_written : ¬ Writes writes_swapped
  pub second_after_bits : ¬ Reads reads_after_bits
  pub first_alone : ¬ Reads reads_first
  pub one_for_all : ¬ Reads refuses_with_one
  pub two_and_three : ¬ Reads swaps_two_and_three
  pub one_at_start : ¬ Reads (tells_start 1)
  pub two_at_start : ¬ Reads (tells_start 2)
  pub three_at_start : ¬ Reads (tells_start 3)
  pub five_at_start : ¬ Reads (tells_start 5)
