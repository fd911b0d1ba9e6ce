-- Each wrong reader and writer breaks the format: a log or a buffer at which it answers another number.
use Prim.Native.Nat.{ℕ, ◌+◌}
use mathlib.Core.Path.{◌≡◌, refl, ap}
use mathlib.Core.List.{List, [], ◌∷◌}
use native.Mathlib.Omega.{arith}
use lib.ListN.{get_or}
use borrow.Author.Rules.{rules}
use Rattle.base.specs.Writing.{Wrote, written, put}
use Rattle.log_number.specs.Number.{read_number, read_groups}
use Rattle.log_number.specs.Promises.{Bytes}
use Rattle.log_number.proofs.Strings.{bytes-each}
use Rattle.log_event.specs.Items.{values}
use Rattle.log_event.specs.Events.{kind_of, items_of, event_of}
use Rattle.log_event.specs.Kinds.{kind_byte}
use Rattle.log_event.specs.declared.Event.TheVariants.{Service, ObserveTwo}
use Rattle.log_raw.specs.Raw.{read_raw}
use Rattle.log_record.specs.Items.{spell_items, read_items}
use Rattle.log_record.specs.Records.{Met, met, refused, end, spell_event, event_written, event_put, read_record, record_at}
use Rattle.laws_format.specs.Wrong.{reads_first, tells_start, StartRefuted, FormatRefuted}
use Rattle.laws_format.proofs.Deciding.{format-decides}
use Rattle.laws_format.proofs.Examples.{paper-bytes}

-- what is looked at: an event's kind, or a refusal's number and 10; the first byte that is written
abbrev number_of : Met → ℕ
number_of (met e next) = kind_byte (kind_of e)
number_of (refused n place) = 10 + n
number_of end = 0

-- the sixth number of the event that is read
abbrev sixth : Met → ℕ
sixth (met e next) = get_or (values (items_of e)) 5 0
sixth (refused n place) = 0
sixth end = 0

abbrev first_byte : Wrote × List ℕ → ℕ
first_byte w = get_or w.1 0 0

no-kind-there : Bytes (0x00 ∷ [])
no-kind-there = bytes-each (0x00 ∷ []) (search rules)

cut-off-there : Bytes (0x02 ∷ [])
cut-off-there = bytes-each (0x02 ∷ []) (search rules)

zero-group-there : Bytes (0x02 ∷ 0x80 ∷ 0x00 ∷ [])
zero-group-there = bytes-each (0x02 ∷ 0x80 ∷ 0x00 ∷ []) (search rules)

no-bytes-there : Bytes (0x08 ∷ 0x1B ∷ 0x00 ∷ [])
no-bytes-there = bytes-each (0x08 ∷ 0x1B ∷ 0x00 ∷ []) (search rules)

five-high-there : Bytes (0x02 ∷ 0x80 ∷ 0x80 ∷ 0x80 ∷ 0x80 ∷ 0x80 ∷ [])
five-high-there = bytes-each (0x02 ∷ 0x80 ∷ 0x80 ∷ 0x80 ∷ 0x80 ∷ 0x80 ∷ []) (search rules)

pub start-refuted : StartRefuted
unfolding record_at read_record read_items read_raw read_number read_groups
start-refuted = record {
  -- the log 02, of one byte: 0 is not its end
  one = λ d. let z : ◌≡◌ {A = ℕ} 0 1 = (d.ends (0x02 ∷ []) cut-off-there 0 1 0 refl).0 refl in omega arith;
  -- the log 02 80 00: the kind's byte is no zero
  two = λ d. let z : ◌≡◌ {A = ℕ} 2 0 = (d.zero (0x02 ∷ 0x80 ∷ 0x00 ∷ []) zero-group-there 0 0 refl).0 in omega arith;
  -- the log 02 80 80 80 80 80: no number has its fifth byte at 0
  three = λ d. omega (arith, (d.fifth (0x02 ∷ 0x80 ∷ 0x80 ∷ 0x80 ∷ 0x80 ∷ 0x80 ∷ []) five-high-there 0 0 refl).2);
  -- the log 08 1B 00: no length starts at 0
  five = λ d. omega (arith, (d.first (0x08 ∷ 0x1B ∷ 0x00 ∷ []) no-bytes-there 0 0 refl).starts.counts);
}

pub format-refuted : FormatRefuted
unfolding reads_first record_at read_record read_items read_number read_groups event_of spell_event spell_items event_written event_put written put
format-refuted = record {
  -- the log 06 is a reset
  other_code = λ d. let z : ◌≡◌ {A = ℕ} 7 6 = ap number_of (d.back Service (0x06 ∷ []) paper-bytes.service [] []) in omega arith;
  -- a service is written as 07
  other_code_written = λ d. let z : ◌≡◌ {A = ℕ} 7 6 = ap first_byte (d.written Service (0x06 ∷ []) paper-bytes.service (0x00 ∷ []) (omega arith)) in omega arith;
  -- 02, R-7's bytes, which have 40,000 and then 7
  second_after_bits = λ d. let z : ◌≡◌ {A = ℕ} 7 40000 = ap sixth (d.back (ObserveTwo _) _ paper-bytes.observe_two [] []) in omega arith;
  -- the log 06 06 at place 1
  first_alone = λ d. let z : ◌≡◌ {A = ℕ} 11 6 = ap number_of (d.back Service (0x06 ∷ []) paper-bytes.service (0x06 ∷ []) []) in omega arith;
  -- the log 00
  one_for_all = λ d. let z : ◌≡◌ {A = ℕ} 11 14 = ap number_of ((d.refuses (0x00 ∷ []) no-kind-there 0 4 0).1 (record { after = 0; row = paper-bytes.kind_zero; counts = refl })) in omega arith;
  -- the log 02 80 00
  two_and_three = λ d. let z : ◌≡◌ {A = ℕ} 13 12 = ap number_of ((d.refuses (0x02 ∷ 0x80 ∷ 0x00 ∷ []) zero-group-there 0 2 2).1 (record { after = 2; row = paper-bytes.number_by_number; counts = refl })) in omega arith;
  one_at_start = λ d. start-refuted.one (format-decides (tells_start 1) d);
  two_at_start = λ d. start-refuted.two (format-decides (tells_start 2) d);
  three_at_start = λ d. start-refuted.three (format-decides (tells_start 3) d);
  five_at_start = λ d. start-refuted.five (format-decides (tells_start 5) d);
}
