-- The paper's own bytes, by the format.
use Prim.Native.Nat.{ℕ, suc, ◌+◌}
use mathlib.Core.Path.{◌≡◌, refl}
use mathlib.Core.List.{List, [], ◌∷◌}
use mathlib.Core.Logic.{inl, inr}
use native.Mathlib.Omega.{arith}
use borrow.Author.Rules.{rules}
use Rattle.log_number.specs.Number.{spell, groups}
use Rattle.c_words.specs.Words.{bytes_of}
use Rattle.log_raw.specs.Raw.{spell_raw, has_spelling, all_zero}
use Rattle.log_raw.specs.Struct.{raw_of}
use Rattle.log_raw.specs.declared.RawBytes.{RawBytes}
use Rattle.log_event.specs.Items.{Item, num, raw, values}
use Rattle.log_event.specs.declared.Event.TheVariants.{PowerOn, Set, Write, TakeFlags, Observe, Service, Reset, WriteRun, PowerOnResistors, ObserveTwo, PowerOnEdition, ReadFlags}
use Rattle.log_record.specs.Items.{spell_items}
use Rattle.log_record.specs.Records.{spell_event}
use Rattle.laws_format.specs.Format.{Listed, Spells, AllSmall, last, none, one, below-zero}
use Rattle.laws_format.specs.Format as format
use Rattle.laws_format.specs.Unreadable.{cut_off, five-high, too-large, zero-last, NoRaw, no_length, other-length, cut-bytes, of_number, of-raw, NoRecord, no_kind, stopped}
use Rattle.laws_format.specs.Rows.{PaperBytes}
use Rattle.laws_format.proofs.Formats.{grouped, spelled, one-spelling}
use Rattle.laws_format.proofs.KindsListed.{kinds-listed}

-- what stands behind a run's address
at_length : (n place : ℕ) (left : List ℕ) → NoRaw 32 n left place → NoRecord n (0x08 ∷ 0x1B ∷ left) (suc (1 + place))
at_length n place left bad = stopped n 8 place (WriteRun 0x1B none-held) (num 0x1B ∷ []) [] (raw (raw_of none-held)) (0x1B ∷ []) left (format.write-run 0x1B none-held)
    (one 0x1B [] (0x1B ∷ []) [] (omega arith) (last 0x1B (omega arith)) none) (of-raw 8 n place left bad)
  where
    none-held : RawBytes
    none-held = record { length = 0; w0 = 0; w1 = 0; w2 = 0; w3 = 0; w4 = 0; w5 = 0; w6 = 0; w7 = 0 }

-- a run of no bytes: its numbers are small, and nothing holds it
small-run : (kind : ℕ) (is : List Item) (run : RawBytes) → AllSmall (values (num 0x1B ∷ raw (raw_of run) ∷ [])) → Listed (WriteRun 0x1B run) kind is → AllSmall (values is)
small-run kind is run small (format.write-run a r) = small

no-bytes : (run : RawBytes) → run.length ≡ 0 → (spelling : List ℕ) → ¬ Spells (WriteRun 0x1B run) spelling
no-bytes run e spelling s =
    let held = ((one-spelling.some (WriteRun 0x1B run)).1 (spelling, s) 8 (num 0x1B ∷ raw (raw_of run) ∷ []) (format.write-run 0x1B run)).1.0.1 in
    omega (arith, held.long, held.some, e)

pub paper-bytes : PaperBytes
unfolding spell_event spell_items spell_raw bytes_of has_spelling all_zero spell groups
paper-bytes = record {
  power_on = spelled (PowerOn _) (record { fits = search rules; sound = refl });
  observation = spelled (Observe _) (record { fits = search rules; sound = refl });
  minus_one = below-zero 0;
  zero_group = zero-last (0x80 ∷ []) [] (search rules) (omega arith) (omega arith);
  number_by_number = stopped 2 2 1 _ [] _ _ [] _ (format.set 0 0) none (of_number 2 1 _ (zero-last (0x80 ∷ []) [] (search rules) (omega arith) (omega arith)));
  the_largest = grouped 4294967295;
  one_more = too-large 4294967296 (0x80 ∷ 0x80 ∷ 0x80 ∷ 0x80 ∷ 0x10 ∷ []) [] (grouped 4294967296) (omega arith) refl;
  five_high = five-high (0x80 ∷ 0x80 ∷ 0x80 ∷ 0x80 ∷ 0x80 ∷ []) [] (search rules) refl;
  four_high = cut_off (0xFF ∷ 0xFF ∷ 0xFF ∷ 0xFF ∷ []) (search rules) (omega arith);
  four_and_zero = zero-last (0x80 ∷ 0x80 ∷ 0x80 ∷ 0x80 ∷ []) [] (search rules) (omega arith) (omega arith);
  kinds_listed = kinds-listed;
  kind_zero = no_kind 0 [] ((kinds-listed 0).1 (inl refl));
  kind_twelve = no_kind 12 [] ((kinds-listed 12).1 (inr (inl (omega arith, omega arith))));
  set = spelled (Set 1 8400) (record { fits = search rules; sound = refl });
  write = spelled (Write 0x1B 0x42) (record { fits = search rules; sound = refl });
  take_flags = spelled TakeFlags (record { fits = tt; sound = refl });
  service = spelled Service (record { fits = tt; sound = refl });
  reset = spelled Reset (record { fits = tt; sound = refl });
  power_on_resistors = spelled (PowerOnResistors _) (record { fits = search rules; sound = refl });
  observe_two = spelled (ObserveTwo _) (record { fits = search rules; sound = refl });
  power_on_edition = spelled (PowerOnEdition _) (record { fits = search rules; sound = refl });
  write_run = spelled (WriteRun _ _) (record { fits = (search rules, (record { low = search rules; small = search rules }, tt)); sound = refl });
  read_flags = spelled (ReadFlags _) (record { fits = search rules; sound = refl });
  no_bytes = at_length 5 0 _ (other-length 0 (0x00 ∷ []) [] (omega arith) (last 0 (omega arith)) (inl refl));
  too_many_bytes = at_length 5 0 _ (other-length 33 (0x21 ∷ []) [] (omega arith) (last 33 (omega arith)) (inr (omega arith)));
  zero_in_length = at_length 2 1 _ (no_length 2 1 _ (zero-last (0xA1 ∷ []) [] (search rules) (omega arith) (omega arith)));
  cut_bytes = at_length 1 2 _ (cut-bytes 2 (0x02 ∷ []) (0x42 ∷ []) (omega arith) (last 2 (omega arith)) (omega arith) (omega arith) (omega arith));
  unspelled = (λ kind is l. small-run kind is _ (search rules) l, no-bytes _ refl);
}
