-- The paper's own lines, and a pair of logs to each of its words.
use mathlib.Core.Path.{◌≡◌, refl}
use mathlib.Core.List.{[], ◌∷◌}
use Prim.Native.Nat.{ℕ}
use native.Mathlib.Omega.{arith}
use Rattle.log_event.specs.declared.Event.TheVariants.{Service, Reset, Set}
use Rattle.log_pairs.specs.Comparing.{refused}
use Rattle.report_text.specs.Decimal.{decimal, decimal_by}
use Rattle.report_text.specs.Text.{line_text, headed_text, end_text}
use Rattle.laws_format.specs.Format.{SpellsAll, no-events, event-then, none}
use Rattle.laws_format.specs.Format as format
use Rattle.laws_format.specs.Unreadable.{NoRecord, cut_off, of_number, stopped}
use Rattle.laws_format.proofs.Examples.{paper-bytes}
use Rattle.laws_pairs.specs.Compared.{second-is-start, first-is-start, first-unreadable, second-unreadable, different}
use Rattle.laws_pairs.specs.Rows.{PairRows, PaperLines}
use Rattle.laws_pairs.proofs.Texts.{our-texts}

one-service : SpellsAll (Service ∷ []) (0x06 ∷ [])
one-service = event-then Service [] (0x06 ∷ []) [] paper-bytes.service no-events

cut : NoRecord 1 (0x02 ∷ []) 1
cut = stopped 1 2 0 (Set 0 0) [] _ _ [] [] (format.set 0 0) none (of_number 1 0 [] (cut_off [] tt (omega arith)))

pub pair-rows : PairRows
pair-rows = record {
  equal = second-is-start (Service ∷ []) (0x06 ∷ []) [] one-service;
  first_longer = second-is-start (Service ∷ []) (0x06 ∷ []) (0x00 ∷ []) one-service;
  second_longer = first-is-start (Service ∷ []) (0x06 ∷ []) (0x00 ∷ []) one-service (omega arith);
  inside_a_record = first-unreadable 1 1 [] [] (0x02 ∷ []) (0x02 ∷ 0x01 ∷ 0x05 ∷ []) no-events cut (omega arith);
  first_before_second = first-unreadable 4 0 (Service ∷ []) (0x06 ∷ []) (0x00 ∷ []) (0x02 ∷ []) one-service paper-bytes.kind_zero (omega arith);
  second_alone = second-unreadable 1 1 (Service ∷ []) Service (0x06 ∷ []) (0x06 ∷ []) [] (0x02 ∷ []) one-service paper-bytes.service cut;
  zero_in_first = first-unreadable 2 2 (Service ∷ []) (0x06 ∷ []) (0x02 ∷ 0x80 ∷ 0x00 ∷ []) (0x02 ∷ []) one-service paper-bytes.number_by_number (omega arith);
  fifth_in_second = second-unreadable 3 5 (Service ∷ []) Reset (0x06 ∷ []) (0x07 ∷ []) [] (0x02 ∷ 0x80 ∷ 0x80 ∷ 0x80 ∷ 0x80 ∷ 0x80 ∷ []) one-service paper-bytes.reset
      (stopped 3 2 4 (Set 0 0) [] _ _ [] _ (format.set 0 0) none (of_number 3 4 _ paper-bytes.five_high));
  length_in_first = first-unreadable 5 2 (Service ∷ []) (0x06 ∷ []) (0x08 ∷ 0x1B ∷ 0x21 ∷ []) (0x02 ∷ []) one-service paper-bytes.too_many_bytes (omega arith);
  different = different (Service ∷ []) Service Reset (0x06 ∷ []) (0x06 ∷ []) [] (0x07 ∷ []) [] one-service paper-bytes.service paper-bytes.reset
      (λ e. let z : ◌≡◌ {A = ℕ} 0 1 = cc in omega arith);
}

pub paper-lines : PaperLines
unfolding line_text headed_text end_text decimal decimal_by
paper-lines = record {
  first_line = (our-texts.line 1 (1 ∷ 0 ∷ 0 ∷ 0 ∷ 0 ∷ 3300 ∷ 1 ∷ 32 ∷ []) _).1 refl;
  second_line = (our-texts.line 2 (5 ∷ 0 ∷ 3 ∷ 1500 ∷ 8400 ∷ 3300 ∷ 1 ∷ 97 ∷ []) _).1 refl;
  last_line = (our-texts.ending 2 0 28 _).1 refl;
  too_long = (our-texts.ending 0 13 0 _).1 refl;
  parted = (our-texts.part (refused 14 2 1) (omega arith, omega arith) _).1 refl;
}
