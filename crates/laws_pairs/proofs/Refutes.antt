-- Each wrong comparer breaks the paper's words: a pair of logs at which it answers otherwise. Each wrong text is no number's and no line's.
use Prim.Native.Nat.{ℕ, zero, suc}
use mathlib.Core.Path.{◌≡◌, sym, ap, ◌∙◌}
use mathlib.Core.List.{List, ◌∷◌}
use native.Mathlib.Omega.{arith}
use lib.ListN.{length, get_or}
use borrow.Author.Rules.{rules}
use Rattle.log_number.specs.Number.{read_number, read_groups}
use Rattle.log_number.proofs.Strings.{EachByte, bytes-each}
use Rattle.log_event.specs.Events.{event_of}
use Rattle.log_record.specs.Items.{read_items}
use Rattle.log_record.specs.Records.{read_record, record_at}
use Rattle.log_pairs.specs.Same.{same_event}
use Rattle.log_pairs.specs.Comparing.{Answer, first, second, refused, compare_from, compare_of}
use Rattle.report_text.specs.Decimal.{decimal, decimal_by}
use Rattle.report_text.specs.Text.{line_text}
use Rattle.report_text.proofs.Decimals.{one-long}
use Rattle.report_text.proofs.Digits.{no-leading-zero}
use Rattle.report_text.proofs.ReadBack.{read_line, read_back}
use Rattle.laws_pairs.specs.Compared.{SideBySide, Comparer, Compares}
use Rattle.laws_pairs.specs.Text.{Decimal, LineText}
use Rattle.laws_pairs.specs.Wrong.{reads_on, second_before_first, other_offset, counts_from_zero, never_same, by_bytes, PairsRefuted}
use Rattle.laws_pairs.proofs.Comparing.{one-compared}
use Rattle.laws_pairs.proofs.Texts.{number_is, line-is}
use Rattle.laws_pairs.proofs.Examples.{pair-rows}

-- ---- comparers
must : (compare : Comparer) → Compares compare → (a b : List ℕ) → EachByte a → EachByte b → {x : Answer} → SideBySide a b x → compare a b ≡ x
must compare d a b ha hb p = let ba = bytes-each a ha in let bb = bytes-each b hb in one-compared a b ba bb _ _ (d a b ba bb) p

-- what is looked at: the refusal's number, the record's, and the place
abbrev code_of : Answer → ℕ
code_of (first at) = 0
code_of (second at) = 0
code_of (refused n number place) = n

abbrev record_of : Answer → ℕ
record_of (first at) = 0
record_of (second at) = 0
record_of (refused n number place) = number

abbrev place_of : Answer → ℕ
place_of (first at) = at
place_of (second at) = at
place_of (refused n number place) = place

-- ---- texts
leading-zero : (n b : ℕ) (text : List ℕ) → ¬ Decimal n (48 ∷ b ∷ text)
leading-zero zero b text d = let k = ap length (number_is d) in omega (arith, one-long 0 (omega arith))
leading-zero (suc n) b text d = let k = ap (λ l. get_or l 0 0) (number_is d) in omega (arith, no-leading-zero (suc n) (omega arith))

-- a line is that of the numbers which are read from it
again : {ns text : List ℕ} → LineText ns text → line_text (read_line 0 text) ≡ text
again p = ap (λ t. line_text (read_line 0 t)) (line-is p) ∙ ap line_text (read_back _) ∙ sym (line-is p)

pub pairs-refuted : PairsRefuted
unfolding record_at read_record read_items read_number read_groups event_of same_event compare_of compare_from read_line line_text decimal decimal_by
pairs-refuted = record {
  -- 06 00 and 06
  onward = λ number d. let z : ◌≡◌ {A = ℕ} 4 0 = ap code_of (must (reads_on number) d _ _ (search rules) (search rules) pair-rows.first_longer) in omega arith;
  -- 06 00 and 06 02
  order = λ d. let z : ◌≡◌ {A = ℕ} 1 4 = ap code_of (must second_before_first d _ _ (search rules) (search rules) pair-rows.first_before_second) in omega arith;
  -- 06 06 and 06 07
  count = λ d. let z : ◌≡◌ {A = ℕ} 1 2 = ap record_of (must counts_from_zero d _ _ (search rules) (search rules) pair-rows.different) in omega arith;
  -- 06 02 80 00 and 06 02
  offset = λ d. let z : ◌≡◌ {A = ℕ} 2 3 = ap place_of (must other_offset d _ _ (search rules) (search rules) pair-rows.zero_in_first) in omega arith;
  -- 06 and 06
  equal = λ d. let z : ◌≡◌ {A = ℕ} 14 0 = ap code_of (must never_same d _ _ (search rules) (search rules) pair-rows.equal) in omega arith;
  -- 02 and 02 01 05
  bytes = λ d. let z : ◌≡◌ {A = ℕ} 0 1 = ap code_of (must by_bytes d _ _ (search rules) (search rules) pair-rows.inside_a_record) in omega arith;
  leading_zero = leading-zero;
  two_spaces = λ ns p. let z : ◌≡◌ {A = ℕ} 48 32 = ap (λ l. get_or l 2 0) (again p) in omega arith;
  space_after = λ ns p. let z : ◌≡◌ {A = ℕ} 48 10 = ap (λ l. get_or l 4 0) (again p) in omega arith;
}
