-- Wrong comparers, each this product's own with one thing changed, and wrong texts, and that each breaks what the paper says.
use Rattle.std.specs.Prelude.{ℕ, suc, ◌-◌, List, [], ◌∷◌, eqb}
use Rattle.base.specs.Pick.{pick}
use Rattle.log_event.specs.Kinds.{kinds}
use Rattle.log_record.specs.Records.{Met, met, end, record_at}
use Rattle.log_record.specs.Records as log
use Rattle.log_pairs.specs.Comparing.{Answer, first, second, refused, stop_at}
use Rattle.laws_pairs.specs.Compared.{Comparer, Compares}
use Rattle.laws_pairs.specs.Text.{Decimal, LineText}
use Rattle.laws_pairs.specs.Ours.{our_compare}

-- reads on after the shorter log's end: the number of a rest that can't be read, with this record number
abbrev pub rest_read : ℕ → Met → Answer → Answer
rest_read number (met e next) answer = answer
rest_read number (log.refused n place) answer = refused n number place
rest_read number end answer = answer

abbrev pub answer_on : ℕ → List ℕ → List ℕ → Answer → Answer
answer_on number a b (first at) = rest_read number (record_at kinds a at) (first at)
answer_on number a b (second at) = rest_read number (record_at kinds b at) (second at)
answer_on number a b (refused n k place) = refused n k place

abbrev pub reads_on : ℕ → Comparer
reads_on number a b = answer_on number a b (our_compare a b)

-- the second log's refusal before the first's
abbrev pub refusal_first : Answer → Answer → Answer
refusal_first (first at) other = first at
refusal_first (second at) other = second at
refusal_first (refused n number place) other = other

abbrev pub second_before_first : Comparer
second_before_first a b = refusal_first (our_compare a b) (our_compare b a)

-- the offset in the other log, where neither can be read
abbrev pub with_offset : Answer → Answer → Answer
with_offset (refused n number place) (refused m count other) = refused n number other
with_offset (refused n number place) (first at) = refused n number place
with_offset (refused n number place) (second at) = refused n number place
with_offset (first at) other = first at
with_offset (second at) other = second at

abbrev pub other_offset : Comparer
other_offset a b = with_offset (our_compare a b) (our_compare b a)

-- counts records from 0
abbrev pub one_less : Answer → Answer
one_less (first at) = first at
one_less (second at) = second at
one_less (refused n number place) = refused n (number - 1) place

abbrev pub counts_from_zero : Comparer
counts_from_zero a b = one_less (our_compare a b)

-- takes no two records for the same, so that equal ones give 14
abbrev pub never_same : Comparer
never_same a b = stop_at kinds a b 1 0

-- compares bytes and not records, so that a log that ends inside a record can be the other's start
abbrev pub bytes_from : ℕ → List ℕ → List ℕ → Answer → Answer
bytes_from at a [] differ = first at
bytes_from at [] (y ∷ b) differ = second at
bytes_from at (x ∷ a) (y ∷ b) differ = pick (eqb x y) (bytes_from (suc at) a b differ) differ

abbrev pub by_bytes : Comparer
by_bytes a b = bytes_from 0 a b (our_compare a b)

pub record PairsRefuted : Type 0 where
  pub onward : (number : ℕ) → ¬ Compares (reads_on number)
  pub order : ¬ Compares second_before_first
  pub offset : ¬ Compares other_offset
  pub count : ¬ Compares counts_from_zero
  pub equal : ¬ Compares never_same
  pub bytes : ¬ Compares by_bytes
  -- a text of two digits or more whose first is 0 is no number's
  pub leading_zero : (n b : ℕ) (text : List ℕ) → ¬ Decimal n (48 ∷ b ∷ text)
  -- "1  2" with two spaces, and "1 2 " with one after the last number, are no line
  pub two_spaces : (ns : List ℕ) → ¬ LineText ns (49 ∷ 32 ∷ 32 ∷ 50 ∷ 10 ∷ [])
  pub space_after : (ns : List ℕ) → ¬ LineText ns (49 ∷ 32 ∷ 50 ∷ 32 ∷ 10 ∷ [])
