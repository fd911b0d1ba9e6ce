-- The paper's own lines, and for each of its words on two logs a pair of which it speaks.
use Rattle.std.specs.Prelude.{[], ◌∷◌}
use Rattle.log_pairs.specs.Comparing.{first, second, refused}
use Rattle.laws_pairs.specs.Compared.{SideBySide}
use Rattle.laws_pairs.specs.Text.{LineText, EndText, PartText}

pub record PairRows : Type 0 where
  -- "equal logs": an empty part of the first
  pub equal : SideBySide (0x06 ∷ []) (0x06 ∷ []) (first 1)
  -- "the rest isn't read": 00 is no kind
  pub first_longer : SideBySide (0x06 ∷ 0x00 ∷ []) (0x06 ∷ []) (first 1)
  pub second_longer : SideBySide (0x06 ∷ []) (0x06 ∷ 0x00 ∷ []) (second 1)
  -- a log that ends inside a record, though its bytes start the other
  pub inside_a_record : SideBySide (0x02 ∷ []) (0x02 ∷ 0x01 ∷ 0x05 ∷ []) (refused 1 1 1)
  -- "first log before second": 4 and 1
  pub first_before_second : SideBySide (0x06 ∷ 0x00 ∷ []) (0x06 ∷ 0x02 ∷ []) (refused 4 2 1)
  pub second_alone : SideBySide (0x06 ∷ 0x06 ∷ []) (0x06 ∷ 0x02 ∷ []) (refused 1 2 2)
  -- the offset is one in the log that can't be read: in the first a zero group, though the second ends sooner; in the second the fifth group
  pub zero_in_first : SideBySide (0x06 ∷ 0x02 ∷ 0x80 ∷ 0x00 ∷ []) (0x06 ∷ 0x02 ∷ []) (refused 2 2 3)
  pub fifth_in_second : SideBySide (0x06 ∷ 0x07 ∷ []) (0x06 ∷ 0x02 ∷ 0x80 ∷ 0x80 ∷ 0x80 ∷ 0x80 ∷ 0x80 ∷ []) (refused 3 2 6)
  -- 02, R-3: the reader's 5 "counts wherever 01 says 1-4": a run of 33 bytes in the first, at its length
  pub length_in_first : SideBySide (0x06 ∷ 0x08 ∷ 0x1B ∷ 0x21 ∷ []) (0x06 ∷ 0x02 ∷ []) (refused 5 2 3)
  -- "Different records give 14, record number and offset"
  pub different : SideBySide (0x06 ∷ 0x06 ∷ []) (0x06 ∷ 0x07 ∷ []) (refused 14 2 1)

pub record PaperLines : Type 0 where
  -- "1 1 0 0 0 0 3300 1 32"
  pub first_line : LineText
      (1 ∷ 1 ∷ 0 ∷ 0 ∷ 0 ∷ 0 ∷ 3300 ∷ 1 ∷ 32 ∷ [])
      (49 ∷ 32 ∷ 49 ∷ 32 ∷ 48 ∷ 32 ∷ 48 ∷ 32 ∷ 48 ∷ 32 ∷ 48 ∷ 32 ∷ 51 ∷ 51 ∷ 48 ∷ 48 ∷ 32 ∷ 49 ∷ 32 ∷ 51 ∷ 50 ∷ 10 ∷ [])
  -- "2 5 0 3 1500 8400 3300 1 97"
  pub second_line : LineText
      (2 ∷ 5 ∷ 0 ∷ 3 ∷ 1500 ∷ 8400 ∷ 3300 ∷ 1 ∷ 97 ∷ [])
      (50 ∷ 32 ∷ 53 ∷ 32 ∷ 48 ∷ 32 ∷ 51 ∷ 32 ∷ 49 ∷ 53 ∷ 48 ∷ 48 ∷ 32 ∷ 56 ∷ 52 ∷ 48 ∷ 48 ∷ 32 ∷ 51 ∷ 51 ∷ 48 ∷ 48 ∷ 32 ∷ 49 ∷ 32 ∷ 57 ∷ 55 ∷ 10 ∷ [])
  -- "end 2 0 28"
  pub last_line : EndText 2 0 28 (101 ∷ 110 ∷ 100 ∷ 32 ∷ 50 ∷ 32 ∷ 48 ∷ 32 ∷ 50 ∷ 56 ∷ 10 ∷ [])
  -- "For 13 it prints only `end 0 13 0`."
  pub too_long : EndText 0 13 0 (101 ∷ 110 ∷ 100 ∷ 32 ∷ 48 ∷ 32 ∷ 49 ∷ 51 ∷ 32 ∷ 48 ∷ 10 ∷ [])
  -- "refused 14 2 1"
  pub parted : PartText (refused 14 2 1) (114 ∷ 101 ∷ 102 ∷ 117 ∷ 115 ∷ 101 ∷ 100 ∷ 32 ∷ 49 ∷ 52 ∷ 32 ∷ 50 ∷ 32 ∷ 49 ∷ 10 ∷ [])
