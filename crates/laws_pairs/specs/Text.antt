-- 01, "Two logs, one program, one host": printed text, as relations between what is told and its bytes. No writer of the code is cited.
use Rattle.std.specs.Prelude.{ℕ, ◌+◌, ◌*◌, ◌<◌, List, [], ◌∷◌, ◌++◌}
use Rattle.log_pairs.specs.Comparing.{Answer, first, second, refused}

-- "in decimal": digits are the bytes 48 to 57. None is a leading zero: what stands before a digit is a number above zero.
pub data Decimal : ℕ → List ℕ → Type 0 where
  one-digit : (d : ℕ) → d < 10 → Decimal d ((48 + d) ∷ [])
  digit-more : (tens d : ℕ) (text : List ℕ) → 0 < tens → d < 10 → Decimal tens text → Decimal (10 * tens + d) (text ++ ((48 + d) ∷ []))

-- numbers "in decimal, one space apart", a line: 32 is a space, 10 a newline
pub data LineText : List ℕ → List ℕ → Type 0 where
  last-number : (n : ℕ) (text : List ℕ) → Decimal n text → LineText (n ∷ []) (text ++ (10 ∷ []))
  number_more : (n : ℕ) (ns text line : List ℕ) → Decimal n text → LineText ns line → LineText (n ∷ ns) (text ++ (32 ∷ line))

-- "Last: `end`, records read, code (0 or 1-4), offset of the log's end or the unreadable record."
pub data EndText (records code offset : ℕ) : List ℕ → Type 0 where
  end-then : (line : List ℕ) → LineText (records ∷ code ∷ offset ∷ []) line → EndText records code offset (101 ∷ 110 ∷ 100 ∷ 32 ∷ line)

-- What two logs come to, in the house's words: which log's rest and where it starts; or the refusal's number, "record number and offset". The words' letters are in ASCII.
pub data PartText : Answer → List ℕ → Type 0 where
  -- `rest FIRST`
  rest-first : (at : ℕ) (line : List ℕ) → LineText (at ∷ []) line → PartText (first at) (114 ∷ 101 ∷ 115 ∷ 116 ∷ 32 ∷ 70 ∷ 73 ∷ 82 ∷ 83 ∷ 84 ∷ 32 ∷ line)
  -- `rest SECOND`
  rest-second : (at : ℕ) (line : List ℕ) → LineText (at ∷ []) line → PartText (second at) (114 ∷ 101 ∷ 115 ∷ 116 ∷ 32 ∷ 83 ∷ 69 ∷ 67 ∷ 79 ∷ 78 ∷ 68 ∷ 32 ∷ line)
  -- `refused`
  refused-then : (n number place : ℕ) (line : List ℕ) → LineText (n ∷ number ∷ place ∷ []) line
      → PartText (refused n number place) (114 ∷ 101 ∷ 102 ∷ 117 ∷ 115 ∷ 101 ∷ 100 ∷ 32 ∷ line)
