-- 01, "Refusal numbers | Given exactly when", 1 to 4: bytes that can't be read; and 02, R-3: "the log reader gives 5 for another length, after 2, and this 5 counts wherever 01 says 1-4".
-- "Log order: 4, then number by number 1, 3, 2": no byte string has two of these numbers (`OneAnswerAt`).
-- Each has its place. 02, R-4: "the offset of the byte that decided it: the log's end for 1, the last group for 2, the fifth group for 3 .. Refusals 4 and 14 keep the record's start, the reader's 5 the length's".
use Rattle.std.specs.Prelude.{ℕ, suc, ◌+◌, ◌≤◌, ◌<◌, ◌≡◌, List, [], ◌∷◌, ◌++◌, ◌⊎◌, length, drop}
use Rattle.log_raw.specs.Raw.{held_by}
use Rattle.log_event.specs.Items.{Shape, number, bytes, Item, shape_of}
use Rattle.log_event.specs.declared.Event.{Event}
use Rattle.laws_format.specs.Format.{Groups, largest, Stand, Listed, NoKind}

-- groups that all have the high bit
abbrev pub High : List ℕ → Type 0
High [] = Unit {0}
High (b ∷ s) = (128 ≤ b) × High s

-- the number of the refusal, bytes that start with no number, and the place among them
pub data NoNumber : ℕ → List ℕ → ℕ → Type 0 where
  -- 1: "log ends inside a record"; its place is "the log's end"
  cut_off : (high : List ℕ) → High high → length high ≤ 4 → NoNumber 1 high (length high)
  -- 3: "five groups all have the high bit, .."; "even at the log's end"; "the fifth group"
  five-high : (high rest : List ℕ) → High high → length high ≡ 5 → NoNumber 3 (high ++ rest) 4
  -- ".. or value above 4,294,967,295", of five groups: of more than five, five have the high bit; "the fifth group"
  too-large : (n : ℕ) (groups rest : List ℕ) → Groups n groups → largest < n → length groups ≡ 5 → NoNumber 3 (groups ++ rest) 4
  -- 2: "last group is zero and not the only one"; "the last group"
  zero-last : (high rest : List ℕ) → High high → 0 < length high → length high ≤ 4 → NoNumber 2 (high ++ 0 ∷ rest) (length high)

-- the same of raw bytes behind their length, which is 1 to the most
pub data NoRaw (most : ℕ) : ℕ → List ℕ → ℕ → Type 0 where
  -- "after 2": first comes a length that can't be read
  no_length : (n place : ℕ) (s : List ℕ) → NoNumber n s place → NoRaw most n s place
  -- 5: "another length"; its place is "the length's" first byte
  other-length : (n : ℕ) (groups rest : List ℕ) → n ≤ largest → Groups n groups → (n ≡ 0) ⊎ (most < n) → NoRaw most 5 (groups ++ rest) 0
  -- 1: "log ends inside a record"; "the log's end"
  cut-bytes : (n : ℕ) (groups held : List ℕ) → n ≤ largest → Groups n groups → 1 ≤ n → n ≤ most → length held < n → NoRaw most 1 (groups ++ held) (length groups + length held)

-- the same of a number or of raw bytes, by the shape
pub data NoItem : Shape → ℕ → List ℕ → ℕ → Type 0 where
  of_number : (n place : ℕ) (s : List ℕ) → NoNumber n s place → NoItem number n s place
  of-raw : (k n place : ℕ) (s : List ℕ) → NoRaw (held_by k) n s place → NoItem (bytes k) n s place

-- the same of a record
pub data NoRecord : ℕ → List ℕ → ℕ → Type 0 where
  -- 4: "kind not 1-7", nor one that 02 adds; "the record's start"
  no_kind : (b : ℕ) (rest : List ℕ) → NoKind b → NoRecord 4 (b ∷ rest) 0
  -- "then number by number": some event of the kind has these first, then one more, and what follows is none like it
  stopped : (n kind place : ℕ) (e : Event) (early later : List Item) (next : Item) (before left : List ℕ) → Listed e kind (early ++ (next ∷ later)) → Stand early before
      → NoItem (shape_of next) n left place → NoRecord n (kind ∷ (before ++ left)) (suc (length before + place))

-- the same at a place of a log, from whose start the refusal's place counts
pub record LogRow (n : ℕ) (log : List ℕ) (at place : ℕ) : Type 0 where
  pub after : ℕ
  pub row : NoRecord n (drop at log) after
  pub counts : place ≡ at + after
