-- What is proved of the codes: of every table and resistor, and of the pins' table.
use Rattle.std.specs.Prelude.{ℕ, suc, ◌≤◌, ◌<◌, ◌≡◌, true, List, ◌↔◌, length, get_or}
use Rattle.step_pins.specs.Codes.{resistors, matches, code_in, code_of}
use Rattle.step_pins.specs.Spans.{Within, span_of, spans_of, listed_spans, span_at, keeps_apart}

-- entry i of a table, whose code is i + 1, matches
abbrev pub Matches : List ℕ → ℕ → ℕ → Type 0
Matches table i ohms = (i < length table) × (matches (get_or table i 0) ohms ≡ true)

-- "the lower code taken", of every table: a code is given exactly if its resistor matches and none of a lower code does, and 0 exactly if none matches
pub record LowestTaken : Type 0 where
  pub code : (table : List ℕ) (i ohms : ℕ) → (code_in table ohms ≡ suc i) ↔ (Matches table i ohms × ((j : ℕ) → j < i → ¬ Matches table j ohms))
  pub none : (table : List ℕ) (ohms : ℕ) → (code_in table ohms ≡ 0) ↔ ((i : ℕ) → ¬ Matches table i ohms)

-- "within 2% either way, in whole numbers", of every resistor: what matches it is a span
abbrev pub MatchIsSpan : Type 0
MatchIsSpan = (nominal ohms : ℕ) → (matches nominal ohms ≡ true) ↔ Within ohms (span_of nominal)

-- of every table in which each span ends before the next one starts: at most one code matches, and each resistor has its own
pub record SpansApart : Type 0 where
  pub one : (table : List ℕ) → keeps_apart table ≡ true → (ohms i j : ℕ) → Matches table i ohms → Matches table j ohms → i ≡ j
  pub own : (table : List ℕ) → keeps_apart table ≡ true → (i : ℕ) → i < length table → code_in table (get_or table i 0) ≡ suc i

-- "Prove that a pin's accepted spans don't overlap": of the pins' table
pub record PinTable : Type 0 where
  -- its spans are those listed, and each ends before the next one starts
  pub spans : spans_of resistors ≡ listed_spans
  pub apart : keeps_apart resistors ≡ true
  -- so no resistor matches two codes, and each of the maker's has its own
  pub one : (ohms i j : ℕ) → Matches resistors i ohms → Matches resistors j ohms → i ≡ j
  pub own : (i : ℕ) → i < length resistors → code_of (get_or resistors i 0) ≡ suc i
  -- code c is given exactly in the span of c, and 0 exactly outside all of them
  pub code : (i ohms : ℕ) → (code_of ohms ≡ suc i) ↔ Within ohms (span_at listed_spans i)
  pub none : (ohms : ℕ) → (code_of ohms ≡ 0) ↔ ((i : ℕ) → ¬ Within ohms (span_at listed_spans i))
  -- "codes 0-7"
  pub most : (ohms : ℕ) → code_of ohms ≤ 7
