-- The ohms that match a resistor: a span of whole numbers, both ends included.
use Rattle.std.specs.Prelude.{ℕ, zero, suc, ◌+◌, ◌*◌, ◌/◌, ◌≤◌, Bool, true, ◌&&◌, List, [], ◌∷◌, ltb}

pub record Span : Type 0 where
  pub low : ℕ
  pub high : ℕ

abbrev pub Within : ℕ → Span → Type 0
Within ohms s = (s.low ≤ ohms) × (ohms ≤ s.high)

-- 98% rounded up, and 102% rounded down
abbrev pub span_of : ℕ → Span
span_of nominal = record { low = (98 * nominal + 99) / 100; high = 102 * nominal / 100 }

abbrev pub spans_of : List ℕ → List Span
spans_of [] = []
spans_of (nominal ∷ table) = span_of nominal ∷ spans_of table

abbrev span : ℕ → ℕ → Span
span low high = record { low = low; high = high }

-- the pins' spans, as they are listed for whoever solders
abbrev pub listed_spans : List Span
listed_spans = span 4548 4732 ∷ span 5920 6160 ∷ span 8085 8415 ∷ span 10290 10710 ∷ span 13426 13974 ∷ span 16562 17238 ∷ span 26852 27948 ∷ []

-- a table's span by its place; behind the table's end, one that holds nothing
abbrev pub span_at : List Span → ℕ → Span
span_at [] i = span 1 0
span_at (s ∷ spans) zero = s
span_at (s ∷ spans) (suc i) = span_at spans i

-- a table in which each span ends before the next one starts
abbrev pub keeps_apart : List ℕ → Bool
keeps_apart [] = true
keeps_apart (one ∷ []) = true
keeps_apart (one ∷ next ∷ table) = ltb (span_of one).high (span_of next).low && keeps_apart (next ∷ table)
