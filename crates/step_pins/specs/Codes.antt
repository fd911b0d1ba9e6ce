-- 02, R-5: "Each is matched against the maker's pin table in source document 000, within 2% either way, in whole numbers; no match is code 0, a pin fault."
use Rattle.std.specs.Prelude.{ℕ, suc, ◌+◌, ◌-◌, ◌*◌, Bool, List, [], ◌∷◌, leb}
use Rattle.base.specs.Pick.{pick}

-- source document 000, tables 6-1 to 6-3: the resistors of codes 1 to 7, in ohms, the same at CELL, VCHG and ICHG
abbrev pub resistors : List ℕ
resistors = 4640 ∷ 6040 ∷ 8250 ∷ 10500 ∷ 13700 ∷ 16900 ∷ 27400 ∷ []

-- how far two numbers are apart
abbrev pub distance : ℕ → ℕ → ℕ
distance a b = (a - b) + (b - a)

-- "within 2% either way, in whole numbers": 2% of the table's resistor
abbrev pub matches : ℕ → ℕ → Bool
matches nominal ohms = leb (100 * distance ohms nominal) (2 * nominal)

-- "the lower code taken": the first of a table's codes, counted from one on, whose resistor matches by a test; "no match is code 0"
abbrev pub lowest_by : (ℕ → ℕ → Bool) → ℕ → List ℕ → ℕ → ℕ
lowest_by match code [] ohms = 0
lowest_by match code (nominal ∷ table) ohms = pick (match nominal ohms) code (lowest_by match (suc code) table ohms)

abbrev pub code_in : List ℕ → ℕ → ℕ
code_in table ohms = lowest_by matches 1 table ohms

unfoldable pub code_of : ℕ → ℕ
code_of ohms = code_in resistors ohms
