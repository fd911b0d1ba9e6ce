-- 01, "Two logs, one program, one host": numbers "in decimal".
use Rattle.std.specs.Prelude.{ℕ, zero, suc, ◌+◌, ◌/◌, ◌%◌, List, [], ◌∷◌, ◌++◌, ltb}
use Rattle.base.specs.Pick.{pick}

-- The byte of a digit: 48 is '0'.
abbrev pub digit : ℕ → ℕ
digit d = 48 + d

-- Below ten the number's digit, else the text of its tens and then its last digit. No number has more tens than units, so its own value is turns enough.
unfoldable pub decimal_by : ℕ → ℕ → List ℕ
decimal_by zero n = digit n ∷ []
decimal_by (suc turns) n = let more = decimal_by turns (n / 10) ++ (digit (n % 10) ∷ []) in pick (ltb n 10) (digit n ∷ []) more

unfoldable pub decimal : ℕ → List ℕ
decimal n = decimal_by n n

-- no number below 2^32 has more digits
abbrev pub most_digits : ℕ
most_digits = 10
