-- 01, "Two logs, one program, one host": the lines that runlog prints, and the longest input of a program.
use Rattle.std.specs.Prelude.{ℕ, ◌+◌, ◌*◌, ◌%◌, ◌^◌, Bool, List, [], ◌∷◌, ◌++◌, ltb, length}
use Rattle.report_text.specs.Decimal.{decimal, most_digits}

-- The byte after a number: 32, a space, if more numbers follow; 10, a newline, after the last.
abbrev pub byte_after : List ℕ → ℕ
byte_after [] = 10
byte_after (n ∷ more) = 32

-- "each record gives: number, kind, answer (0 or refusal), phase, current, voltage, input limit, pulse, flags, in decimal, one space apart."
unfoldable pub line_text : List ℕ → List ℕ
line_text [] = []
line_text (n ∷ more) = decimal n ++ (byte_after more ∷ line_text more)

-- a record's line has so many numbers, and no line that is written has more
abbrev pub line_count : ℕ
line_count = 9

-- the most bytes of such a line: each number's digits and the byte after them
abbrev pub most_line : ℕ
most_line = line_count * (most_digits + 1)

-- a line that a word begins
unfoldable pub headed_text : List ℕ → List ℕ → List ℕ
headed_text word numbers = word ++ line_text numbers

-- a line's numbers have 32 bits, and no log of a program's is that long
abbrev pub low32 : ℕ → ℕ
low32 n = n % 2 ^ 32

-- "Last: `end`, records read, code (0 or 1-4), offset of the log's end or the unreadable record."
abbrev pub end_word : List ℕ
end_word = 101 ∷ 110 ∷ 100 ∷ 32 ∷ []

unfoldable pub end_text : List ℕ → List ℕ
end_text numbers = headed_text end_word numbers

-- 13: "program input above 65,536 bytes"
abbrev pub too_long : List ℕ → Bool
too_long input = ltb 65536 (length input)
