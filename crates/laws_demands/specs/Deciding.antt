-- 02, R-4: "the program's last line pass[es] that offset on": of a whole log, what its last line tells is what decided it.
use Rattle.std.specs.Prelude.{ℕ, suc, ◌≤◌, ◌≡◌, List, ◌++◌, ◌≢◌, take}
use Rattle.log_number.specs.Promises.{Bytes}
use Rattle.laws_format.specs.Readers.{Reader, Reads}
use Rattle.laws_format.specs.Deciding.{Decided}
use Rattle.laws_demands.specs.Printed.{log_by}

-- the code of the last line
abbrev pub code_by : Reader → List ℕ → ℕ
code_by read bytes = (log_by read bytes).code

-- of every byte string of which some record can't be read; how long it is doesn't matter
pub record LastLineDecides (read : Reader) : Type 0 where
  -- the offset decided the code, and no other place did (`OneDecided`), but for 5
  pub decided : (bytes : List ℕ) → Bytes bytes → code_by read bytes ≢ 0 → code_by read bytes ≢ 5 → Decided (code_by read) bytes (log_by read bytes).offset
  -- 5 was decided by the last group of the length whose first byte is the offset
  pub length : (bytes : List ℕ) → Bytes bytes → code_by read bytes ≡ 5 → (last : ℕ) × ((log_by read bytes).offset ≤ last) × Decided (code_by read) bytes last
  -- but for 1 and 5, every log that starts with the bytes up to and including it has the same records before it, the same code and the same offset
  pub same : (bytes : List ℕ) → Bytes bytes → code_by read bytes ≢ 0 → code_by read bytes ≢ 1 → code_by read bytes ≢ 5 → (rest : List ℕ) → Bytes rest
      → log_by read (take (suc (log_by read bytes).offset) bytes ++ rest) ≡ log_by read bytes
  -- but for 4, the log cut off before it has the same records and code 1, at its end
  pub cut : (bytes : List ℕ) → Bytes bytes → code_by read bytes ≢ 0 → code_by read bytes ≢ 4
      → log_by read (take (log_by read bytes).offset bytes) ≡ record { events = (log_by read bytes).events; code = 1; offset = (log_by read bytes).offset }

-- so with whoever keeps the format
abbrev pub LinesDecide : Type 0
LinesDecide = (read : Reader) → Reads read → LastLineDecides read
