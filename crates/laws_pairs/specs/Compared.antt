-- 01, "Two logs, one program, one host": what two logs come to, as a relation between their bytes and the answer. No reader and no comparison of the code is cited.
use Rattle.std.specs.Prelude.{ℕ, suc, ◌+◌, ◌<◌, ◌≡◌, List, ◌++◌, length}
use Rattle.log_number.specs.Promises.{Bytes}
use Rattle.log_event.specs.declared.Event.{Event}
use Rattle.log_pairs.specs.Comparing.{Answer, first, second, refused}
use Rattle.laws_format.specs.Format.{Spells, SpellsAll}
use Rattle.laws_format.specs.Unreadable.{NoRecord}

-- "Two lent logs are read side by side": both begin with `start`, the records of the events `both`. A record's number is one more than how many stand before it, its
-- offset the bytes before it; of one that can't be read the offset is, in its own log, that of the byte that decided it (02, R-4).
pub data SideBySide : List ℕ → List ℕ → Answer → Type 0 where
  -- "the rest of the longer is handed back if the shorter is its start (equal logs ..: an empty part of the first); the rest isn't read": whatever the rest is
  second-is-start : (both : List Event) (start rest : List ℕ) → SpellsAll both start → SideBySide (start ++ rest) start (first (length start))
  first-is-start : (both : List Event) (start rest : List ℕ) → SpellsAll both start → 0 < length rest → SideBySide start (start ++ rest) (second (length start))
  -- "an unreadable one gives its own 1-4, first log before second": whatever the second has there
  first-unreadable : (n place : ℕ) (both : List Event) (start rest other : List ℕ) → SpellsAll both start → NoRecord n rest place → 0 < length other
      → SideBySide (start ++ rest) (start ++ other) (refused n (suc (length both)) (length start + place))
  second-unreadable : (n place : ℕ) (both : List Event) (e : Event) (start spelling rest other : List ℕ) → SpellsAll both start → Spells e spelling → NoRecord n other place
      → SideBySide (start ++ (spelling ++ rest)) (start ++ other) (refused n (suc (length both)) (length start + place))
  -- "Different records give 14, record number and offset"
  different : (both : List Event) (e f : Event) (start spelling rest another other : List ℕ) → SpellsAll both start → Spells e spelling → Spells f another → ¬ (e ≡ f)
      → SideBySide (start ++ (spelling ++ rest)) (start ++ (another ++ other)) (refused 14 (suc (length both)) (length start))

-- two logs, and what they are said to come to
abbrev pub Comparer : Type 0
Comparer = List ℕ → List ℕ → Answer

-- as the paper says, of every two byte strings
abbrev pub Compares : Comparer → Type 0
Compares compare = (a b : List ℕ) → Bytes a → Bytes b → SideBySide a b (compare a b)
