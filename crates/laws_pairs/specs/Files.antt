-- What `partlog` prints of two files, in the words of Compared and Text.
use Rattle.std.specs.Prelude.{ℕ, ◌≤◌, ◌<◌, List, length}
use Rattle.log_pairs.specs.Comparing.{Answer, refused}
use Rattle.laws_pairs.specs.Compared.{SideBySide}
use Rattle.laws_pairs.specs.Text.{PartText}

-- "program input above 65,536 bytes"
abbrev pub longest : ℕ
longest = 65536

-- 13 if either is longer, with record and offset 0; else what the two logs come to
pub data FilesCompared (a b : List ℕ) : Answer → Type 0 where
  first-too-long : longest < length a → FilesCompared a b (refused 13 0 0)
  second-too-long : longest < length b → FilesCompared a b (refused 13 0 0)
  both_read : (answer : Answer) → length a ≤ longest → length b ≤ longest → SideBySide a b answer → FilesCompared a b answer

-- the printed line
pub record Printed (a b text : List ℕ) : Type 0 where
  pub answer : Answer
  pub compared : FilesCompared a b answer
  pub line : PartText answer text
