-- A text at the start of a part that has the room.
use Rattle.std.specs.Prelude.{ℕ, List, ◌++◌, length, drop}

-- "bytes after it stay"
unfoldable pub over : List ℕ → List ℕ → List ℕ
over text part = text ++ drop (length text) part
