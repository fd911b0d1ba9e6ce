-- The call that reads two logs side by side.
use Rattle.std.specs.Prelude.{ℕ, List}
use Rattle.log_event.specs.Kinds.{kinds}
use Rattle.log_pairs.specs.Comparing.{Answer, first, second, refused, compare_of}
use Rattle.c_calls.specs.declared.answer.ComparedLogs.{ComparedLogs}

-- "If one is the other's start: the log whose rest is more, and where that rest starts (equal logs: the first, at its end). Else 14, with the record's
-- number and where it starts; or 1 to 5 for a record that can't be read, the first log's before the second's, with its number and the place, in that log, of what decided it."
abbrev pub sides_of : Answer → ComparedLogs
sides_of (first place) = record { number = 0; log = 1; count = 0; place = place }
sides_of (second place) = record { number = 0; log = 2; count = 0; place = place }
sides_of (refused number count place) = record { number = number; log = 0; count = count; place = place }

unfoldable pub compare_call_of : List ℕ → List ℕ → ComparedLogs
compare_call_of one two = sides_of (compare_of kinds one two)
