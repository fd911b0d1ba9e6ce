-- No refusal has the number 0, which is an accepted event's.
use Rattle.std.proofs.Common.{◌≤◌, arith}
use Rattle.base.specs.Refusals.{refusal_number}
use Rattle.base.specs.declared.refusal.Refusal.{Refusal}
use Rattle.base.specs.declared.refusal.Refusal.TheVariants.{EndsInside, ZeroGroup, TooLarge, UnknownKind, OutOfRange, NotPowered, StampAhead, UnknownSetting, BadValue, UnknownAddress, BadFrequency, NoRoom, InputTooLong, LogsPart, HalfRegister}

pub some_number : (r : Refusal) → 1 ≤ refusal_number r
some_number EndsInside = omega arith
some_number ZeroGroup = omega arith
some_number TooLarge = omega arith
some_number UnknownKind = omega arith
some_number OutOfRange = omega arith
some_number NotPowered = omega arith
some_number StampAhead = omega arith
some_number UnknownSetting = omega arith
some_number BadValue = omega arith
some_number UnknownAddress = omega arith
some_number BadFrequency = omega arith
some_number NoRoom = omega arith
some_number InputTooLong = omega arith
some_number LogsPart = omega arith
some_number HalfRegister = omega arith
