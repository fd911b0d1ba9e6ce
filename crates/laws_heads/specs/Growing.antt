-- The header: "A log to which more is being written may end inside a record: code 1. Once it is longer, a replay of it from `next`, on the image as it was left, comes to what replaying the
-- longer log whole would have".
use Rattle.std.specs.Prelude.{ℕ, ◌+◌, ◌%◌, ◌^◌, ◌≡◌, List, ◌++◌}
use Rattle.log_number.specs.Promises.{Bytes}
use Rattle.c_calls.specs.Landing.{Left}
use Rattle.c_calls.specs.Promises.{Calls}
use Rattle.c_calls.specs.declared.answer.Replayed.{Replayed}

-- "the same image, code, place and next, and the records of both calls add up, in 32 bits"
pub record ComesTo (whole first then : Left Replayed) : Type 0 where
  pub image : whole.bytes ≡ then.bytes
  pub number : whole.answer.number ≡ then.answer.number
  pub code : whole.answer.code ≡ then.answer.code
  pub place : whole.answer.place ≡ then.answer.place
  pub next : whole.answer.next ≡ then.answer.next
  pub records : whole.answer.records ≡ (first.answer.records + then.answer.records) % 2 ^ 32

abbrev pub GoesOn : Calls → List ℕ → List ℕ → List ℕ → ℕ → Type 0
GoesOn calls image log more place =
    let first = calls.replay image log place in
    ComesTo (calls.replay image (log ++ more) place) first (calls.replay first.bytes (log ++ more) first.answer.next)

-- whatever bytes are lent for an image, whatever the log and however it goes on
abbrev pub CatchesUp : Calls → Type 0
CatchesUp calls = (image log more : List ℕ) → Bytes log → Bytes more → (place : ℕ) → GoesOn calls image log more place
