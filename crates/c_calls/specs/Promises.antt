-- What is promised of the calls on lent bytes, for any calls of these types. The types of the theorems that proofs/ proves.
use Rattle.std.specs.Prelude.{ℕ, ◌≡◌, List, ◌≢◌, length}
use Rattle.c_calls.specs.Landing.{Left, Both}
use Rattle.c_calls.specs.Playing.{off_of, play_of, event_call_of}
use Rattle.c_calls.specs.Replaying.{replay_of}
use Rattle.c_calls.specs.Showing.{report_call_of, register_of}
use Rattle.c_calls.specs.Writing.{write_call_of}
use Rattle.c_calls.specs.Comparing.{compare_call_of}
use Rattle.c_calls.specs.declared.answer.Answer.{Answer}
use Rattle.c_calls.specs.declared.answer.Byte.{Byte}
use Rattle.c_calls.specs.declared.answer.ComparedLogs.{ComparedLogs}
use Rattle.c_calls.specs.declared.answer.Played.{Played}
use Rattle.c_calls.specs.declared.answer.Put.{Put}
use Rattle.c_calls.specs.declared.answer.Replayed.{Replayed}

-- what each call answers and leaves, by what it is lent, in the header's order
pub record Calls : Type 0 where
  pub off : List ℕ → Left Answer
  pub play : List ℕ → List ℕ → ℕ → List ℕ → Both Played
  pub replay : List ℕ → List ℕ → ℕ → Left Replayed
  pub event : List ℕ → ℕ → List ℕ → List ℕ → Both Answer
  pub report : List ℕ → List ℕ → Left Answer
  pub register : List ℕ → ℕ → Byte
  pub write : ℕ → List ℕ → List ℕ → Left Put
  pub compare : List ℕ → List ℕ → ComparedLogs

-- this product's, by the definitions that the contracts of its calls cite
abbrev pub our_calls : Calls
our_calls = record {
  off = off_of;
  play = play_of;
  replay = replay_of;
  event = event_call_of;
  report = report_call_of;
  register = register_of;
  write = write_call_of;
  compare = compare_call_of;
}

-- image and answer buffer are as they were
pub record Untouched {A : Type 0} (i s : List ℕ) (after : Both A) : Type 0 where
  pub image : after.image ≡ i
  pub shown : after.shown ≡ s

-- "A refusal leaves every lent byte as it was."
pub record RefusalLeaves (calls : Calls) : Type 0 where
  pub off : (image : List ℕ) → (calls.off image).answer.number ≢ 0 → (calls.off image).bytes ≡ image
  pub play : (image log : List ℕ) (place : ℕ) (shown : List ℕ) → (calls.play image log place shown).answer.number ≢ 0 → Untouched image shown (calls.play image log place shown)
  pub replay : (image log : List ℕ) (place : ℕ) → (calls.replay image log place).answer.number ≢ 0 → (calls.replay image log place).bytes ≡ image
  pub event : (image : List ℕ) (kind : ℕ) (words shown : List ℕ) → (calls.event image kind words shown).answer.number ≢ 0 → Untouched image shown (calls.event image kind words shown)
  pub report : (image lent : List ℕ) → (calls.report image lent).answer.number ≢ 0 → (calls.report image lent).bytes ≡ lent
  pub write : (kind : ℕ) (words out : List ℕ) → (calls.write kind words out).answer.number ≢ 0 → (calls.write kind words out).bytes ≡ out

-- image and answer buffer are as long as they were
pub record AsLong {A : Type 0} (i s : List ℕ) (after : Both A) : Type 0 where
  pub image : length after.image ≡ length i
  pub shown : length after.shown ≡ length s

-- whatever is answered, every lent part stays as long as it was
pub record KeepsLengths (calls : Calls) : Type 0 where
  pub off : (image : List ℕ) → length (calls.off image).bytes ≡ length image
  pub play : (image log : List ℕ) (place : ℕ) (shown : List ℕ) → AsLong image shown (calls.play image log place shown)
  pub replay : (image log : List ℕ) (place : ℕ) → length (calls.replay image log place).bytes ≡ length image
  pub event : (image : List ℕ) (kind : ℕ) (words shown : List ℕ) → AsLong image shown (calls.event image kind words shown)
  pub report : (image lent : List ℕ) → length (calls.report image lent).bytes ≡ length lent
  pub write : (kind : ℕ) (words out : List ℕ) → length (calls.write kind words out).bytes ≡ length out
