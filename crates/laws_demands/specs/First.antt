-- Demand 1: "Every event and every byte string gets an answer, the calls ask nothing of their caller, and a refused event changes neither the model nor a lent buffer."
use Rattle.std.specs.Prelude.{ℕ, ◌≤◌, ◌<◌, ◌≡◌, List, [], ◌∷◌, ◌≢◌, ◌⊎◌, length, drop}
use Rattle.base.specs.Writing.{Wrote, wrote, refused}
use Rattle.state_parts.specs.declared.state.Model.{Model}
use Rattle.log_number.specs.Promises.{Bytes}
use Rattle.log_event.specs.declared.Event.{Event}
use Rattle.log_record.specs.Records.{Met}
use Rattle.log_record.specs.Records as log
use Rattle.log_pairs.specs.Comparing.{Answer}
use Rattle.log_pairs.specs.Comparing as pairs
use Rattle.step_kinds.specs.Answers.{Outcome}
use Rattle.c_calls.specs.Promises.{RefusalLeaves, KeepsLengths}
use Rattle.step_event.specs.Theorems.{Untouched}
use Rattle.laws_step.specs.Ranged.{Among}
use Rattle.laws_demands.specs.Product.{LogLines, Product}
use Rattle.laws_demands.specs.Printed.{refused_run}

-- "Every event .. gets an answer": 0, or a number of the model's order, 02's 15 among them. "a refused event changes [not] the model"
pub record Answered (m : Model) (o : Outcome) : Type 0 where
  pub number : (o.number ≡ 0) ⊎ (Among o.number 5 11 ⊎ (o.number ≡ 15))
  pub refused : o.number ≢ 0 → Untouched m o

-- "every byte string gets an answer": within it a record and a place further on, or a number of the log's order with a place from the record's start to the log's end; from its end on the
-- end
pub data ReadAt (bytes : List ℕ) (at : ℕ) : Met → Type 0 where
  event : (e : Event) (next : ℕ) → at < next → next ≤ length bytes → ReadAt bytes at (log.met e next)
  unreadable : (n place : ℕ) → at < length bytes → Among n 1 5 → at ≤ place → place ≤ length bytes → ReadAt bytes at (log.refused n place)
  end : length bytes ≤ at → ReadAt bytes at log.end

-- so many bytes written within the room, "bytes after it stay"; or 12 at the write place, or 5 (02, R-3), and "a refused write changes no byte"
pub data WrittenIn (buffer : List ℕ) : Wrote × List ℕ → Type 0 where
  written : (n : ℕ) (after : List ℕ) → n ≤ length buffer → length after ≡ length buffer → drop n after ≡ drop n buffer → WrittenIn buffer (wrote n, after)
  no_room : WrittenIn buffer (refused 12 0, buffer)
  no-spelling : WrittenIn buffer (refused 5 0, buffer)

-- a whole log: read to its end or to a record of it that can't be read, with a line for each record before; or 13 and no line
pub data WalkedIn (bytes : List ℕ) (w : LogLines) : Type 0 where
  whole : w.last ≡ length w.lines ∷ 0 ∷ length bytes ∷ [] → WalkedIn bytes w
  stopped : (n at : ℕ) → Among n 1 5 → at ≤ length bytes → w.last ≡ length w.lines ∷ n ∷ at ∷ [] → WalkedIn bytes w
  too-long : 65536 < length bytes → w ≡ refused_run → WalkedIn bytes w

-- two logs: the rest of one from a place in it; the number of what can't be read in one of them, with the record's number and a place in that log; or 14 with the record's number and a place at
-- which both go on
pub data ComparedIn (a b : List ℕ) : Answer → Type 0 where
  rest-of-first : (at : ℕ) → at ≤ length a → ComparedIn a b (pairs.first at)
  rest-of-second : (at : ℕ) → at ≤ length b → ComparedIn a b (pairs.second at)
  unread-in-first : (n number place : ℕ) → Among n 1 5 → 1 ≤ number → place ≤ length a → ComparedIn a b (pairs.refused n number place)
  unread-in-second : (n number place : ℕ) → Among n 1 5 → 1 ≤ number → place ≤ length b → ComparedIn a b (pairs.refused n number place)
  parted : (number at : ℕ) → 1 ≤ number → at < length a → at < length b → ComparedIn a b (pairs.refused 14 number at)

-- "the calls ask nothing of their caller": each is for every model, event, log, place and buffer, also a model that holds what it may not
pub record FirstDemand (p : Product) : Type 0 where
  pub steps : (m : Model) (e : Event) → Answered m (p.step m e)
  pub reads : (bytes : List ℕ) → Bytes bytes → (at : ℕ) → ReadAt bytes at (p.read bytes at)
  pub writes : (e : Event) (buffer : List ℕ) → WrittenIn buffer (p.write e buffer)
  pub walks : (bytes : List ℕ) → Bytes bytes → WalkedIn bytes (p.walk bytes)
  pub compares : (a b : List ℕ) → Bytes a → Bytes b → ComparedIn a b (p.compare a b)
  -- the calls for C: a refusal leaves every lent byte as it was, and every lent part stays as long as it was
  pub leaves : RefusalLeaves p.calls
  pub keeps : KeepsLengths p.calls
