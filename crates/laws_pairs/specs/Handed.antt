-- 01: "the rest of the longer is handed back if the shorter is its start (equal logs, or any refusal: an empty part of the first)". Logs and part are lent bytes: each is
-- told by what it holds and by where it lies, a block of memory and an offset in it.
use Rattle.std.specs.Prelude.{ℕ, ◌+◌, ◌≡◌, List, ◌++◌, length}
use Rattle.std.specs.Borrow.{Bor}
use Rattle.log_pairs.specs.Comparing.{first, second, refused}
use Rattle.laws_pairs.specs.Compared.{SideBySide}

-- the part of a log from a place on: it lies in the log itself, so many bytes after the log's start
pub record PartFrom (log : Bor (List ℕ)) (at : ℕ) (part : List ℕ × (ℕ × ℕ)) : Type 0 where
  pub before : List ℕ
  pub long : length before ≡ at
  pub bytes : log.now ≡ before ++ part.0
  pub block : part.1.0 ≡ log.ref_ptr.0
  pub offset : part.1.1 ≡ at + log.ref_ptr.1

pub data HandedBack (a b : Bor (List ℕ)) (part : List ℕ × (ℕ × ℕ)) : Type 0 where
  -- "the rest of the longer .. (equal logs ..: an empty part of the first)"
  of-first : (at : ℕ) → SideBySide a.now b.now (first at) → PartFrom a at part → HandedBack a b part
  of-second : (at : ℕ) → SideBySide a.now b.now (second at) → PartFrom b at part → HandedBack a b part
  -- "any refusal: an empty part of the first", at its end
  of-neither : (n number place : ℕ) → SideBySide a.now b.now (refused n number place) → PartFrom a (length a.now) part → HandedBack a b part
