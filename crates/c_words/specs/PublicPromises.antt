-- What the calls that read and write words promise, and that each promise allows one outcome. `read` has no result: its outcome is the lent words alone.
use Rattle.std.specs.Prelude.{ℕ, ◌≡◌, List, length, Result}
use Rattle.base.specs.Outcomes.{One, OfTwo}
use Rattle.base.specs.Writing.{WritingPromise}
use Rattle.base.specs.declared.refusal.Refusal.{Refusal}
use Rattle.c_words.specs.Words.{bytes_of, words_in}

abbrev pub ReadPromise : List ℕ → List ℕ → List ℕ → Type 0
ReadPromise bytes all after = after ≡ words_in (length all) bytes

abbrev pub WritePromise : List ℕ → List ℕ → Result ℕ Refusal → List ℕ → Type 0
WritePromise all part r after = WritingPromise (bytes_of all) part r after

-- "equal inputs allow one outcome"
pub record OneOutcome : Type 0 where
  pub read : (bytes all : List ℕ) → One (ReadPromise bytes all)
  pub write : (all part : List ℕ) → One (OfTwo (WritePromise all part))
