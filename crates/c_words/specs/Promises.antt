-- What is promised of words: the types of the theorems that proofs/ proves.
use Rattle.std.specs.Prelude.{ℕ, ◌<◌, ◌^◌, ◌≡◌, true, List, [], ◌∷◌, length}
use Rattle.c_words.specs.Words.{bytes_of, words_in}
use Rattle.c_words.specs.Same.{same_bytes}

-- each number has 32 bits
abbrev pub AllWords : List ℕ → Type 0
AllWords [] = Unit {0}
AllWords (n ∷ ns) = (n < 2 ^ 32) × AllWords ns

-- words read back from their bytes
abbrev pub ReadsBack : Type 0
ReadsBack = (ns : List ℕ) → AllWords ns → words_in (length ns) (bytes_of ns) ≡ ns

-- bytes are the same exactly if the test says so
pub record SameTold : Type 0 where
  pub told : (a b : List ℕ) → same_bytes a b ≡ true → a ≡ b
  pub holds : (a : List ℕ) → same_bytes a a ≡ true
