-- A line's numbers are pieces: each a number's text and the byte after it.
use Prim.Native.Nat.{ℕ, zero, suc, ◌+◌, ◌<◌}
use mathlib.Core.Path.{◌≡◌, refl, ap, ◌∙◌}
use mathlib.Core.List.{List, [], ◌∷◌, ◌++◌, append_assoc}
use native.Mathlib.Omega.{arith}
use native.Mathlib.Decide.{dec_lt}
use native.Mathlib.Numerals.{add-one}
use lib.Dec.{eqb}
use lib.ListN.{length, drop, get_or, drop_of_length-le}
use lib.Seq.{drop-cons}
use borrow.Author.Tests.{eq-eqb, ne_eqb}
use Rattle.base.specs.Pick.{pick}
use Rattle.base.proofs.Pieces.{joined, piece_at}
use Rattle.report_text.specs.Decimal.{decimal}
use Rattle.report_text.specs.Text.{byte_after, line_text}

abbrev pub words : List ℕ → List (List ℕ)
words [] = []
words (n ∷ more) = (decimal n ++ (byte_after more ∷ [])) ∷ words more

pub line-joined : (ns : List ℕ) → joined (words ns) ≡ line_text ns
unfolding line_text
line-joined [] = refl
line-joined (n ∷ more) = append_assoc (decimal n) (byte_after more ∷ []) (joined (words more)) ∙ ap (λ l. decimal n ++ (byte_after more ∷ l)) (line-joined more)

pub words_long : (ns : List ℕ) → length (words ns) ≡ length ns
words_long [] = refl
words_long (n ∷ more) = ap suc (words_long more)

-- the text of the number at a place, and the byte after it
abbrev pub word : List ℕ → ℕ → List ℕ
word ns i = decimal (get_or ns i 0) ++ (byte_after (drop (i + 1) ns) ∷ [])

pub word_at : (ns : List ℕ) (i : ℕ) → i < length ns → piece_at (words ns) i ≡ word ns i
word_at ns i h = rw add-one (go ns i h)
  where
    go : (ns : List ℕ) (i : ℕ) → i < length ns → piece_at (words ns) i ≡ decimal (get_or ns i 0) ++ (byte_after (drop (suc i) ns) ∷ [])
    go [] i h = absurd (omega arith)
    go (n ∷ more) zero h = refl
    go (n ∷ more) (suc i) h = go more i (omega arith)

-- the test for the last number gives the byte after it
pub after_is : (ns : List ℕ) (i : ℕ) → i < length ns → pick (eqb (i + 1) (length ns)) 10 32 ≡ byte_after (drop (i + 1) ns)
after_is ns i h = go (dec_lt (i + 1) (length ns))
  where
    go : Dec (i + 1 < length ns) → pick (eqb (i + 1) (length ns)) 10 32 ≡ byte_after (drop (i + 1) ns)
    go (yes l) = rw (drop-cons ns (i + 1) 0 l) (simp (ne_eqb (i + 1) (length ns) (λ e. omega arith)))
    go (no l) = rw (drop_of_length-le ns {i = i + 1} (omega arith)) (simp (eq-eqb (i + 1) (length ns) (omega arith)))
