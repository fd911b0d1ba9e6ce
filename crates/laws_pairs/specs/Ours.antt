-- This product's comparison and the part that it hands back, by the definitions that the contracts of `compare` and `rest` of log_pairs cite. They are what the paper
-- says, and no others are.
use Rattle.std.specs.Prelude.{ℕ, ◌≡◌, List, ◌↔◌}
use Rattle.std.specs.Borrow.{Bor}
use Rattle.log_number.specs.Promises.{Bytes}
use Rattle.log_event.specs.Kinds.{kinds}
use Rattle.log_pairs.specs.Comparing.{Answer, compare_of}
use Rattle.log_pairs.specs.Rests.{lacked_part}
use Rattle.laws_pairs.specs.Compared.{SideBySide, Comparer, Compares}
use Rattle.laws_pairs.specs.Handed.{HandedBack}

abbrev pub our_compare : Comparer
our_compare = compare_of kinds

-- this product compares as the paper says
abbrev pub OurCompares : Type 0
OurCompares = Compares our_compare

-- two byte strings come to one answer alone
abbrev pub OneCompared : Type 0
OneCompared = (a b : List ℕ) → Bytes a → Bytes b → (x y : Answer) → SideBySide a b x → SideBySide a b y → x ≡ y

-- whoever compares as the paper says answers as this product does, of every two byte strings
abbrev pub OnlyComparer : Type 0
OnlyComparer = (compare : Comparer) → Compares compare → (a b : List ℕ) → Bytes a → Bytes b → compare a b ≡ our_compare a b

-- of every two lent logs exactly the part that this product hands back
abbrev pub OurRest : Type 0
OurRest = (a b : Bor (List ℕ)) → Bytes a.now → Bytes b.now → (part : List ℕ × (ℕ × ℕ)) → HandedBack a b part ↔ (part ≡ lacked_part a b)
