-- The gaps between the stored fields: that each field in a gap is 0 is one test of the whole gap.
use Prim.Native.Nat.{ℕ, ◌+◌, ◌*◌, ◌/◌, ◌%◌, ◌^◌, ◌<◌}
use mathlib.Core.Path.{◌≡◌, refl, sym, ap, ◌∙◌}
use mathlib.Core.Bool.{Bool, true, false, ◌&&◌, and_assoc}
use mathlib.Core.List.{List, [], ◌∷◌}
use native.Mathlib.Nat.{add_comm, mul-pos, mod-one}
use native.Mathlib.Omega.{arith}
use borrow.Author.Tests.{eqb-true, eqb-false, eq-eqb, ne_eqb}
use lib.Dec.{eqb}
use lib.Pow.{pow_pos, mod-pow-add, shr-shr}
use Rattle.state_parts.specs.declared.profile.Profile.{Profile}
use Rattle.state_parts.specs.declared.words.Words.{Words}
use Rattle.state_table.specs.Rows.{fields}
use Rattle.state_fields.specs.Words.{bits_at, bits_in, word_at}
use Rattle.state_fields.specs.Held.{words_ok}
use Rattle.state_fields.proofs.Fields.{Whole}
use Rattle.state_fields.proofs.Sound.{empty-sound}

abbrev pub sum : List ℕ → ℕ
sum [] = 0
sum (width ∷ widths) = width + sum widths

-- fields of these widths, one above the other, are 0
abbrev zeros : ℕ → List ℕ → ℕ → Bool → Bool
zeros at [] n rest = rest
zeros at (width ∷ widths) n rest = eqb (bits_at at width n) 0 && zeros (at + width) widths n rest

-- a number of two parts is 0 where both are
both_zero : (a b m : ℕ) → 0 < m → eqb (b * m + a) 0 ≡ (eqb a 0 && eqb b 0)
both_zero a b m h = go (eqb a 0) refl (eqb b 0) refl
  where
    go : (s : Bool) → eqb a 0 ≡ s → (t : Bool) → eqb b 0 ≡ t → eqb (b * m + a) 0 ≡ (s && t)
    go true e true f = rw (eqb-true a 0 e, eqb-true b 0 f) (eq-eqb (0 * m + 0) 0 (omega arith))
    go true e false f = let other = eqb-false b 0 f in let some = mul-pos {m = b} (omega arith) h in ne_eqb (b * m + a) 0 (λ q. omega arith)
    go false e t f = let other = eqb-false a 0 e in ne_eqb (b * m + a) 0 (λ q. omega arith)

one-gap : (at width more n : ℕ) → eqb (bits_at at (width + more) n) 0 ≡ (eqb (bits_at at width n) 0 && eqb (bits_at (at + width) more n) 0)
one-gap at width more n =
    let m = n / 2 ^ at in
    ap (λ (x : ℕ). eqb x 0) (ap (λ (k : ℕ). m % 2 ^ k) (add_comm width more) ∙ mod-pow-add m more width)
    ∙ both_zero (m % 2 ^ width) (m / 2 ^ width % 2 ^ more) (2 ^ width) (pow_pos width)
    ∙ ap (λ (x : ℕ). eqb (m % 2 ^ width) 0 && eqb (x % 2 ^ more) 0) (shr-shr n at width)

zero_bits : (n : ℕ) → eqb (n % 1) 0 ≡ true
zero_bits n = eq-eqb (n % 1) 0 (mod-one n)

zeros-gap : (at : ℕ) (widths : List ℕ) (n : ℕ) (rest : Bool) → zeros at widths n rest ≡ (eqb (bits_at at (sum widths) n) 0 && rest)
zeros-gap at [] n rest = sym (ap (λ (t : Bool). t && rest) (zero_bits (n / 2 ^ at)))
zeros-gap at (width ∷ widths) n rest =
    ap (λ (t : Bool). eqb (bits_at at width n) 0 && t) (zeros-gap (at + width) widths n rest)
    ∙ sym (and_assoc (eqb (bits_at at width n) 0) (eqb (bits_at (at + width) (sum widths) n) 0) rest)
    ∙ sym (ap (λ (t : Bool). t && rest) (one-gap at width (sum widths) n))

-- a gap: its word, its lowest bit there, and the widths of the fields in it
pub record Gap : Type 0 where
  pub word : ℕ
  pub low : ℕ
  pub widths : List ℕ

abbrev pub gap : ℕ → ℕ → List ℕ → Gap
gap word low widths = record { word = word; low = low; widths = widths }

abbrev pub empty : Gap → Words → Bool
empty g w = eqb (bits_at g.low (sum g.widths) (word_at w g.word)) 0

-- field by field, and gap by gap
abbrev each : List Gap → Words → Bool → Bool
each [] w rest = rest
each (g ∷ gs) w rest = zeros g.low g.widths (word_at w g.word) (each gs w rest)

abbrev pub gaps : Bool → List Gap → Words → Bool
gaps so [] w = so
gaps so (g ∷ gs) w = gaps (so && empty g w) gs w

gap-by-gap : (gs : List Gap) (w : Words) (so rest : Bool) → (gaps so gs w && rest) ≡ (so && each gs w rest)
gap-by-gap [] w so rest = refl
gap-by-gap (g ∷ gs) w so rest =
    gap-by-gap gs w (so && empty g w) rest ∙ and_assoc so (empty g w) (each gs w rest)
    ∙ sym (ap (λ (t : Bool). so && t) (zeros-gap g.low g.widths (word_at w g.word) (each gs w rest)))

-- the table's gaps
abbrev pub table_gaps : List Gap
table_gaps =
    gap 0 0 (4 ∷ 11 ∷ 1 ∷ 4 ∷ 8 ∷ 4 ∷ [])
    ∷ gap 0 32 (3 ∷ 12 ∷ 1 ∷ 4 ∷ 8 ∷ 4 ∷ [])
    ∷ gap 1 0 (4 ∷ [])
    ∷ gap 1 15 (1 ∷ 4 ∷ [])
    ∷ gap 1 28 (4 ∷ 4 ∷ [])
    ∷ gap 1 47 (1 ∷ 6 ∷ 2 ∷ 6 ∷ 2 ∷ [])
    ∷ gap 2 1 (2 ∷ 1 ∷ 2 ∷ 1 ∷ 1 ∷ [])
    ∷ gap 2 18 (1 ∷ [])
    ∷ gap 2 28 (1 ∷ 1 ∷ [])
    ∷ gap 2 37 (1 ∷ [])
    ∷ gap 2 42 (1 ∷ [])
    ∷ gap 2 44 (4 ∷ [])
    ∷ gap 3 20 (1 ∷ [])
    ∷ gap 3 24 (3 ∷ 3 ∷ [])
    ∷ gap 3 32 (3 ∷ [])
    ∷ gap 3 36 (4 ∷ 3 ∷ 1 ∷ 1 ∷ 1 ∷ 1 ∷ 1 ∷ 3 ∷ 2 ∷ 2 ∷ 1 ∷ 1 ∷ 1 ∷ 1 ∷ 1 ∷ 1 ∷ 2 ∷ 1 ∷ [])
    ∷ gap 4 0 (1 ∷ 1 ∷ 1 ∷ 1 ∷ 1 ∷ 1 ∷ 1 ∷ 1 ∷ 1 ∷ 1 ∷ 1 ∷ 1 ∷ 1 ∷ 1 ∷ 1 ∷ 1 ∷ 1 ∷ 1 ∷ [])
    ∷ gap 4 19 (1 ∷ 1 ∷ 1 ∷ 1 ∷ 1 ∷ [])
    ∷ gap 4 25 (1 ∷ [])
    ∷ gap 4 27 (1 ∷ [])
    ∷ gap 4 29 (1 ∷ 1 ∷ 1 ∷ 4 ∷ 8 ∷ 4 ∷ 2 ∷ 4 ∷ 2 ∷ [])
    ∷ []

pub empty-gaps : (p : Profile) (w : Words) → Whole w → (gaps true table_gaps w && eqb (bits_in 312 8 w) 0) ≡ words_ok p w
unfolding fields
empty-gaps p w whole = gap-by-gap table_gaps w true (eqb (bits_in 312 8 w) 0) ∙ empty-sound p w whole
