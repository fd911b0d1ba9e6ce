-- This product reads a number, or gives 1, 2 or 3, exactly when the paper's rows say so.
use Prim.Native.Nat.{ℕ, zero, suc, ◌+◌, ◌-◌, ◌*◌, ◌≤◌, ◌<◌}
use mathlib.Core.Path.{◌≡◌, refl, ap, ◌∙◌, subst}
use mathlib.Core.Bool.{Bool, true, false}
use mathlib.Core.List.{List, [], ◌∷◌, ◌++◌}
use native.Mathlib.Omega.{arith}
use native.Mathlib.Numerals.{add-one}
use lib.ListN.{length}
use lib.Dec.{ltb, eqb}
use borrow.Author.Tests.{le-ltb, ltb-true, ltb-false, eqb-true, eqb-false}
use Rattle.base.specs.Pick.{pick}
use Rattle.base.specs.Found.{Found, found, refused}
use Rattle.log_number.specs.Number.{too_large, zero_group, after_group, fifth_below, spell, read_groups, read_number}
use Rattle.log_number.specs.Promises.{Bytes}
use Rattle.log_number.proofs.Spellings.{limit, limit-pos, spell-small}
use Rattle.laws_format.specs.Format.{Groups, last, more, largest}
use Rattle.laws_format.specs.Unreadable.{High, NoNumber, cut_off, five-high, too-large, zero-last}
use Rattle.laws_format.proofs.Formats.{groups-are}

-- what stands at a list's start, of which k groups may follow the first, and what is read there
data View (k : ℕ) : List ℕ → Found ℕ → Type 0 where
  a-number : (n : ℕ) (groups rest : List ℕ) → Groups n groups → n < limit k → View k (groups ++ rest) (found n (length groups))
  short : (hs : List ℕ) → High hs → length hs ≤ k → View k hs (refused 1 (length hs))
  high : (hs rest : List ℕ) → High hs → length hs ≡ suc k → View k (hs ++ rest) (refused 3 k)
  over : (n : ℕ) (groups rest : List ℕ) → Groups n groups → limit k ≤ n → length groups ≡ suc k → View k (groups ++ rest) (refused 3 k)
  zeros : (hs rest : List ℕ) → High hs → 0 < length hs → length hs ≤ k → View k (hs ++ 0 ∷ rest) (refused 2 (length hs))

-- one group more, with the high bit
pub one-more : (b n : ℕ) (groups : List ℕ) → 128 ≤ b → b < 256 → 0 < n → Groups n groups → Groups (b - 128 + 128 * n) (b ∷ groups)
one-more b n groups lo hi p g =
    let byte : b - 128 + 128 ≡ b = omega arith in
    subst (λ (x : ℕ). Groups (b - 128 + 128 * n) (x ∷ groups)) byte (more (b - 128) n groups (omega arith) (omega arith) g)

behind-group : (k b : ℕ) {s : List ℕ} {x : Found ℕ} → 128 ≤ b → b < 256 → View k s x → View (suc k) (b ∷ s) (after_group b x)
behind-group k b lo hi (a-number n groups rest g small) = go (eqb n 0) refl
  where
    go : (t : Bool) → eqb n 0 ≡ t → View (suc k) (b ∷ (groups ++ rest)) (pick t zero_group (found (b - 128 + 128 * n) (length groups + 1)))
    go true e =
        let z : n ≡ 0 = eqb-true n 0 e in
        let is : groups ≡ 0 ∷ [] = groups-are g ∙ ap spell z ∙ spell-small 0 (omega arith) in
        rw is (zeros (b ∷ []) rest (lo, tt) (omega arith) (omega arith))
    go false e =
        let nz : n ≡ 0 → ⊥ = eqb-false n 0 e in
        rw add-one
        (a-number (b - 128 + 128 * n) (b ∷ groups) rest (one-more b n groups lo hi (omega arith) g) (omega arith))
behind-group k b lo hi (short hs h l) = short (b ∷ hs) (lo, h) (omega arith)
behind-group k b lo hi (high hs rest h l) = high (b ∷ hs) rest (lo, h) (ap suc l)
behind-group k b lo hi (over n groups rest g w l) = over (b - 128 + 128 * n) (b ∷ groups) rest (one-more b n groups lo hi (omega (arith, limit-pos k)) g) (omega arith) (ap suc l)
behind-group k b lo hi (zeros hs rest h p l) = zeros (b ∷ hs) rest (lo, h) (omega arith) (omega arith)

view : (k : ℕ) (s : List ℕ) → Bytes s → View k s (read_groups k s)
unfolding read_groups
view zero [] bs = short [] tt (omega arith)
view (suc k) [] bs = short [] tt (omega arith)
view zero (b ∷ s) bs = go (ltb b fifth_below) (ltb b 128) refl refl
  where
    go : (t u : Bool) → ltb b fifth_below ≡ t → ltb b 128 ≡ u → View zero (b ∷ s) (pick t (found b 1) too_large)
    go true u e f = let h = ltb-true b fifth_below e in a-number b (b ∷ []) s (last b (omega arith)) h
    go false true e f = over b (b ∷ []) s (last b (ltb-true b 128 f)) (ltb-false b fifth_below e) refl
    go false false e f = high (b ∷ []) s (ltb-false b 128 f, tt) refl
view (suc k) (b ∷ s) bs = go (ltb b 128) refl (view k s (λ i. bs (suc i)))
  where
    go : (t : Bool) → ltb b 128 ≡ t → View k s (read_groups k s) → View (suc k) (b ∷ s) (pick t (found b 1) (after_group b (read_groups k s)))
    go true e v = a-number b (b ∷ []) s (last b (ltb-true b 128 e)) (omega (arith, ltb-true b 128 e, limit-pos k))
    go false e v = behind-group k b (ltb-false b 128 e) (bs 0) v

-- the same in the paper's words
pub data Numbered : List ℕ → Found ℕ → Type 0 where
  value : (n : ℕ) (groups rest : List ℕ) → n ≤ largest → Groups n groups → Numbered (groups ++ rest) (found n (length groups))
  no_number : (n p : ℕ) (s : List ℕ) → NoNumber n s p → Numbered s (refused n p)

told : {s : List ℕ} {x : Found ℕ} → View 4 s x → Numbered s x
told (a-number n groups rest g small) = value n groups rest (omega arith) g
told (short hs h l) = no_number 1 _ _ (cut_off hs h (omega arith))
told (high hs rest h l) = no_number 3 4 _ (five-high hs rest h (omega arith))
told (over n groups rest g w l) = no_number 3 4 _ (too-large n groups rest g (omega arith) l)
told (zeros hs rest h p l) = no_number 2 _ _ (zero-last hs rest h (omega arith) (omega arith))

pub numbered : (s : List ℕ) → Bytes s → Numbered s (read_number s)
unfolding read_number
numbered s bs = told (view 4 s bs)

-- ---- each row gives its number
no_more : (k : ℕ) (hs : List ℕ) → High hs → length hs ≤ k → read_groups k hs ≡ refused 1 (length hs)
unfolding read_groups
no_more zero [] h l = refl
no_more (suc k) [] h l = refl
no_more zero (b ∷ hs) h l = absurd (omega arith)
no_more (suc k) (b ∷ hs) h l = simp (le-ltb b 128 h.0, no_more k hs h.1 (omega arith))

all-high : (k : ℕ) (hs rest : List ℕ) → High hs → length hs ≡ suc k → read_groups k (hs ++ rest) ≡ refused 3 k
unfolding read_groups
all-high k [] rest h l = absurd (omega arith)
all-high zero (b ∷ hs) rest h l = let big : 128 ≤ b = h.0 in simp (le-ltb b fifth_below (omega arith))
all-high (suc k) (b ∷ hs) rest h l = simp (le-ltb b 128 h.0, all-high k hs rest h.1 (omega arith))

above : (k : ℕ) {n : ℕ} {groups : List ℕ} (rest : List ℕ) → Groups n groups → limit k ≤ n → length groups ≡ suc k → read_groups k (groups ++ rest) ≡ refused 3 k
unfolding read_groups
above zero rest (last n h) w l = simp (le-ltb n fifth_below (omega arith))
above zero rest (more low n groups h p g) w l = simp (le-ltb (low + 128) fifth_below (omega arith))
above (suc k) rest (last n h) w l = absurd (omega (arith, limit-pos k))
above (suc k) rest (more low n groups h p g) w l = simp (le-ltb (low + 128) 128 (omega arith), above k rest g (omega arith) (omega arith))

zero-read : (k : ℕ) (rest : List ℕ) → read_groups k (0 ∷ rest) ≡ found 0 1
unfolding read_groups
zero-read zero rest = refl
zero-read (suc k) rest = refl

last-zero : (k : ℕ) (hs rest : List ℕ) → High hs → 0 < length hs → length hs ≤ k → read_groups k (hs ++ 0 ∷ rest) ≡ refused 2 (length hs)
unfolding read_groups
last-zero k [] rest h p l = absurd (omega arith)
last-zero zero (b ∷ hs) rest h p l = absurd (omega arith)
last-zero (suc k) (b ∷ []) rest h p l = simp (le-ltb b 128 h.0, zero-read k rest)
last-zero (suc k) (b ∷ c ∷ hs) rest h p l = simp (le-ltb b 128 h.0, last-zero k (c ∷ hs) rest h.1 (omega arith) (omega arith))

pub refused-number : {n p : ℕ} {s : List ℕ} → NoNumber n s p → read_number s ≡ refused n p
unfolding read_number
refused-number (cut_off hs h l) = no_more 4 hs h (omega arith)
refused-number (five-high hs rest h l) = all-high 4 hs rest h (omega arith)
refused-number (too-large n groups rest g w l) = above 4 rest g (omega arith) l
refused-number (zero-last hs rest h p l) = last-zero 4 hs rest h (omega arith) (omega arith)
