-- Bytes that start with no number: which of them decide that, and how those that only end too early go on.
use Prim.Native.Nat.{ℕ, zero, suc, ◌+◌, ◌-◌, ◌*◌, ◌≤◌, ◌<◌}
use mathlib.Core.Path.{◌≡◌, refl, subst}
use mathlib.Core.List.{List, [], ◌∷◌, ◌++◌, append_assoc}
use mathlib.Core.Logic.{◌≢◌}
use native.Mathlib.Omega.{arith}
use lib.ListN.{length, take, get_or, length-append}
use lib.Seq.{length-take-le, take-length, take-append_seam, take-append-le, take-append-add, take_at}
use Rattle.log_number.specs.Promises.{Bytes}
use Rattle.log_number.proofs.Spellings.{limit, limit-pos}
use Rattle.laws_format.specs.Format.{Groups, last, more}
use Rattle.laws_format.specs.Unreadable.{High, NoNumber, cut_off, five-high, too-large, zero-last}
use Rattle.laws_format.proofs.NumbersRefused.{one-more}

-- ---- groups with the high bit
high-take : (k : ℕ) (hs : List ℕ) → High hs → High (take k hs)
high-take zero hs h = tt
high-take (suc k) [] h = tt
high-take (suc k) (b ∷ hs) h = (h.0, high-take k hs h.1)

-- a number's groups have it, all but the last
pub high-but-last : {n : ℕ} {groups : List ℕ} → Groups n groups → (k : ℕ) → length groups ≡ suc k → High (take k groups)
high-but-last (last n h) zero l = tt
high-but-last (last n h) (suc k) l = absurd (omega arith)
high-but-last (more low n groups h p g) zero l = tt
high-but-last (more low n groups h p g) (suc k) l = (omega arith, high-but-last g k (omega arith))

-- ---- which numbers there are, and where the place is
pub number-among : {n p : ℕ} {s : List ℕ} → NoNumber n s p → (1 ≤ n) × (n ≤ 3)
number-among (cut_off high h l) = (omega arith, omega arith)
number-among (five-high high rest h l) = (omega arith, omega arith)
number-among (too-large n groups rest g w l) = (omega arith, omega arith)
number-among (zero-last high rest h p l) = (omega arith, omega arith)

pub number-within : {n p : ℕ} {s : List ℕ} → NoNumber n s p → (p ≤ length s) × (n ≢ 1 → p < length s)
number-within (cut_off high h l) = (omega arith, λ other. absurd (other refl))
number-within (five-high high rest h l) = let k = length-append high rest in (omega arith, λ other. omega arith)
number-within (too-large n groups rest g w l) = let k = length-append groups rest in (omega arith, λ other. omega arith)
number-within (zero-last high rest h p l) = let k = length-append high (0 ∷ rest) in (omega arith, λ other. omega arith)

pub number-ends : {n p : ℕ} {s : List ℕ} → NoNumber n s p → n ≡ 1 → p ≡ length s
number-ends (cut_off high h l) e = refl
number-ends (five-high high rest h l) e = absurd (omega arith)
number-ends (too-large n groups rest g w l) e = absurd (omega arith)
number-ends (zero-last high rest h p l) e = absurd (omega arith)

pub number-fifth : {n p : ℕ} {s : List ℕ} → NoNumber n s p → n ≡ 3 → p ≡ 4
number-fifth (cut_off high h l) e = absurd (omega arith)
number-fifth (five-high high rest h l) e = refl
number-fifth (too-large n groups rest g w l) e = refl
number-fifth (zero-last high rest h p l) e = absurd (omega arith)

-- ---- the bytes up to and including it are enough
pub number-enough : {n p : ℕ} {s : List ℕ} → NoNumber n s p → n ≢ 1 → (rest : List ℕ) → NoNumber n (take (suc p) s ++ rest) p
number-enough (cut_off high h l) other rest = absurd (other refl)
number-enough (five-high high tail h l) other rest = rw (take_at high tail 5 l) (five-high high rest h l)
number-enough (too-large n groups tail g w l) other rest = rw (take_at groups tail 5 l) (too-large n groups rest g w l)
number-enough (zero-last high tail h p l) other rest =
    let one : suc (length high) ≡ length high + 1 = omega arith in
    rw (one, take-append-add high (0 ∷ tail) 1, append_assoc high (0 ∷ []) rest) (zero-last high rest h p l)

-- and without it the number is cut off
pub cut_high : (k : ℕ) (s : List ℕ) → High (take k s) → k ≤ 4 → k ≤ length s → NoNumber 1 (take k s) k
cut_high k s h few room =
    let long : length (take k s) ≡ k = length-take-le k s room in
    subst (λ (p : ℕ). NoNumber 1 (take k s) p) long (cut_off (take k s) h (omega arith))

pub number_cut : {n p : ℕ} {s : List ℕ} → NoNumber n s p → NoNumber 1 (take p s) p
number_cut (cut_off high h l) = rw (take-length high) (cut_off high h l)
number_cut (five-high high rest h l) = rw (take-append-le 4 high rest (omega arith)) (cut_high 4 high (high-take 4 high h) (omega arith) (omega arith))
number_cut (too-large n groups rest g w l) = rw (take-append-le 4 groups rest (omega arith)) (cut_high 4 groups (high-but-last g 4 l) (omega arith) (omega arith))
number_cut (zero-last high rest h p l) = rw (take-append_seam high (0 ∷ rest)) (cut_off high h l)

-- ---- 2: a zero byte behind one with the high bit
zero-behind : (k : ℕ) (high rest : List ℕ) → High high → length high ≡ suc k → (get_or (high ++ 0 ∷ rest) (suc k) 1 ≡ 0) × (128 ≤ get_or (high ++ 0 ∷ rest) k 0)
zero-behind k [] rest h l = absurd (omega arith)
zero-behind zero (b ∷ []) rest h l = (refl, h.0)
zero-behind zero (b ∷ c ∷ high) rest h l = absurd (omega arith)
zero-behind (suc k) (b ∷ high) rest h l = zero-behind k high rest h.1 (omega arith)

pub number-zero : {n p : ℕ} {s : List ℕ} → NoNumber n s p → n ≡ 2 → (0 < p) × (get_or s p 1 ≡ 0) × (128 ≤ get_or s (p - 1) 0)
number-zero (cut_off high h l) e = absurd (omega arith)
number-zero (five-high high rest h l) e = absurd (omega arith)
number-zero (too-large n groups rest g w l) e = absurd (omega arith)
number-zero (zero-last high rest h p l) e =
    let up : length high ≡ suc (length high - 1) = omega arith in
    let k = zero-behind (length high - 1) high rest h up in
    (p, rw up k.0, k.1)

-- ---- 1: with one group more it is a number
grown : (k : ℕ) (hs : List ℕ) → High hs → Bytes hs → length hs ≤ k → (v : ℕ) × (0 < v) × (v < limit k) × Groups v (hs ++ 1 ∷ [])
grown k [] h bs l = (1, omega arith, omega (arith, limit-pos k), last 1 (omega arith))
grown zero (b ∷ hs) h bs l = absurd (omega arith)
grown (suc k) (b ∷ hs) h bs l =
    let g = grown k hs h.1 (λ i. bs (suc i)) (omega arith) in
    let v : ℕ = g.0 in
    let byte : b < 256 = bs 0 in
    (b - 128 + 128 * v, omega (arith, g.1), omega (arith, g.2), one-more b v (hs ++ 1 ∷ []) h.0 byte g.1 g.3)

pub number-grows : {n p : ℕ} {s : List ℕ} → NoNumber n s p → n ≡ 1 → Bytes s → (v : ℕ) × (0 < v) × (v < limit 4) × Groups v (s ++ 1 ∷ [])
number-grows (cut_off high h l) e bs = grown 4 high h bs (omega arith)
number-grows (five-high high rest h l) e bs = absurd (omega arith)
number-grows (too-large n groups rest g w l) e bs = absurd (omega arith)
number-grows (zero-last high rest h p l) e bs = absurd (omega arith)
