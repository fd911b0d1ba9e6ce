-- Flags as a number: its bits, lowest first, are the flags.
use Prim.Native.Nat.{ℕ, zero, suc, ◌+◌, ◌*◌, ◌/◌, ◌%◌, ◌^◌, ◌≤◌, ◌<◌, max}
use mathlib.Core.Path.{◌≡◌, refl, sym, ap, ap₂, ◌∙◌}
use mathlib.Core.Bool.{Bool, true, false, not, ◌&&◌, ◌||◌, or-false, or_assoc}
use mathlib.Core.List.{List, [], ◌∷◌}
use native.Mathlib.Omega.{arith}
use native.Mathlib.Nat.{div-div-eq-div-mul}
use borrow.Author.Tests.{eq-eqb, ne_eqb, eqb-true, eqb-false}
use lib.Bits.{bit_or, or_step, or_zero_l, or_zero_r, or_lt}
use lib.Dec.{eqb}
use Rattle.base.specs.Pick.{bit_of}
use Rattle.state_parts.specs.Edges.{flags_number, merged, pulse_of, all_flags}
use Rattle.state_parts.specs.FlagLaws.{either_of, FlagsJoin, FlagsFit}
use Rattle.state_parts.specs.declared.flags.Edges.{Edges}

bit-low : (t : Bool) → bit_of t ≤ 1
bit-low true = omega arith
bit-low false = omega arith

-- bits as a number, the lowest first
abbrev value : List Bool → ℕ
value [] = 0
value (t ∷ ts) = bit_of t + value ts * 2

half_of : (t : Bool) (n : ℕ) → (bit_of t + n * 2) / 2 ≡ n
half_of t n = omega (arith, bit-low t)

odd-of : (t : Bool) (n : ℕ) → (bit_of t + n * 2) % 2 ≡ bit_of t
odd-of t n = omega (arith, bit-low t)

higher : (t u : Bool) → max (bit_of t) (bit_of u) ≡ bit_of (t || u)
higher true true = refl
higher true false = refl
higher false true = refl
higher false false = refl

abbrev each_or : List Bool → List Bool → List Bool
each_or [] us = us
each_or (t ∷ ts) [] = t ∷ ts
each_or (t ∷ ts) (u ∷ us) = (t || u) ∷ each_or ts us

-- one bit of either, and the bits above it
or-value : (ts us : List Bool) → bit_or (value ts) (value us) ≡ value (each_or ts us)
or-value [] us = or_zero_l (value us)
or-value (t ∷ ts) [] = or_zero_r (value (t ∷ ts))
or-value (t ∷ ts) (u ∷ us) =
    let n = value ts in
    let m = value us in
    let low = ap₂ max (odd-of t n) (odd-of u m) ∙ higher t u in
    let high = ap₂ bit_or (half_of t n) (half_of u m) ∙ or-value ts us in
    let e : bit_or (bit_of t + n * 2) (bit_of u + m * 2) ≡ value (each_or ts us) * 2 + bit_of (t || u) =
    or_step (bit_of t + n * 2) (bit_of u + m * 2) ∙ ap₂ (λ a b. a * 2 + b) high low in
    omega (arith, e)

abbrev tests : Edges → List Bool
tests e =
    e.good ∷ e.lost ∷ e.iindpm ∷ e.vindpm ∷ e.thermal ∷ e.expired ∷ e.phase ∷ e.band ∷ e.inputover ∷ e.shutdown ∷ e.packover ∷ e.limit ∷ []

number_is : (e : Edges) → flags_number e ≡ value (tests e)
unfolding flags_number
number_is e = omega arith

pub flags-join : FlagsJoin
unfolding merged
flags-join held edges =
    ap₂ bit_or (number_is held) (number_is edges) ∙ or-value (tests held) (tests edges) ∙ sym (number_is (either_of held edges))

edges_fit : (e : Edges) → flags_number e ≤ all_flags
unfolding flags_number
edges_fit e =
    omega (arith, bit-low e.good, bit-low e.lost, bit-low e.iindpm, bit-low e.vindpm, bit-low e.thermal, bit-low e.expired, bit-low e.phase, bit-low e.band, bit-low e.inputover, bit-low e.shutdown, bit-low e.packover, bit-low e.limit)

pub flags-fit : FlagsFit
unfolding merged
flags-fit held edges h =
    let e : bit_or held (flags_number edges) < 2 ^ 12 = or_lt 12 held (flags_number edges) (omega (arith, h)) (omega (arith, edges_fit edges)) in
    omega (arith, e)

-- two numbers with one lowest bit are equal if what stands above it is
above : (h q d : ℕ) → eqb (h * 2 + d) (q * 2 + d) ≡ eqb h q
above h q d = go (eqb h q) refl
  where
    go : (b : Bool) → eqb h q ≡ b → eqb (h * 2 + d) (q * 2 + d) ≡ b
    go true e = eq-eqb (h * 2 + d) (q * 2 + d) (ap (λ n. n * 2 + d) (eqb-true h q e))
    go false e = ne_eqb (h * 2 + d) (q * 2 + d) (λ p. eqb-false h q e (omega (arith, p)))

-- whether a bit or one above it isn't among the masks
apart : (t : Bool) (h q d : ℕ) → d ≤ 1 → not (eqb (h * 2 + max (bit_of t) d) (q * 2 + d)) ≡ ((t && eqb d 0) || not (eqb h q))
apart true h q zero l = ap not (ne_eqb (h * 2 + 1) (q * 2 + 0) (λ p. omega (arith, p)))
apart false h q zero l = ap not (above h q 0)
apart true h q (suc zero) l = ap not (above h q 1)
apart false h q (suc zero) l = ap not (above h q 1)
apart t h q (suc (suc d)) l = absurd (let z : ⊥ = omega (arith, l) in z)

lowest : (t : Bool) (n m : ℕ) → not (eqb (bit_or (bit_of t + n * 2) m) m) ≡ ((t && eqb (m % 2) 0) || not (eqb (bit_or n (m / 2)) (m / 2)))
lowest t n m =
    let h = bit_or n (m / 2) in
    let e : bit_or (bit_of t + n * 2) m ≡ h * 2 + max (bit_of t) (m % 2) =
    or_step (bit_of t + n * 2) m ∙ ap₂ (λ a b. bit_or a (m / 2) * 2 + max b (m % 2)) (half_of t n) (odd-of t n) in
    let d : m ≡ m / 2 * 2 + m % 2 = omega arith in
    ap₂ (λ a b. not (eqb a b)) e d ∙ apart t h (m / 2) (m % 2) (omega arith)

-- whether some bit isn't among the masks, the lowest first
abbrev some : Bool → List Bool → ℕ → Bool
some found [] masks = found
some found (t ∷ ts) masks = some (found || (t && eqb (masks % 2) 0)) ts (masks / 2)

some_is : (found : Bool) (ts : List Bool) (m : ℕ) → (found || not (eqb (bit_or (value ts) m) m)) ≡ some found ts m
some_is found [] m = ap (λ b. found || not b) (eq-eqb m m refl) ∙ or-false found
some_is found (t ∷ ts) m =
    ap (λ b. found || b) (lowest t (value ts) m)
    ∙ sym (or_assoc found (t && eqb (m % 2) 0) (not (eqb (bit_or (value ts) (m / 2)) (m / 2))))
    ∙ some_is (found || (t && eqb (m % 2) 0)) ts (m / 2)

quarter : (m w : ℕ) → m / w / 2 ≡ m / (w * 2)
quarter m w = div-div-eq-div-mul m w 2

by-weight : (e : Edges) (m : ℕ) → some false (tests e) m ≡ pulse_of e m
unfolding pulse_of
by-weight e m =
    let whole : m / 1 ≡ m = omega arith in
    rw (whole, quarter m 2, quarter m 4, quarter m 8, quarter m 16, quarter m 32, quarter m 64, quarter m 128, quarter m 256, quarter m 512, quarter m 1024)

-- an event pulses if the masks don't have all its edges
pub pulse-means : (e : Edges) (m : ℕ) → not (eqb (bit_or (flags_number e) m) m) ≡ pulse_of e m
pulse-means e m = ap (λ n. not (eqb (bit_or n m) m)) (number_is e) ∙ some_is false (tests e) m ∙ by-weight e m
