-- Setting 14 as its bits: what the masks of one register leave of it, one after the other.
use Prim.Native.Nat.{ℕ, zero, suc, ◌+◌, ◌*◌, ◌/◌, ◌%◌, ◌^◌, ◌≤◌, ◌<◌}
use mathlib.Core.Path.{◌≡◌, refl, ap, ◌∙◌}
use native.Mathlib.Nat.{mod-eq_of_lt}
use native.Mathlib.Omega.{arith}
use lib.Dec.{eqb}
use lib.Pow.{high, low}
use Rattle.base.specs.Pick.{pick}
use Rattle.state_fields.specs.Words.{put_at}
use Rattle.state_fields.proofs.Puts.{shape}
use Rattle.state_runs.specs.Registers.{masked}
use Rattle.laws_registers.specs.Masks.{bit_at, masks_low, masks_high}

-- bits put between those above and those below
put-between : (at width v hi old lo : ℕ) → old < 2 ^ width → lo < 2 ^ at → v < 2 ^ width → put_at at width v ((hi * 2 ^ width + old) * 2 ^ at + lo) ≡ (hi * 2 ^ width + v) * 2 ^ at + lo
put-between at width v hi old lo ho hl hv =
    shape at width v ((hi * 2 ^ width + old) * 2 ^ at + lo)
    ∙ ap (λ (x : ℕ). (x / 2 ^ width * 2 ^ width + v % 2 ^ width) * 2 ^ at + ((hi * 2 ^ width + old) * 2 ^ at + lo) % 2 ^ at) (high (hi * 2 ^ width + old) at hl)
    ∙ ap (λ (x : ℕ). (x * 2 ^ width + v % 2 ^ width) * 2 ^ at + ((hi * 2 ^ width + old) * 2 ^ at + lo) % 2 ^ at) (high hi width ho)
    ∙ ap (λ (x : ℕ). (hi * 2 ^ width + x) * 2 ^ at + ((hi * 2 ^ width + old) * 2 ^ at + lo) % 2 ^ at) (mod-eq_of_lt hv)
    ∙ ap (λ (x : ℕ). (hi * 2 ^ width + v) * 2 ^ at + x) (low (hi * 2 ^ width + old) at hl)

-- a code of one bit stands for as many ones
ones-one : (c : ℕ) → c ≤ 1 → pick (eqb c 0) 0 1 ≡ c
ones-one zero h = refl
ones-one (suc zero) h = refl
ones-one (suc (suc c)) h = absurd (omega arith)

ones-two : (c : ℕ) → c ≤ 1 → pick (eqb c 0) 0 3 ≡ c * 3
ones-two zero h = refl
ones-two (suc zero) h = refl
ones-two (suc (suc c)) h = absurd (omega arith)

masked-one : (at c hi old lo : ℕ) → c ≤ 1 → old ≤ 1 → lo < 2 ^ at → masked at 1 c ((hi * 2 + old) * 2 ^ at + lo) ≡ (hi * 2 + c) * 2 ^ at + lo
masked-one at c hi old lo hc ho hl = ap (λ (v : ℕ). put_at at 1 v ((hi * 2 + old) * 2 ^ at + lo)) (ones-one c hc) ∙ put-between at 1 c hi old lo (omega arith) hl (omega arith)

masked-two : (c hi old : ℕ) → c ≤ 1 → old ≤ 3 → masked 0 2 c (hi * 4 + old) ≡ hi * 4 + c * 3
masked-two c hi old hc ho =
    ap (λ (v : ℕ). put_at 0 2 v (hi * 4 + old)) (ones-two c hc) ∙ ap (put_at 0 2 (c * 3)) (omega arith) ∙ put-between 0 2 (c * 3) hi old 0 (omega arith) (omega arith) (omega arith) ∙ omega arith

-- eight bits, and what is above them
abbrev eight : ℕ → ℕ → ℕ → ℕ → ℕ → ℕ → ℕ → ℕ
eight q b7 b6 b5 b4 b3 b2 = q * 256 + b7 * 128 + b6 * 64 + b5 * 32 + b4 * 16 + b3 * 8 + b2 * 4

module _ (c0 c1 c3 c4 c5 c6 c7 : ℕ) (h0 : c0 ≤ 1) (h1 : c1 ≤ 1) (h3 : c3 ≤ 1) (h4 : c4 ≤ 1) (h5 : c5 ≤ 1) (h6 : c6 ≤ 1) (h7 : c7 ≤ 1) (q b7 b6 b5 b4 b3 b2 r : ℕ)
    (k7 : b7 ≤ 1) (k6 : b6 ≤ 1) (k5 : b5 ≤ 1) (k4 : b4 ≤ 1) (k3 : b3 ≤ 1) (k2 : b2 ≤ 1) (kr : r ≤ 3) where
  sixth : masked 6 1 c0 (eight q b7 b6 b5 b4 b3 b2 + r) ≡ eight q b7 c0 b5 b4 b3 b2 + r
  sixth = ap (masked 6 1 c0) (omega arith) ∙ masked-one 6 c0 (q * 2 + b7) b6 (b5 * 32 + b4 * 16 + b3 * 8 + b2 * 4 + r) h0 k6 (omega arith) ∙ omega arith

  seventh : masked 7 1 c1 (eight q b7 c0 b5 b4 b3 b2 + r) ≡ eight q c1 c0 b5 b4 b3 b2 + r
  seventh = ap (masked 7 1 c1) (omega arith) ∙ masked-one 7 c1 q b7 (c0 * 64 + b5 * 32 + b4 * 16 + b3 * 8 + b2 * 4 + r) h1 k7 (omega arith) ∙ omega arith

  fifth : masked 5 1 c3 (eight q c1 c0 b5 b4 b3 b2 + r) ≡ eight q c1 c0 c3 b4 b3 b2 + r
  fifth = ap (masked 5 1 c3) (omega arith) ∙ masked-one 5 c3 (q * 4 + c1 * 2 + c0) b5 (b4 * 16 + b3 * 8 + b2 * 4 + r) h3 k5 (omega arith) ∙ omega arith

  fourth : masked 4 1 c4 (eight q c1 c0 c3 b4 b3 b2 + r) ≡ eight q c1 c0 c3 c4 b3 b2 + r
  fourth = ap (masked 4 1 c4) (omega arith) ∙ masked-one 4 c4 (q * 8 + c1 * 4 + c0 * 2 + c3) b4 (b3 * 8 + b2 * 4 + r) h4 k4 (omega arith) ∙ omega arith

  third : masked 3 1 c5 (eight q c1 c0 c3 c4 b3 b2 + r) ≡ eight q c1 c0 c3 c4 c5 b2 + r
  third = ap (masked 3 1 c5) (omega arith) ∙ masked-one 3 c5 (q * 16 + c1 * 8 + c0 * 4 + c3 * 2 + c4) b3 (b2 * 4 + r) h5 k3 (omega arith) ∙ omega arith

  second : masked 2 1 c6 (eight q c1 c0 c3 c4 c5 b2 + r) ≡ eight q c1 c0 c3 c4 c5 c6 + r
  second = ap (masked 2 1 c6) (omega arith) ∙ masked-one 2 c6 (q * 32 + c1 * 16 + c0 * 8 + c3 * 4 + c4 * 2 + c5) b2 r h6 k2 (omega arith) ∙ omega arith

  lowest : masked 0 2 c7 (eight q c1 c0 c3 c4 c5 c6 + r) ≡ eight q c1 c0 c3 c4 c5 c6 + c7 * 3
  lowest = ap (masked 0 2 c7) (omega arith) ∙ masked-two c7 (q * 64 + c1 * 32 + c0 * 16 + c3 * 8 + c4 * 4 + c5 * 2 + c6) r h7 kr ∙ omega arith

  all-low : masked 0 2 c7 (masked 2 1 c6 (masked 3 1 c5 (masked 4 1 c4 (masked 5 1 c3 (masked 7 1 c1 (masked 6 1 c0 (eight q b7 b6 b5 b4 b3 b2 + r))))))) ≡ eight q c1 c0 c3 c4 c5 c6 + c7 * 3
  all-low =
      ap (λ (n : ℕ). masked 0 2 c7 (masked 2 1 c6 (masked 3 1 c5 (masked 4 1 c4 (masked 5 1 c3 (masked 7 1 c1 n)))))) sixth
      ∙ ap (λ (n : ℕ). masked 0 2 c7 (masked 2 1 c6 (masked 3 1 c5 (masked 4 1 c4 (masked 5 1 c3 n))))) seventh
      ∙ ap (λ (n : ℕ). masked 0 2 c7 (masked 2 1 c6 (masked 3 1 c5 (masked 4 1 c4 n)))) fifth ∙ ap (λ (n : ℕ). masked 0 2 c7 (masked 2 1 c6 (masked 3 1 c5 n))) fourth
      ∙ ap (λ (n : ℕ). masked 0 2 c7 (masked 2 1 c6 n)) third ∙ ap (masked 0 2 c7) second ∙ lowest

eight-bits : (n : ℕ) → n ≡ eight (n / 256) (n / 128 % 2) (n / 64 % 2) (n / 32 % 2) (n / 16 % 2) (n / 8 % 2) (n / 4 % 2) + n % 4
eight-bits n =
    joined n (n / 4) (n / 8) (n / 16) (n / 32) (n / 64) (n / 128) (n / 256) (n % 4) (n / 4 % 2) (n / 8 % 2) (n / 16 % 2) (n / 32 % 2) (n / 64 % 2) (n / 128 % 2)
    (omega arith) (omega arith) (omega arith) (omega arith) (omega arith) (omega arith) (omega arith)
  where
    joined : (n q4 q8 q16 q32 q64 q128 q256 r b2 b3 b4 b5 b6 b7 : ℕ) → n ≡ q4 * 4 + r → q4 ≡ q8 * 2 + b2 → q8 ≡ q16 * 2 + b3 → q16 ≡ q32 * 2 + b4 → q32 ≡ q64 * 2 + b5
        → q64 ≡ q128 * 2 + b6 → q128 ≡ q256 * 2 + b7 → n ≡ eight q256 b7 b6 b5 b4 b3 b2 + r
    joined n q4 q8 q16 q32 q64 q128 q256 r b2 b3 b4 b5 b6 b7 e e2 e3 e4 e5 e6 e7 = omega arith

bit-small : (k byte : ℕ) → bit_at k byte ≤ 1
bit-small k byte = omega arith

-- the masks of 0x22
pub low-masks : (byte n : ℕ)
    → masked 0 2 (bit_at 7 byte) (masked 2 1 (bit_at 6 byte) (masked 3 1 (bit_at 5 byte) (masked 4 1 (bit_at 4 byte) (masked 5 1 (bit_at 3 byte) (masked 7 1 (bit_at 1 byte) (masked 6 1 (bit_at 0 byte) n))))))
    ≡ masks_low byte n
low-masks byte n =
    let c : ℕ → ℕ = λ k. bit_at k byte in
    ap (λ (m : ℕ). masked 0 2 (c 7) (masked 2 1 (c 6) (masked 3 1 (c 5) (masked 4 1 (c 4) (masked 5 1 (c 3) (masked 7 1 (c 1) (masked 6 1 (c 0) m))))))) (eight-bits n)
    ∙ all-low (c 0) (c 1) (c 3) (c 4) (c 5) (c 6) (c 7) (bit-small 0 byte) (bit-small 1 byte) (bit-small 3 byte) (bit-small 4 byte) (bit-small 5 byte) (bit-small 6 byte) (bit-small 7 byte)
    (n / 256) (n / 128 % 2) (n / 64 % 2) (n / 32 % 2) (n / 16 % 2) (n / 8 % 2) (n / 4 % 2) (n % 4)
    (omega arith) (omega arith) (omega arith) (omega arith) (omega arith) (omega arith) (omega arith)
    ∙ omega arith

-- the four bits above eight
abbrev four : ℕ → ℕ → ℕ → ℕ → ℕ
four a11 a10 a9 a8 = a11 * 2048 + a10 * 1024 + a9 * 512 + a8 * 256

module _ (c3 c5 c6 c7 : ℕ) (h3 : c3 ≤ 1) (h5 : c5 ≤ 1) (h6 : c6 ≤ 1) (h7 : c7 ≤ 1) (a11 a10 a9 a8 r : ℕ) (k11 : a11 ≤ 1) (k10 : a10 ≤ 1) (k9 : a9 ≤ 1) (k8 : a8 ≤ 1) (kr : r ≤ 255) where
  ninth : masked 9 1 c3 (four a11 a10 a9 a8 + r) ≡ four a11 a10 c3 a8 + r
  ninth = ap (masked 9 1 c3) (omega arith) ∙ masked-one 9 c3 (a11 * 2 + a10) a9 (a8 * 256 + r) h3 k9 (omega arith) ∙ omega arith

  eleventh : masked 11 1 c5 (four a11 a10 c3 a8 + r) ≡ four c5 a10 c3 a8 + r
  eleventh = ap (masked 11 1 c5) (omega arith) ∙ masked-one 11 c5 0 a11 (a10 * 1024 + c3 * 512 + a8 * 256 + r) h5 k11 (omega arith) ∙ omega arith

  tenth : masked 10 1 c6 (four c5 a10 c3 a8 + r) ≡ four c5 c6 c3 a8 + r
  tenth = ap (masked 10 1 c6) (omega arith) ∙ masked-one 10 c6 c5 a10 (c3 * 512 + a8 * 256 + r) h6 k10 (omega arith) ∙ omega arith

  eighth : masked 8 1 c7 (four c5 c6 c3 a8 + r) ≡ four c5 c6 c3 c7 + r
  eighth = ap (masked 8 1 c7) (omega arith) ∙ masked-one 8 c7 (c5 * 4 + c6 * 2 + c3) a8 r h7 k8 (omega arith) ∙ omega arith

  all-high : masked 8 1 c7 (masked 10 1 c6 (masked 11 1 c5 (masked 9 1 c3 (four a11 a10 a9 a8 + r)))) ≡ four c5 c6 c3 c7 + r
  all-high =
      ap (λ (n : ℕ). masked 8 1 c7 (masked 10 1 c6 (masked 11 1 c5 n))) ninth ∙ ap (λ (n : ℕ). masked 8 1 c7 (masked 10 1 c6 n)) eleventh ∙ ap (masked 8 1 c7) tenth ∙ eighth

four-bits : (n : ℕ) → n < 4096 → n ≡ four (n / 2048) (n / 1024 % 2) (n / 512 % 2) (n / 256 % 2) + n % 256
four-bits n h =
    joined n (n / 256) (n / 512) (n / 1024) (n / 2048) (n % 256) (n / 256 % 2) (n / 512 % 2) (n / 1024 % 2) (omega arith) (omega arith) (omega arith) (omega arith)
  where
    joined : (n q256 q512 q1024 q2048 r b8 b9 b10 : ℕ) → n ≡ q256 * 256 + r → q256 ≡ q512 * 2 + b8 → q512 ≡ q1024 * 2 + b9 → q1024 ≡ q2048 * 2 + b10
        → n ≡ four q2048 b10 b9 b8 + r
    joined n q256 q512 q1024 q2048 r b8 b9 b10 e e8 e9 e10 = omega arith

-- those of 0x23
pub high-masks : (byte n : ℕ) → n < 4096 → masked 8 1 (bit_at 7 byte) (masked 10 1 (bit_at 6 byte) (masked 11 1 (bit_at 5 byte) (masked 9 1 (bit_at 3 byte) n))) ≡ masks_high byte n
high-masks byte n small =
    let c : ℕ → ℕ = λ k. bit_at k byte in
    ap (λ (m : ℕ). masked 8 1 (c 7) (masked 10 1 (c 6) (masked 11 1 (c 5) (masked 9 1 (c 3) m)))) (four-bits n small)
    ∙ all-high (c 3) (c 5) (c 6) (c 7) (bit-small 3 byte) (bit-small 5 byte) (bit-small 6 byte) (bit-small 7 byte) (n / 2048) (n / 1024 % 2) (n / 512 % 2) (n / 256 % 2) (n % 256)
    (omega arith) (omega arith) (omega arith) (omega arith) (omega arith)
    ∙ omega arith

-- both stay below 2^12
pub low_small : (byte n : ℕ) → n < 4096 → masks_low byte n < 4096
low_small byte n small =
    most (n / 256) (bit_at 0 byte) (bit_at 1 byte) (bit_at 3 byte) (bit_at 4 byte) (bit_at 5 byte) (bit_at 6 byte) (bit_at 7 byte) (omega arith)
    (bit-small 0 byte) (bit-small 1 byte) (bit-small 3 byte) (bit-small 4 byte) (bit-small 5 byte) (bit-small 6 byte) (bit-small 7 byte)
  where
    most : (q c0 c1 c3 c4 c5 c6 c7 : ℕ) → q ≤ 15 → c0 ≤ 1 → c1 ≤ 1 → c3 ≤ 1 → c4 ≤ 1 → c5 ≤ 1 → c6 ≤ 1 → c7 ≤ 1
        → q * 256 + c7 * 3 + c6 * 4 + c5 * 8 + c4 * 16 + c3 * 32 + c0 * 64 + c1 * 128 < 4096
    most q c0 c1 c3 c4 c5 c6 c7 hq h0 h1 h3 h4 h5 h6 h7 = omega arith

pub high_small : (byte n : ℕ) → masks_high byte n < 4096
high_small byte n = most (n % 256) (bit_at 3 byte) (bit_at 5 byte) (bit_at 6 byte) (bit_at 7 byte) (omega arith) (bit-small 3 byte) (bit-small 5 byte) (bit-small 6 byte) (bit-small 7 byte)
  where
    most : (r c3 c5 c6 c7 : ℕ) → r ≤ 255 → c3 ≤ 1 → c5 ≤ 1 → c6 ≤ 1 → c7 ≤ 1 → r + c7 * 256 + c3 * 512 + c6 * 1024 + c5 * 2048 < 4096
    most r c3 c5 c6 c7 hr h3 h5 h6 h7 = omega arith

-- PG_MASK's two bits are alike
pub low_alike : (byte n : ℕ) → bit_at 0 (masks_low byte n) ≡ bit_at 1 (masks_low byte n)
low_alike byte n =
    both (bit_at 7 byte) (n / 256 * 64 + bit_at 6 byte + bit_at 5 byte * 2 + bit_at 4 byte * 4 + bit_at 3 byte * 8 + bit_at 0 byte * 16 + bit_at 1 byte * 32) (masks_low byte n) (bit-small 7 byte)
    (sums (n / 256) (bit_at 0 byte) (bit_at 1 byte) (bit_at 3 byte) (bit_at 4 byte) (bit_at 5 byte) (bit_at 6 byte) (bit_at 7 byte))
  where
    sums : (q c0 c1 c3 c4 c5 c6 c7 : ℕ)
        → q * 256 + c7 * 3 + c6 * 4 + c5 * 8 + c4 * 16 + c3 * 32 + c0 * 64 + c1 * 128 ≡ (q * 64 + c6 + c5 * 2 + c4 * 4 + c3 * 8 + c0 * 16 + c1 * 32) * 4 + c7 * 3
    sums q c0 c1 c3 c4 c5 c6 c7 = omega arith

    both : (c h m : ℕ) → c ≤ 1 → m ≡ h * 4 + c * 3 → bit_at 0 m ≡ bit_at 1 m
    both zero h m hc e = omega arith
    both (suc zero) h m hc e = omega arith
    both (suc (suc c)) h m hc e = absurd (omega arith)
