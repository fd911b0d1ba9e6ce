-- The last arm of a `match` over codes that count from 0: what is none of the codes before it is it, or more.
use Rattle.std.proofs.Common.{◌≡◌, ℕ, zero, suc, ◌<◌, ◌≤◌, arith}

-- none of the first so many codes, as a `match` tells it of its last arm
abbrev pub NoneOf : ℕ → ℕ → Type 0
NoneOf m zero = Unit {0}
NoneOf m (suc k) = NoneOf m k × (m ≡ k → ⊥)

more : (m k : ℕ) → k ≤ m → (m ≡ k → ⊥) → suc k ≤ m
more m k h other = omega arith

pub at_least : (m k : ℕ) → NoneOf m k → k ≤ m
at_least m zero none = omega arith
at_least m (suc k) none = more m k (at_least m k none.0) none.1

pub last_code : (m k : ℕ) → NoneOf m k → m < suc k → m ≡ k
last_code m k none below = let h = at_least m k none in omega (arith, h)
