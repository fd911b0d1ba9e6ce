-- Facts on tests and choices alone.
use Prim.Native.Nat.{ℕ, ◌+◌, min}
use native.Mathlib.Omega.{arith}
use native.Mathlib.Nat.{add-zero}
use mathlib.Core.Path.{◌≡◌, refl, sym}
use mathlib.Core.Bool.{Bool, true, false, not, ◌&&◌, ◌||◌}
use lib.Dec.{eqb}
use borrow.Author.Tests.{eqb-true}
use Rattle.base.specs.Pick.{pick}

-- a function of a choice is the choice of its values
pub through : {A B : Type 0} (f : A → B) (b : Bool) (x y : A) → pick b (f x) (f y) ≡ f (pick b x y)
through f true x y = refl
through f false x y = refl

-- what is chosen where a number is n may be worked out at n
pub chosen_at : {A : Type 0} (n a : ℕ) (f : ℕ → A) (x : A) → pick (eqb a n) (f a) x ≡ pick (eqb a n) (f n) x
chosen_at n a f x = go (eqb a n) refl
  where
    go : (b : Bool) → eqb a n ≡ b → pick b (f a) x ≡ pick b (f n) x
    go true h = rw (eqb-true a n h)
    go false h = refl

pub added : (b : Bool) (t u : ℕ) → pick b (t + u) t ≡ t + pick b u 0
added true t u = refl
added false t u = sym (add-zero t)

-- a comparator holds what has held since
pub held-since : (begins stays was : Bool) → (begins || (was && stays)) ≡ (begins || stays && was)
held-since true stays was = refl
held-since false true true = refl
held-since false true false = refl
held-since false false true = refl
held-since false false false = refl

-- where a pin fault begins it, and where one ends it
pub forced-since : (fault begins stays was : Bool) → (fault || (begins || (was && stays))) ≡ ((fault || begins) || stays && was)
forced-since true begins stays was = refl
forced-since false begins stays was = held-since begins stays was

pub barred-since : (fault begins stays was : Bool) → (not fault && (begins || (was && stays))) ≡ ((not fault && begins) || (not fault && stays) && was)
barred-since true begins stays was = refl
barred-since false begins stays was = held-since begins stays was

-- a switch that a fault forces to 0
pub switched : (fault : Bool) (value : ℕ) → (eqb value 1 && not fault) ≡ eqb (pick fault 0 value) 1
switched true value = go (eqb value 1)
  where
    go : (b : Bool) → (b && false) ≡ false
    go true = refl
    go false = refl
switched false value = go (eqb value 1)
  where
    go : (b : Bool) → (b && true) ≡ b
    go true = refl
    go false = refl

pub middle : (a b c : Bool) → ((a && b) && c) ≡ (b && (a && c))
middle true b c = refl
middle false true c = refl
middle false false c = refl

pub cleared-or : (w c : Bool) (x : ℕ) → pick c 0 (pick w 0 x) ≡ pick (w || c) 0 x
cleared-or true true x = refl
cleared-or true false x = refl
cleared-or false c x = refl

pub or_swap : (a b : Bool) → (a || b) ≡ (b || a)
or_swap true true = refl
or_swap true false = refl
or_swap false true = refl
or_swap false false = refl

pub zero-low : (top : ℕ) → 0 ≡ min 0 top
zero-low top = omega arith
