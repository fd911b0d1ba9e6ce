-- What the two computed forms mean, by positions in the run: `since` is a moment from which on something held, `sum_after` a sum over the moments after the last.
use Prim.Native.Nat.{ℕ, zero, suc, ◌+◌, ◌-◌, ◌<◌, ◌≤◌}
use native.Mathlib.Omega.{arith}
use mathlib.Core.Path.{◌≡◌, refl, sym, ap, ◌∙◌}
use mathlib.Core.Bool.{Bool, true, false, ◌&&◌}
use mathlib.Core.Logic.{◌⊎◌, inl, inr, ⊎_elim}
use lib.Dec.{leb}
use borrow.Author.Tests.{le-leb, lt-leb, leb-true, leb-false}
use Rattle.base.specs.Pick.{pick}
use Rattle.base.proofs.Tests.{and-iff}
use Rattle.state_parts.specs.declared.profile.Profile.{Profile}
use Rattle.laws_account.specs.History.{Run, powered, ◌▸◌, since, Since, sum_after, count, up_to, last_of, total}
use Rattle.laws_account.specs.Refused.{Accepted}
use Rattle.step_turns.specs.declared.later.Later.{Later}
use Rattle.laws_third.proofs.Means.{Means, or_cases, or_left, or_right}

-- the moment i of r ▸ e: that of r, or the last
up_to-old : (r : Run) (e : Later) (i : ℕ) → i ≤ count r → up_to i (r ▸ e) ≡ up_to i r
unfolding up_to
up_to-old r e i h = rw (le-leb i (count r) h)

up_to-new : (r : Run) (e : Later) (i : ℕ) → count r < i → up_to i (r ▸ e) ≡ (r ▸ e)
unfolding up_to
up_to-new r e i h = rw (lt-leb i (count r) h)

module _ (p q : Run → Bool) where
  abbrev Held : Run → Type 0
  Held = Since (λ m. p m ≡ true) (λ m. q m ≡ true)

  -- from the computed form to a position
  first : (x : Profile) → q (powered x) ≡ true → Held (powered x)
  unfolding count up_to
  first x t = (0, omega arith, t, λ j h k. absurd (omega arith))

  here : (r : Run) (e : Later) → q (r ▸ e) ≡ true → Held (r ▸ e)
  unfolding count
  here r e t = (suc (count r), omega arith, rw (up_to-new r e (suc (count r)) (omega arith)) t, λ j h k. absurd (omega arith))

  later : (r : Run) (e : Later) (i : ℕ) → p (r ▸ e) ≡ true → ((j : ℕ) → i < j → j ≤ count r → p (up_to j r) ≡ true)
      → (j : ℕ) (b : Bool) → leb j (count r) ≡ b → i < j → p (up_to j (r ▸ e)) ≡ true
  later r e i t f j true h k = rw (up_to-old r e j (leb-true j (count r) h)) (f j k (leb-true j (count r) h))
  later r e i t f j false h k = rw (up_to-new r e j (leb-false j (count r) h)) t

  on : (r : Run) (e : Later) → p (r ▸ e) ≡ true → Held r → Held (r ▸ e)
  unfolding count
  on r e t s =
      (s.0, omega (arith, s.1), rw (up_to-old r e s.0 s.1) s.2, λ j h k. later r e s.0 t s.3 j (leb j (count r)) refl h)

  since→ : (r : Run) → since p q r ≡ true → Held r
  unfolding since
  since→ (powered x) t = first x t
  since→ (r ▸ e) t =
      or_cases (q (r ▸ e)) (p (r ▸ e) && since p q r) t (here r e)
      (λ b. on r e ((and-iff (p (r ▸ e)) (since p q r)).0 b).0 (since→ r ((and-iff (p (r ▸ e)) (since p q r)).0 b).1))

  -- and back
  split : (r : Run) (e : Later) (s : Held (r ▸ e)) (b : Bool) → leb s.0 (count r) ≡ b → (Held r → since p q r ≡ true) → since p q (r ▸ e) ≡ true
  unfolding since count
  split r e s false h f =
      or_left (q (r ▸ e)) (p (r ▸ e) && since p q r) (rw (up_to-new r e s.0 (leb-false s.0 (count r) h)) at s.2)
  split r e s true h f =
      let l : s.0 ≤ count r = leb-true s.0 (count r) h in
      or_right (q (r ▸ e)) (p (r ▸ e) && since p q r)
      ((and-iff (p (r ▸ e)) (since p q r)).1 (
        rw (up_to-new r e (suc (count r)) (omega arith)) at (s.3 (suc (count r)) (omega arith) (omega arith)),
        f (s.0, l, rw (up_to-old r e s.0 l) at s.2, λ j k m. rw (up_to-old r e j m) at (s.3 j k (omega arith))),
      ))

  back : (x : Profile) → Held (powered x) → q (powered x) ≡ true
  unfolding up_to
  back x s = s.2

  since← : (r : Run) → Held r → since p q r ≡ true
  unfolding since
  since← (powered x) s = back x s
  since← (r ▸ e) s = split r e s (leb s.0 (count r)) refl (since← r)

pub since-means : {p q : Run → Bool} {A B : Run → Type 0} → ((m : Run) → Means (p m) (A m)) → ((m : Run) → Means (q m) (B m))
    → (r : Run) → Means (since p q r) (Since A B r)
since-means {p} {q} {A} {B} f g r =
    record {
      fact = λ t.
          let s : Held p q r = since→ p q r t in
          (s.0, s.1, (g (up_to s.0 r)).fact s.2, λ j h k. (f (up_to j r)).fact (s.3 j h k));
      test = λ s. since← p q r (s.0, s.1, (g (up_to s.0 r)).test s.2, λ j h k. (f (up_to j r)).test (s.3 j h k));
    }

-- every moment of a run of accepted events is one
accepted-at : (r : Run) (e : Later) (i : ℕ) (t : Bool) → Accepted (r ▸ e) → Accepted (up_to i r) → Accepted (pick t (up_to i r) (r ▸ e))
accepted-at r e i true h k = k
accepted-at r e i false h k = h

pub accepted-up : (r : Run) → Accepted r → (i : ℕ) → Accepted (up_to i r)
unfolding up_to
accepted-up (powered p) h i = h
accepted-up (r ▸ e) h i = accepted-at r e i (leb i (count r)) h (accepted-up r h.0 i)

-- the same over moments of accepted events
pub since-in : {p q : Run → Bool} {A B : Run → Type 0} → ((m : Run) → Accepted m → Means (p m) (A m)) → ((m : Run) → Accepted m → Means (q m) (B m))
    → (r : Run) → Accepted r → Means (since p q r) (Since A B r)
since-in {p} {q} {A} {B} f g r a =
    let at = accepted-up r a in
    record {
      fact = λ t.
          let s : Held p q r = since→ p q r t in
          (s.0, s.1, (g (up_to s.0 r) (at s.0)).fact s.2, λ j h k. (f (up_to j r) (at j)).fact (s.3 j h k));
      test = λ s. since← p q r (s.0, s.1, (g (up_to s.0 r) (at s.0)).test s.2, λ j h k. (f (up_to j r) (at j)).test (s.3 j h k));
    }

-- the sum after the last moment at which b held
pub total-alike : (f g : ℕ → ℕ) (a n : ℕ) → ((i : ℕ) → i ≤ a + n → f i ≡ g i) → total f a n ≡ total g a n
unfolding total
total-alike f g a zero h = refl
total-alike f g a (suc n) h = λ i. total-alike f g a n (λ k l. h k (omega arith)) i + h (a + suc n) (omega arith) i

module _ (b : Run → Bool) (f : Run → ℕ) where
  pub last-le : (r : Run) → last_of b r ≤ count r
  unfolding last_of count
  last-le (powered x) = omega arith
  last-le (r ▸ e) = go (b (r ▸ e)) (last-le r)
    where
      go : (t : Bool) → last_of b r ≤ count r → pick t (suc (count r)) (last_of b r) ≤ suc (count r)
      go true h = omega arith
      go false h = omega arith

  next-total : (r : Run) (e : Later) (t : Bool)
      → pick t 0 (total (λ i. f (up_to i r)) (last_of b r) (count r - last_of b r) + f (r ▸ e))
      ≡ total (λ i. f (up_to i (r ▸ e))) (pick t (suc (count r)) (last_of b r)) (suc (count r) - pick t (suc (count r)) (last_of b r))
  unfolding total
  next-total r e true =
      let z : suc (count r) - suc (count r) ≡ 0 = omega arith in
      rw z
  next-total r e false =
      let d : suc (count r) - last_of b r ≡ suc (count r - last_of b r) = omega (arith, last-le r) in
      rw d
      (λ i. total-alike (λ k. f (up_to k r)) (λ k. f (up_to k (r ▸ e))) (last_of b r) (count r - last_of b r)
      (λ k h. ap f (sym (up_to-old r e k (omega (arith, last-le r))))) i
      + f (sym (up_to-new r e (last_of b r + suc (count r - last_of b r)) (omega (arith, last-le r))) i))

  pub sum_is : (r : Run) → sum_after b f r ≡ total (λ i. f (up_to i r)) (last_of b r) (count r - last_of b r)
  unfolding sum_after last_of count total
  sum_is (powered x) = refl
  sum_is (r ▸ e) = ap (λ n. pick (b (r ▸ e)) 0 (n + f (r ▸ e))) (sum_is r) ∙ next-total r e (b (r ▸ e))

-- the last moment at which b held, or the power-on
module _ (b : Run → Bool) where
  abbrev Last : Run → ℕ → Type 0
  Last r i = ((i ≡ 0) ⊎ (b (up_to i r) ≡ true)) × ((j : ℕ) → i < j → j ≤ count r → b (up_to j r) ≡ false)

  last-here : (r : Run) (e : Later) → b (r ▸ e) ≡ true → Last (r ▸ e) (suc (count r))
  unfolding count
  last-here r e t = (inr (rw (up_to-new r e (suc (count r)) (omega arith)) t), λ j h k. absurd (omega arith))

  since-last : (r : Run) (e : Later) (i : ℕ) → b (r ▸ e) ≡ false → ((j : ℕ) → i < j → j ≤ count r → b (up_to j r) ≡ false)
      → (j : ℕ) (t : Bool) → leb j (count r) ≡ t → i < j → b (up_to j (r ▸ e)) ≡ false
  since-last r e i n f j true h k = rw (up_to-old r e j (leb-true j (count r) h)) (f j k (leb-true j (count r) h))
  since-last r e i n f j false h k = rw (up_to-new r e j (leb-false j (count r) h)) n

  last_on : (r : Run) (e : Later) (i : ℕ) → i ≤ count r → b (r ▸ e) ≡ false → Last r i → Last (r ▸ e) i
  last_on r e i l n s = (
    ⊎_elim (λ z. inl z) (λ t. inr (rw (up_to-old r e i l) t)) s.0,
    λ j h k. since-last r e i n s.1 j (leb j (count r)) refl h,
  )

  last-first : (x : Profile) → Last (powered x) 0
  unfolding count
  last-first x = (inl refl, λ j h k. absurd (omega arith))

  last-next : (r : Run) (e : Later) (t : Bool) → b (r ▸ e) ≡ t → Last r (last_of b r) → Last (r ▸ e) (pick t (suc (count r)) (last_of b r))
  last-next r e true h s = last-here r e h
  last-next r e false h s = last_on r e (last_of b r) (last-le b (λ m. 0) r) h s

  pub last-is : (r : Run) → Last r (last_of b r)
  unfolding last_of count
  last-is (powered x) = last-first x
  last-is (r ▸ e) = last-next r e (b (r ▸ e)) refl (last-is r)
