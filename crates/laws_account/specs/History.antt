-- Runs of events since a power-on, their moments, and the two things that are said of them again and again: what has held since something else held, and a sum since
-- something last happened.
use Rattle.std.specs.Prelude.{ℕ, zero, suc, ◌+◌, ◌≤◌, ◌<◌, Bool, ◌&&◌, ◌||◌, leb}
use Rattle.base.specs.Pick.{pick}
use Rattle.state_parts.specs.declared.profile.Profile.{Profile}
use Rattle.step_turns.specs.declared.later.Later.{Later}

infixl 20 ◌▸◌
-- the events since a power-on, in order: the last is outermost. Each run is also a moment, the one after its last event
pub data Run : Type 0 where
  powered : Profile → Run
  ◌▸◌ : Run → Later → Run

-- q held at some moment, and p at every moment after it
unfoldable pub since : (Run → Bool) → (Run → Bool) → Run → Bool
since p q (powered x) = q (powered x)
since p q (r ▸ e) = q (r ▸ e) || p (r ▸ e) && since p q r

-- the sum of f over the moments after the last one at which b held
unfoldable pub sum_after : (Run → Bool) → (Run → ℕ) → Run → ℕ
sum_after b f (powered x) = 0
sum_after b f (r ▸ e) = pick (b (r ▸ e)) 0 (sum_after b f r + f (r ▸ e))

-- how many events a run has, and the moment after its first i events
unfoldable pub count : Run → ℕ
count (powered x) = 0
count (r ▸ e) = suc (count r)

unfoldable pub up_to : ℕ → Run → Run
up_to i (powered x) = powered x
up_to i (r ▸ e) = pick (leb i (count r)) (up_to i r) (r ▸ e)

-- `since` in full: a moment i at which q held, and p at each moment after it
abbrev pub Since : (Run → Type 0) → (Run → Type 0) → Run → Type 0
Since p q r = (i : ℕ) × (i ≤ count r) × q (up_to i r) × ((j : ℕ) → i < j → j ≤ count r → p (up_to j r))

-- the last moment at which b held, the power-on if at none
unfoldable pub last_of : (Run → Bool) → Run → ℕ
last_of b (powered x) = 0
last_of b (r ▸ e) = pick (b (r ▸ e)) (count (r ▸ e)) (last_of b r)

-- f (a + 1) + .. + f (a + n)
unfoldable pub total : (ℕ → ℕ) → ℕ → ℕ → ℕ
total f a zero = 0
total f a (suc n) = total f a n + f (a + suc n)
