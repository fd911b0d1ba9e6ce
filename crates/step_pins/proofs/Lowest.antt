-- Of every table: the lowest code that matches is given, and 0 if none does.
use Prim.Native.Nat.{ℕ, zero, suc, ◌+◌, ◌≤◌, ◌<◌}
use mathlib.Core.Path.{◌≡◌, refl, sym, subst, ◌∙◌}
use mathlib.Core.Bool.{Bool, true, false, false≢true}
use mathlib.Core.List.{List, [], ◌∷◌}
use mathlib.Core.Logic.{◌↔◌}
use native.Mathlib.Omega.{arith}
use native.Mathlib.Decide.{dec_lt}
use lib.ListN.{length}
use Rattle.step_pins.specs.Codes.{matches, lowest_by}
use Rattle.step_pins.specs.Theorems.{Matches, LowestTaken}

-- a table's code, counted from one on
abbrev code_from : ℕ → List ℕ → ℕ → ℕ
code_from first t ohms = lowest_by matches first t ohms

-- entry i matches, and no earlier one
abbrev First : List ℕ → ℕ → ℕ → Type 0
First table i ohms = Matches table i ohms × ((j : ℕ) → j < i → ¬ Matches table j ohms)

-- a code is 0, or one of the table's
record Ranged (code first long : ℕ) : Type 0 where
  low : 0 < code → first ≤ code
  high : 0 < code → code < first + long

module _ (ohms : ℕ) where
  ranged : (first : ℕ) (t : List ℕ) → Ranged (code_from first t ohms) first (length t)
  ranged first [] = record { low = λ some. absurd (omega arith); high = λ some. absurd (omega arith) }
  ranged first (r ∷ t) = by (matches r ohms) refl (ranged (suc first) t)
    where
      by : (b : Bool) → matches r ohms ≡ b → Ranged (code_from (suc first) t ohms) (suc first) (length t) → Ranged (code_from first (r ∷ t) ohms) first (suc (length t))
      by true h k = rw h (record { low = λ some. omega arith; high = λ some. omega arith })
      by false h k = rw h (record { low = λ some. omega (arith, k.low some); high = λ some. omega (arith, k.high some) })

  taken : (first : ℕ) (t : List ℕ) (i : ℕ) → 0 < first → (code_from first t ohms ≡ first + i) ↔ First t i ohms
  taken first [] i some = (λ e. absurd (omega arith), λ m. absurd (omega (arith, m.0.0)))
  taken first (r ∷ t) i some = by (matches r ohms) refl i (λ k. taken (suc first) t k (omega arith))
    where
      by : (b : Bool) → matches r ohms ≡ b → (i : ℕ) → ((k : ℕ) → (code_from (suc first) t ohms ≡ suc first + k) ↔ First t k ohms)
          → (code_from first (r ∷ t) ohms ≡ first + i) ↔ First (r ∷ t) i ohms
      by true h zero ih = (λ e. ((omega arith, h), λ j l. absurd (omega arith)), λ m. rw h (omega arith))
      by true h (suc i) ih = (λ e. let k = rw h at e in absurd (omega (arith, k)), λ m. absurd (m.1 0 (omega arith) (omega arith, h)))
      by false h zero ih = (
        λ e.
            let k = rw h at e in
            let least = (ranged (suc first) t).low in
            absurd (omega (arith, k, least (omega (arith, k, some)))),
        λ m. absurd (false≢true (sym h ∙ m.0.1)),
      )
      by false h (suc i) ih = (
        λ e.
            let k = (ih i).0 (omega (arith, rw h at e)) in
            ((omega (arith, k.0.0), k.0.1), lower k.1),
        λ m.
            let k = (ih i).1 ((omega (arith, m.0.0), m.0.1), λ j l n. m.1 (suc j) (omega arith) (omega (arith, n.0), n.1)) in
            rw h (omega (arith, k)),
      )
        where
          lower : ((j : ℕ) → j < i → ¬ Matches t j ohms) → (j : ℕ) → j < suc i → ¬ Matches (r ∷ t) j ohms
          lower n zero l m = false≢true (sym h ∙ m.1)
          lower n (suc j) l m = n j (omega arith) (omega (arith, m.0), m.1)

  none : (first : ℕ) (t : List ℕ) → 0 < first → (code_from first t ohms ≡ 0) ↔ ((i : ℕ) → ¬ Matches t i ohms)
  none first [] some = (λ e i m. omega (arith, m.0), λ m. refl)
  none first (r ∷ t) some = by (matches r ohms) refl (none (suc first) t (omega arith))
    where
      by : (b : Bool) → matches r ohms ≡ b → (code_from (suc first) t ohms ≡ 0) ↔ ((i : ℕ) → ¬ Matches t i ohms)
          → (code_from first (r ∷ t) ohms ≡ 0) ↔ ((i : ℕ) → ¬ Matches (r ∷ t) i ohms)
      by true h ih = (λ e. let k = rw h at e in absurd (omega (arith, k)), λ m. absurd (m 0 (omega arith, h)))
      by false h ih = (λ e. lower (ih.0 (rw h at e)), λ m. rw h (ih.1 (λ i n. m (suc i) (omega (arith, n.0), n.1))))
        where
          lower : ((i : ℕ) → ¬ Matches t i ohms) → (i : ℕ) → ¬ Matches (r ∷ t) i ohms
          lower n zero m = false≢true (sym h ∙ m.1)
          lower n (suc i) m = n i (omega (arith, m.0), m.1)

pub most : (t : List ℕ) (ohms : ℕ) → code_from 1 t ohms ≤ length t
most t ohms = by (dec_lt 0 (code_from 1 t ohms))
  where
    by : Dec (0 < code_from 1 t ohms) → code_from 1 t ohms ≤ length t
    by (yes some) = omega (arith, (ranged ohms 1 t).high some)
    by (no other) = omega arith

pub lowest-taken : LowestTaken
lowest-taken = record {
  code = λ table i ohms. subst (λ (n : ℕ). (code_from 1 table ohms ≡ n) ↔ First table i ohms) (omega arith) (taken ohms 1 table i (omega arith));
  none = λ table ohms. none ohms 1 table (omega arith);
}
