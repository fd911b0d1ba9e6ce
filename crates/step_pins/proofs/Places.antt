-- The first of a table's resistors that matches, by its place and by its code.
use Rattle.std.proofs.Common.{◌≡◌, ℕ, suc, ◌+◌, ◌<◌, refl, ◌∙◌, Bool, true, false, not, cond, nat_lt, List, [], ◌∷◌, length, Some, None, arith, position}
use Rattle.std.specs.List.{position_or_len}
use Rattle.std.proofs.lemmas.Grind.{common_steps}
use Rattle.base.specs.Pick.{pick}
use Rattle.step_pins.specs.Codes.{lowest_by}

module _ (match : ℕ → ℕ → Bool) (ohms : ℕ) where
  abbrev place : List ℕ → ℕ
  place table = position_or_len (λ n. match n ohms) table

  by_place : ℕ → ℕ → ℕ → ℕ
  by_place code place most = cond (nat_lt place most) (code + place) 0

  next : (code place most : ℕ) → by_place (suc code) place most ≡ by_place code (1 + place) (suc most)
  unfolding by_place
  next code place most = grind (arith, common_steps)

  first : (code most : ℕ) → code ≡ by_place code 0 (suc most)
  unfolding by_place
  first code most = grind (arith, common_steps)

  lowest : (code : ℕ) (table : List ℕ) → lowest_by match code table ohms ≡ by_place code (place table) (length table)
  unfolding by_place
  lowest code [] = refl
  lowest code (nominal ∷ table) = go (match nominal ohms) (lowest (suc code) table)
    where
      go : (t : Bool) → lowest_by match (suc code) table ohms ≡ by_place (suc code) (place table) (length table)
          → pick t code (lowest_by match (suc code) table ohms) ≡ by_place code (cond (not t) (1 + place table) 0) (suc (length table))
      go true e = first code (length table)
      go false e = e ∙ next code (place table) (length table)

  pub found : (code i : ℕ) (table : List ℕ) → Some i ≡ position (λ n. match n ohms) table → (lowest_by match code table ohms ≡ code + i) × (i < length table)
  unfolding by_place
  found code i table e = let l = lowest code table in grind (arith, common_steps)

  pub missed : (code : ℕ) (table : List ℕ) → None ≡ position (λ n. match n ohms) table → lowest_by match code table ohms ≡ 0
  unfolding by_place
  missed code table e = let l = lowest code table in grind (arith, common_steps)
