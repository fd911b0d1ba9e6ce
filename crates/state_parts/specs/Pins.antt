-- 01: "Pin codes (0 is a fault): cells 1-7; vchg 3,500 3,600 4,000 4,100 4,200 4,300 4,350 per cell; ichg 100 500 1,000 1,500 2,000 2,500 3,300."
use Rattle.std.specs.Prelude.{ℕ, ◌%◌, ◌≤◌, List, [], ◌∷◌, get_or}
use Rattle.base.specs.declared.units.CellMv.{CellMv}
use Rattle.state_parts.specs.declared.profile.Profile.{Profile}

abbrev pub vchg_table : List ℕ
vchg_table = 0 ∷ 3500 ∷ 3600 ∷ 4000 ∷ 4100 ∷ 4200 ∷ 4300 ∷ 4350 ∷ []

abbrev pub vchg_of : Profile → CellMv
vchg_of p = record { 0 = get_or vchg_table (p.vchg % 8) 0 }

abbrev pub ichg_of : Profile → ℕ
ichg_of p = get_or (0 ∷ 100 ∷ 500 ∷ 1000 ∷ 1500 ∷ 2000 ∷ 2500 ∷ 3300 ∷ []) (p.ichg % 8) 0

-- a vchg code that is no fault stands for 3,500 per cell at least
abbrev pub LeastPin : Type 0
LeastPin = (p : Profile) → 1 ≤ p.vchg → p.vchg ≤ 7 → 3500 ≤ (vchg_of p).0
