-- 01, "Settling, in order": what a band does. Fields are those of source document 000, table 6-32.
use Rattle.std.specs.Prelude.{ℕ, Bool, true, false, List, [], ◌∷◌, get_or, eqb}
use Rattle.base.specs.Pick.{pick}
use Rattle.base.specs.declared.units.CellMv.{CellMv}
use Rattle.state_fields.specs.Held.{field_of}
use Rattle.state_table.specs.Rows.{jeita_isetc, jeita_iseth, jeita_vset}
use Rattle.state_parts.specs.declared.band.Band.{Band}
use Rattle.state_parts.specs.declared.band.Band.TheVariants.{Normal, Cold, Cool, Warm, Hot, Mixed}
use Rattle.state_parts.specs.declared.profile.Profile.{Profile}
use Rattle.state_parts.specs.declared.registers.Registers.{Registers}

-- "6 suspended, cold, hot, cool with JEITA_ISETC 0, warm with JEITA_VSET 0"; 02, R-7: "a new band, apart, which suspends"
abbrev pub suspended_in : Band → Bool → Bool → Bool
suspended_in Normal cool warm = false
suspended_in Cold cool warm = true
suspended_in Cool cool warm = cool
suspended_in Warm cool warm = warm
suspended_in Hot cool warm = true
suspended_in Mixed cool warm = true

unfoldable pub suspends_of : Profile → Registers → Band → Bool
suspends_of p g b = suspended_in b (eqb (field_of jeita_isetc g) 0) (eqb (field_of jeita_vset g) 0)

-- "times 20, 40, 100% in cool (ISETC 1-3), 40 or 100% in warm", by code
abbrev pub cool_share : Profile → ℕ → ℕ
cool_share p code = get_or (0 ∷ 20 ∷ 40 ∷ 100 ∷ []) code 0

abbrev pub warm_share : Profile → ℕ → ℕ
warm_share p code = get_or (40 ∷ 100 ∷ []) code 0

-- and by the band
abbrev pub share_by_band : Band → ℕ → ℕ → ℕ
share_by_band Normal cool warm = 100
share_by_band Cold cool warm = 100
share_by_band Cool cool warm = cool
share_by_band Warm cool warm = warm
share_by_band Hot cool warm = 100
share_by_band Mixed cool warm = 100

unfoldable pub share_of : Profile → Registers → Band → ℕ
share_of p g b = share_by_band b (cool_share p (field_of jeita_isetc g)) (warm_share p (field_of jeita_iseth g))

abbrev pub is_warm : Band → Bool
is_warm Normal = false
is_warm Cold = false
is_warm Cool = false
is_warm Warm = true
is_warm Hot = false
is_warm Mixed = false

-- "less in warm 250, 100 or 0 per cell (JEITA_VSET 1-3)."
abbrev pub warm_cuts : List ℕ
warm_cuts = 0 ∷ 250 ∷ 100 ∷ 0 ∷ []

abbrev pub warm_cut : Profile → ℕ → CellMv
warm_cut p code = record { 0 = get_or warm_cuts code 0 }

unfoldable pub cut_of : Profile → Registers → Band → CellMv
cut_of p g b = pick (is_warm b) (warm_cut p (field_of jeita_vset g)) (record { 0 = 0 })
