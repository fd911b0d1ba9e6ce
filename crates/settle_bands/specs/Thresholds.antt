-- 01, "Settling, in order": the band of a TS value. Fields and thresholds are those of source document 000, tables 6-31 and 6-32.
use Rattle.std.specs.Prelude.{ℕ, Bool, ◌&&◌, [], ◌∷◌, get_or, leb, eqb}
use Rattle.base.specs.Pick.{pick}
use Rattle.state_fields.specs.Held.{field_of}
use Rattle.state_table.specs.Rows.{ts_th1, ts_th2, ts_th3, ts_th5, en_ts, en_jeita}
use Rattle.state_parts.specs.declared.band.TsBand.{TsBand}
use Rattle.state_parts.specs.declared.band.TsBand.TheVariants.{Normal, Cold, Cool, Warm, Hot}
use Rattle.state_parts.specs.declared.profile.Profile.{Profile}
use Rattle.state_parts.specs.declared.registers.Registers.{Registers}
use Rattle.settle_bands.specs.declared.thresholds.Marks.{Marks}

-- 000, table 6-31, in thousandths of a percent, by code
abbrev pub th1_at : Profile → ℕ → ℕ
th1_at p code = get_or (77150 ∷ 75320 ∷ 73300 ∷ 70900 ∷ []) code 0

abbrev pub th2_at : Profile → ℕ → ℕ
th2_at p code = get_or (70900 ∷ 68250 ∷ 65350 ∷ 62250 ∷ []) code 0

abbrev pub th3_at : Profile → ℕ → ℕ
th3_at p code = get_or (48400 ∷ 44750 ∷ 41200 ∷ 37700 ∷ []) code 0

abbrev pub th5_at : Profile → ℕ → ℕ
th5_at p code = get_or (41200 ∷ 37700 ∷ 34375 ∷ 31250 ∷ []) code 0

-- and by the register
abbrev pub th1_of : Profile → Registers → ℕ
th1_of p g = th1_at p (field_of ts_th1 g)

abbrev pub th2_of : Profile → Registers → ℕ
th2_of p g = th2_at p (field_of ts_th2 g)

abbrev pub th3_of : Profile → Registers → ℕ
th3_of p g = th3_at p (field_of ts_th3 g)

abbrev pub th5_of : Profile → Registers → ℕ
th5_of p g = th5_at p (field_of ts_th5 g)

abbrev pub ts_off : Registers → Bool
ts_off g = eqb (field_of en_ts g) 0

abbrev pub jeita_on : Registers → Bool
jeita_on g = eqb (field_of en_jeita g) 1

-- "Band, first that holds: EN_TS 0 normal; TS >= TH1 cold; TS <= TH5 hot; with EN_JEITA: TS >= TH2 cool; TS <= TH3 warm; else normal."
abbrev pub first_band : Bool → Bool → Bool → Bool → Bool → TsBand
first_band off cold hot cool warm = pick off Normal (pick cold Cold (pick hot Hot (pick cool Cool (pick warm Warm Normal))))

unfoldable pub band_by : Marks → ℕ → TsBand
band_by m ts = first_band m.off (leb m.th1 ts) (leb ts m.th5) (m.jeita && leb m.th2 ts) (m.jeita && leb ts m.th3)

-- all that the registers say of it
unfoldable pub marks_of : Profile → Registers → Marks
marks_of p g = record { off = ts_off g; jeita = jeita_on g; th1 = th1_of p g; th2 = th2_of p g; th3 = th3_of p g; th5 = th5_of p g }

-- so the band of a TS value by the first edition, or where nothing is held
unfoldable pub band_of : Profile → Registers → ℕ → TsBand
band_of p g ts = band_by (marks_of p g) ts
