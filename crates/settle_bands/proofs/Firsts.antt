-- Cold and hot are judged before cool and warm; and how near the thresholds come to each other.
use Prim.Native.Nat.{ℕ, ◌≤◌, ◌<◌}
use mathlib.Core.List.{[], ◌∷◌}
use native.Mathlib.Omega.{arith}
use borrow.Author.Tests.{le-leb, lt-leb}
use lib.Dec.{leb, leb→le}
use Rattle.base.proofs.Table.{at}
use Rattle.state_fields.specs.Held.{field_of}
use Rattle.state_table.specs.Rows.{ts_th1, ts_th2, ts_th3, ts_th5}
use Rattle.state_parts.specs.declared.profile.Profile.{Profile}
use Rattle.state_parts.specs.declared.registers.Registers.{Registers}
use Rattle.settle_bands.specs.Thresholds.{th1_of, th2_of, th3_of, th5_of, band_by, marks_of, band_of}
use Rattle.settle_bands.specs.Firsts.{ColdFirst, HotFirst}

pub cold-first : ColdFirst
unfolding band_of band_by marks_of
cold-first p g ts on cold = simp (on, le-leb (th1_of p g) ts cold)

pub cold-least : (p : Profile) (g : Registers) → 70900 ≤ th1_of p g
cold-least p g = leb→le 70900 _ (at (λ (k x : ℕ). leb 70900 x) (77150 ∷ 75320 ∷ 73300 ∷ 70900 ∷ []) tt (field_of ts_th1 g) (omega arith))

pub hot-most : (p : Profile) (g : Registers) → th5_of p g ≤ 41200
hot-most p g = leb→le _ 41200 (at (λ (k x : ℕ). leb x 41200) (41200 ∷ 37700 ∷ 34375 ∷ 31250 ∷ []) tt (field_of ts_th5 g) (omega arith))

pub cool-least : (p : Profile) (g : Registers) → 62250 ≤ th2_of p g
cool-least p g = leb→le 62250 _ (at (λ (k x : ℕ). leb 62250 x) (70900 ∷ 68250 ∷ 65350 ∷ 62250 ∷ []) tt (field_of ts_th2 g) (omega arith))

pub warm-most : (p : Profile) (g : Registers) → th3_of p g ≤ 48400
warm-most p g = leb→le _ 48400 (at (λ (k x : ℕ). leb x 48400) (48400 ∷ 44750 ∷ 41200 ∷ 37700 ∷ []) tt (field_of ts_th3 g) (omega arith))

pub hot-first : HotFirst
unfolding band_of band_by marks_of
hot-first p g ts on hot =
    let below : ts < th1_of p g = omega (arith, cold-least p g, hot-most p g) in
    simp (on, lt-leb (th1_of p g) ts below, le-leb ts (th5_of p g) hot)
