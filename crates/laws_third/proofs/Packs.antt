-- Pack voltages after a run of accepted events: no product saturates, so each is a cell's voltage times the count.
use Prim.Native.Nat.{ℕ, ◌*◌, ◌%◌, ◌≤◌, min}
use native.Mathlib.Omega.{arith}
use mathlib.Core.Path.{◌≡◌, refl, ap, ◌∙◌}
use mathlib.Core.Bool.{Bool, true, false}
use lib.Dec.{leb}
use borrow.Author.Tests.{leb-true, leb-false}
use Rattle.base.specs.Pick.{pick}
use Rattle.base.specs.Units.{in_pack, lower_of}
use Rattle.base.specs.Volts.{millivolts_of, pack_of}
use Rattle.base.specs.declared.units.CellMv.{CellMv}
use Rattle.base.specs.declared.units.PackMv.{PackMv}
use Rattle.base.proofs.Packs.{pack-exact}
use Rattle.base.proofs.Table.{table-most}
use Rattle.state_parts.specs.Pins.{vchg_table, vchg_of}
use Rattle.state_parts.specs.declared.band.Band.{Band}
use Rattle.state_parts.specs.declared.band.Band.TheVariants.{Normal, Cold, Cool, Warm, Hot, Mixed}
use Rattle.state_parts.specs.declared.profile.Profile.{Profile}
use Rattle.state_table.specs.Rows.{jeita_vset}
use Rattle.settle_levels.proofs.Least.{highest-cut}
use Rattle.state_valid.specs.Holds.{profile_ok}
use Rattle.state_valid.proofs.Bounds.{profile-bounds, few-cells}
use Rattle.state_valid.proofs.Wholes.{Holding, apart}
use Rattle.laws_account.specs.History.{Run}
use Rattle.laws_account.specs.Held.{profile_of, vchg, overridden, cells_of, field_at}
use Rattle.laws_account.specs.Valued.{setting_of}
use Rattle.laws_account.specs.Judged.{pack_clamp, base_at, cell_point, cut_in}
use Rattle.laws_account.specs.Refused.{Accepted}
use Rattle.laws_account.specs.States.{registers_at, state_by, state_of}
use Rattle.laws_account.proofs.Agreeing.{fine}
use Rattle.laws_third.specs.Crossed.{clamp, base, point}
use Rattle.laws_third.specs.Banded.{cut}

pub holding : (r : Run) → Accepted r → Holding (state_of r)
holding r h = apart (state_of r) (fine r h)

pub profile-holds : (r : Run) → Accepted r → profile_ok (profile_of r) ≡ true
unfolding state_by
profile-holds r h = (holding r h).profile

cells-most : (r : Run) → Accepted r → cells_of r ≤ 7
unfolding state_by registers_at
cells-most r h = few-cells (profile_of r) (registers_at r) (holding r h).registers

-- the cells' voltages
vchg-most : (p : Profile) → (vchg_of p).0 ≤ 45000
vchg-most p = table-most vchg_table 45000 tt (p.vchg % 8)

cut_most : (b : Band) (r : Run) → (cut_in b r).0 ≤ 45000
cut_most Normal r = omega arith
cut_most Cold r = omega arith
cut_most Cool r = omega arith
cut_most Warm r = omega (arith, highest-cut (profile_of r) (field_at jeita_vset r))
cut_most Hot r = omega arith
cut_most Mixed r = omega arith

either-most : (t : Bool) (a b : CellMv) → a.0 ≤ 45000 → b.0 ≤ 45000 → (pick t a b).0 ≤ 45000
either-most true a b h k = h
either-most false a b h k = k

-- packs
pub cut-plain : (b : Band) (r : Run) → Accepted r → millivolts_of (in_pack (cut_in b r) (cells_of r)) ≡ cut b r
cut-plain b r h = pack-exact (cut_in b r) (cells_of r) (cut_most b r) (cells-most r h)

picked : (t : Bool) (a b : CellMv) → (pick t a b).0 ≡ pick t a.0 b.0
picked true a b = refl
picked false a b = refl

pub point-plain : (few many : ℕ) → few ≤ 45000 → many ≤ 45000 → (r : Run) → Accepted r → millivolts_of (cell_point few many r) ≡ point few many r
point-plain few many h k r a =
    let one : CellMv = record { 0 = few } in
    let other : CellMv = record { 0 = many } in
    pack-exact (pick (leb (cells_of r) 2) one other) (cells_of r) (either-most (leb (cells_of r) 2) one other h k) (cells-most r a)
    ∙ ap (λ (n : ℕ). n * cells_of r) (picked (leb (cells_of r) 2) one other)

pub clamp-plain : (r : Run) → Accepted r → millivolts_of (pack_clamp r) ≡ clamp r
unfolding pack_clamp
clamp-plain r h =
    let ceiling : CellMv = record { 0 = (profile_of r).ceiling } in
    let most = (profile-bounds (profile_of r) (profile-holds r h)).ceiling in
    pack-exact (pick (overridden vchg r) ceiling (vchg_of (profile_of r))) (cells_of r)
    (either-most (overridden vchg r) ceiling (vchg_of (profile_of r)) (omega (arith, most)) (vchg-most (profile_of r))) (cells-most r h)
    ∙ ap (λ (n : ℕ). n * cells_of r) (picked (overridden vchg r) ceiling (vchg_of (profile_of r)))

lower-is : (a b : PackMv) → millivolts_of (lower_of a b) ≡ min (millivolts_of a) (millivolts_of b)
lower-is a b = go (leb (millivolts_of a) (millivolts_of b)) refl
  where
    go : (t : Bool) → leb (millivolts_of a) (millivolts_of b) ≡ t → millivolts_of (pick t a b) ≡ min (millivolts_of a) (millivolts_of b)
    go true e = omega (arith, leb-true (millivolts_of a) (millivolts_of b) e)
    go false e = omega (arith, leb-false (millivolts_of a) (millivolts_of b) e)

pub base-plain : (r : Run) → Accepted r → millivolts_of (base_at r) ≡ base r
unfolding base_at
base-plain r h = lower-is (pack_of (setting_of 1 r)) (pack_clamp r) ∙ ap (λ (n : ℕ). min (setting_of 1 r) n) (clamp-plain r h)
