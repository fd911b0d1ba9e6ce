-- At power-on, where no pin has a fault, a pack of no volts is below every point.
use Prim.Native.Nat.{ℕ, ◌*◌, ◌<◌, ◌≤◌}
use native.Mathlib.Omega.{arith}
use native.Mathlib.Nat.{mul-pos}
use mathlib.Core.Path.{◌≡◌, refl}
use mathlib.Core.Bool.{Bool, true, false, ◌&&◌, ◌||◌, true≢false}
use lib.Dec.{leb, eqb}
use borrow.Author.Tests.{lt-ltb, eqb-false}
use Rattle.base.specs.Pick.{pick}
use Rattle.base.specs.Units.{in_pack, below, below_share}
use Rattle.base.specs.Volts.{pack_of}
use Rattle.base.specs.declared.units.CellMv.{CellMv}
use Rattle.base.specs.declared.units.PackMv.{PackMv}
use Rattle.base.proofs.Tests.{leb-iff, and-iff}
use Rattle.state_parts.specs.Pins.{vchg_of}
use Rattle.state_parts.proofs.Codes.{least-pin}
use Rattle.state_parts.specs.declared.profile.Profile.{Profile}
use Rattle.state_valid.specs.Holds.{profile_ok}
use Rattle.laws_account.specs.History.{powered}
use Rattle.laws_account.specs.Held.{profile_of, sample_of, cells_of, field_at}
use Rattle.laws_account.specs.Valued.{pin_fault, start_value, setting_of}
use Rattle.laws_account.specs.Judged.{vbat, pack_clamp, base_at, cell_point}

pos-pick : {A : Type 0} (f : A → ℕ) (t : Bool) (a b : A) → 0 < f a → 0 < f b → 0 < f (pick t a b)
pos-pick f true a b h k = h
pos-pick f false a b h k = k

pos-pack : (each : CellMv) (cells : ℕ) → 0 < each.0 → 0 < cells → 0 < (in_pack each cells).0
unfolding in_pack
pos-pack each cells h k = omega (arith, mul-pos h k)

vchg-max : (p : Profile) → profile_ok p ≡ true → p.vchg ≤ 7
unfolding profile_ok
vchg-max p e = let k = simp (and-iff, leb-iff) at e in omega arith

-- a code that is no fault has a voltage
pos-vchg : (p : Profile) → p.vchg ≤ 7 → 0 < p.vchg → 0 < (vchg_of p).0
pos-vchg p h k = omega (arith, least-pin p (omega arith) h)

clear-pins : (a b c : Bool) → ((a || (b && true)) || (c && true)) ≡ false → (a ≡ false) × (b ≡ false)
clear-pins true b c h = absurd (true≢false h)
clear-pins false true c h = absurd (true≢false h)
clear-pins false false c h = (refl, refl)

module _ (p : Profile) (ok : profile_ok p ≡ true) (sound : pin_fault (powered p) ≡ false) where
  pins : (eqb p.cell 0 ≡ false) × (eqb p.vchg 0 ≡ false)
  unfolding pin_fault cells_of profile_of field_at
  pins = clear-pins (eqb p.cell 0) (eqb p.vchg 0) (eqb p.ichg 0) sound

  cells-pos : 0 < p.cell
  cells-pos = omega (arith, eqb-false p.cell 0 pins.0)

  vchg-pos : 0 < (vchg_of p).0
  vchg-pos = pos-vchg p (vchg-max p ok) (omega (arith, eqb-false p.vchg 0 pins.1))

  base-pos : 0 < (base_at (powered p)).0
  unfolding base_at setting_of start_value pack_clamp cells_of profile_of field_at
  base-pos =
      let volts = in_pack (vchg_of p) p.cell in
      let some = pos-pack (vchg_of p) p.cell vchg-pos cells-pos in
      pos-pick (λ (v : PackMv). v.0) (leb (start_value p p.cell 1) volts.0) (pack_of (start_value p p.cell 1)) volts
      (pos-pick (λ n. n) (eqb p.vchg 0 || eqb p.cell 0) 2400 volts.0 (omega arith) some) some

  pub below-short : below (vbat (powered p)) (cell_point 1850 2000 (powered p)) ≡ true
  unfolding vbat sample_of cells_of
  below-short =
      let few : CellMv = record { 0 = 1850 } in
      let many : CellMv = record { 0 = 2000 } in
      lt-ltb 0 _ (pos-pack (pick (leb p.cell 2) few many) p.cell (pos-pick (λ (v : CellMv). v.0) (leb p.cell 2) few many (omega arith) (omega arith)) cells-pos)

  pub below-any : (share : ℕ) → 0 < share → below_share (vbat (powered p)) (base_at (powered p)) share ≡ true
  unfolding below_share vbat sample_of
  below-any share h = lt-ltb 0 ((base_at (powered p)).0 * share) (mul-pos base-pos h)
