-- The start values at values that 01 names.
use Prim.Native.Nat.{ℕ}
use mathlib.Core.Path.{◌≡◌, refl}
use Rattle.base.specs.Units.{in_pack}
use Rattle.state_parts.specs.declared.profile.Profile.{Profile}
use Rattle.state_start.specs.Values.{start_vreg, start_ichg, start_vsysmin}

-- a power-on of these pin codes, with nothing else to say
abbrev pub coded : ℕ → ℕ → ℕ → Profile
coded cell vchg ichg = record {
  cell = cell;
  vchg = vchg;
  ichg = ichg;
  ohms = 0;
  stamp = 0;
  ceiling = 4350;
  trickle = 0;
  precharge = 0;
  fast = 0;
  watchdog = 0;
  edition = 1;
}

-- "vchg 3, cells 5 to 4 gives VREG 16,000, VSYSMIN 12,400"
four-cells : ((start_vreg (coded 5 3 0) 4).0 ≡ 16000) × ((start_vsysmin (coded 5 3 0) 4).0 ≡ 12400)
unfolding start_vreg start_vsysmin in_pack
four-cells = (refl, refl)

-- 01's example log: two cells of 4,200 at 1,500 mA
two_cells : ((start_vreg (coded 2 5 4) 2).0 ≡ 8400) × (start_ichg (coded 2 5 4) ≡ 1500)
unfolding start_vreg start_ichg in_pack
two_cells = (refl, refl)

-- "either code 0: 2,400", "code 0: 40", "one cell 3,500; code 0: 3,000"
by-fault : ((start_vreg (coded 2 0 4) 2).0 ≡ 2400) × ((start_vreg (coded 0 5 4) 0).0 ≡ 2400) × (start_ichg (coded 2 5 0) ≡ 40) × ((start_vsysmin (coded 1 5 4) 1).0 ≡ 3500) × ((start_vsysmin (coded 0 5 4) 0).0 ≡ 3000)
unfolding start_vreg start_ichg start_vsysmin in_pack
by-fault = (refl, refl, refl, refl, refl)
