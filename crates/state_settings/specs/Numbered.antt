-- 01: "2 set | setting number, value". The settings by their numbers; a test is 1 or 0.
use Rattle.std.specs.Prelude.{ℕ, suc, ◌%◌, List, [], ◌∷◌, get_or, eqb}
use Rattle.base.specs.Pick.{pick, bit_of}
use Rattle.base.specs.Volts.{pack_of, millivolts_of}
use Rattle.state_settings.specs.Ranges.{last_setting}
use Rattle.state_parts.specs.declared.settings.Settings.{Settings}

-- each setting's number at its place, from 1
unfoldable pub setting_numbers : Settings → List ℕ
setting_numbers s =
    0
    ∷ millivolts_of s.vreg
    ∷ s.ichg
    ∷ s.iprechg
    ∷ s.iterm
    ∷ s.iindpm
    ∷ millivolts_of s.vsysmin
    ∷ s.lowv
    ∷ s.vrechg
    ∷ bit_of s.enchg
    ∷ bit_of s.enterm
    ∷ bit_of s.enhiz
    ∷ bit_of s.enextilim
    ∷ bit_of s.disstat
    ∷ s.masks
    ∷ []

unfoldable pub held_of : Settings → ℕ → ℕ
held_of s number = get_or (setting_numbers s) (number % suc last_setting) 0

-- the setting of this number takes the value, and no other changes
unfoldable pub store_of : Settings → ℕ → ℕ → Settings
store_of s number value = record {
  vreg = pick (eqb number 1) (pack_of value) s.vreg;
  ichg = pick (eqb number 2) value s.ichg;
  iprechg = pick (eqb number 3) value s.iprechg;
  iterm = pick (eqb number 4) value s.iterm;
  iindpm = pick (eqb number 5) value s.iindpm;
  vsysmin = pick (eqb number 6) (pack_of value) s.vsysmin;
  lowv = pick (eqb number 7) value s.lowv;
  vrechg = pick (eqb number 8) value s.vrechg;
  enchg = pick (eqb number 9) (eqb value 1) s.enchg;
  enterm = pick (eqb number 10) (eqb value 1) s.enterm;
  enhiz = pick (eqb number 11) (eqb value 1) s.enhiz;
  enextilim = pick (eqb number 12) (eqb value 1) s.enextilim;
  disstat = pick (eqb number 13) (eqb value 1) s.disstat;
  masks = pick (eqb number 14) value s.masks;
}
