-- The settings of a run: what each kind of event stores is what the account says that it gives, number by number.
use Prim.Native.Nat.{ℕ}
use mathlib.Core.Path.{◌≡◌, refl, ap, ◌∙◌}
use mathlib.Core.Bool.{Bool, true, false, not, ◌&&◌, ◌||◌}
use lib.Dec.{eqb}
use Rattle.base.specs.Pick.{pick}
use Rattle.base.specs.Units.{in_pack}
use Rattle.base.specs.Volts.{pack_of, millivolts_of}
use Rattle.base.specs.declared.units.PackMv.{PackMv}
use Rattle.state_parts.specs.Pins.{vchg_of}
use Rattle.state_parts.specs.declared.profile.Profile.{Profile}
use Rattle.state_start.specs.Values.{start_vreg, start_ichg, start_vsysmin, start_settings}
use Rattle.state_settings.specs.Numbered.{store_of}
use Rattle.state_registers.specs.Writes as registers
use Rattle.settle_all.specs.Settle.{stored_of}
use Rattle.laws_account.specs.Valued.{start_value, recounted}
use Rattle.laws_account.specs.States.{numbered}
use Rattle.laws_account.proofs.Choices.{through, switched}

abbrev is_one : ℕ → Bool
is_one n = eqb n 1

pub store_is : (f : ℕ → ℕ) (n v : ℕ) → store_of (numbered f) n v ≡ numbered (λ k. pick (eqb n k) v (f k))
unfolding store_of
store_is f n v = λ i. record {
  vreg = through pack_of (eqb n 1) v (f 1) i;
  ichg = pick (eqb n 2) v (f 2);
  iprechg = pick (eqb n 3) v (f 3);
  iterm = pick (eqb n 4) v (f 4);
  iindpm = pick (eqb n 5) v (f 5);
  vsysmin = through pack_of (eqb n 6) v (f 6) i;
  lowv = pick (eqb n 7) v (f 7);
  vrechg = pick (eqb n 8) v (f 8);
  enchg = through is_one (eqb n 9) v (f 9) i;
  enterm = through is_one (eqb n 10) v (f 10) i;
  enhiz = through is_one (eqb n 11) v (f 11) i;
  enextilim = through is_one (eqb n 12) v (f 12) i;
  disstat = through is_one (eqb n 13) v (f 13) i;
  masks = pick (eqb n 14) v (f 14);
}

-- the two start values that go by cells
vreg-is : (p : Profile) (cells : ℕ) → start_vreg p cells ≡ pack_of (start_value p cells 1)
unfolding start_vreg start_value
vreg-is p cells = through pack_of (eqb p.vchg 0 || eqb cells 0) 2400 (millivolts_of (in_pack (vchg_of p) cells))

vsysmin-is : (p : Profile) (cells : ℕ) → start_vsysmin p cells ≡ pack_of (start_value p cells 6)
unfolding start_vsysmin start_value
vsysmin-is p cells =
    let each = millivolts_of (in_pack (record { 0 = 3100 }) cells) in
    ap (pick (eqb cells 0) (pack_of 3000)) (through pack_of (eqb cells 1) 3500 each) ∙ through pack_of (eqb cells 0) 3000 (pick (eqb cells 1) 3500 each)

unless : (zero : Bool) (new : PackMv) (old : ℕ) → pick zero (pack_of old) new ≡ pack_of (pick (not zero) (millivolts_of new) old)
unless true new old = refl
unless false new old = refl

pub count-is : (f : ℕ → ℕ) (p : Profile) (cells : ℕ) (taken : Bool)
    → pick taken (registers.recounted p cells (numbered f)) (numbered f) ≡ numbered (λ k. pick taken (recounted p cells k (f k)) (f k))
unfolding registers.recounted
count-is f p cells true = λ i. record {
  vreg = unless (eqb p.vchg 0) (in_pack (vchg_of p) cells) (f 1) i;
  ichg = f 2;
  iprechg = f 3;
  iterm = f 4;
  iindpm = f 5;
  vsysmin = vsysmin-is p cells i;
  lowv = f 7;
  vrechg = f 8;
  enchg = eqb (f 9) 1;
  enterm = eqb (f 10) 1;
  enhiz = eqb (f 11) 1;
  enextilim = eqb (f 12) 1;
  disstat = eqb (f 13) 1;
  masks = f 14;
}
count-is f p cells false = refl

pub start_is : (p : Profile) (cells : ℕ) → start_settings p cells ≡ numbered (start_value p cells)
unfolding start_settings start_ichg start_value
start_is p cells = λ i. record {
  vreg = vreg-is p cells i;
  ichg = start_value p cells 2;
  iprechg = 120;
  iterm = 60;
  iindpm = 3300;
  vsysmin = vsysmin-is p cells i;
  lowv = 3;
  vrechg = 3;
  enchg = true;
  enterm = true;
  enhiz = false;
  enextilim = true;
  disstat = false;
  masks = 0;
}

-- "It forces EN_CHG 0."
pub force-is : (f : ℕ → ℕ) (fault : Bool) → stored_of fault (numbered f) ≡ numbered (λ k. pick (eqb k 9 && fault) 0 (f k))
force-is f fault = λ i. record {
  vreg = pack_of (f 1);
  ichg = f 2;
  iprechg = f 3;
  iterm = f 4;
  iindpm = f 5;
  vsysmin = pack_of (f 6);
  lowv = f 7;
  vrechg = f 8;
  enchg = switched fault (f 9) i;
  enterm = eqb (f 10) 1;
  enhiz = eqb (f 11) 1;
  enextilim = eqb (f 12) 1;
  disstat = eqb (f 13) 1;
  masks = f 14;
}
