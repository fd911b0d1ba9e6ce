-- Comparators that were judged are at rest: judged again at the same sample, they stay.
use mathlib.Core.Path.{◌≡◌, refl}
use mathlib.Core.Bool.{Bool, true, false, not, ◌&&◌, ◌||◌}
use lib.Dec.{leb}
use Rattle.base.specs.Units.{in_pack, below, below_share}
use Rattle.base.specs.Volts.{pack_of}
use Rattle.state_parts.specs.declared.latches.Latches.{Latches}
use Rattle.state_parts.specs.declared.profile.Profile.{Profile}
use Rattle.state_parts.specs.declared.registers.Registers.{Registers}
use Rattle.state_parts.specs.declared.sample.Sample.{Sample}
use Rattle.state_parts.specs.declared.settings.Settings.{Settings}
use Rattle.settle_levels.specs.Clamps.{fault_of, base_of}
use Rattle.settle_levels.specs.Comparators.{held, short_returns, short_ends, short_of, low_returns, low_ends, low_of, pack_over_of, latches_of}

rest : (begins stays was : Bool) → held begins stays (held begins stays was) ≡ held begins stays was
rest true stays was = refl
rest false true true = refl
rest false true false = refl
rest false false true = refl
rest false false false = refl

-- under a pin fault the battery's comparators don't move at all
on-rest : (fault begins stays was : Bool) → (fault || held begins stays (fault || held begins stays was)) ≡ (fault || held begins stays was)
on-rest true begins stays was = refl
on-rest false begins stays was = rest begins stays was

off_rest : (fault begins stays was : Bool) → (not fault && held begins stays (not fault && held begins stays was)) ≡ (not fault && held begins stays was)
off_rest true begins stays was = refl
off_rest false begins stays was = rest begins stays was

pub latches-rest : (p : Profile) (s : Settings) (g : Registers) (x : Sample) (k : Latches) → latches_of p s g x (latches_of p s g x k) ≡ latches_of p s g x k
unfolding latches_of short_of low_of pack_over_of
latches-rest p s g x k =
    let f = fault_of p g in
    let base = base_of p s g in
    let all = pack_of x.pack in
    simp (
      rest (leb 2900 x.input) (leb 2350 x.input) k.inputok,
      rest (leb 36300 x.input) (leb 34500 x.input) k.inputover,
      on-rest f (below all (in_pack (short_returns p g) g.cells)) (below all (in_pack (short_ends p g) g.cells)) k.short,
      on-rest f (below_share all base (low_returns p s)) (below_share all base (low_ends p s)) k.low,
      off_rest f (not (below_share all base 1040)) (not (below_share all base 1020)) k.packover,
    )
