-- 01, "Events and their log spelling": the ranges of kind 1's and kind 5's numbers; 02, R-5: of the three that kind 9 has for codes; R-7: of the one that kind 10 has more than kind 5; R-8: of the one that kind 11 has more than kind 1. 5: "a number outside kind 1, 3 or 5's ranges above". Kind 3's byte is judged after its address.
use Rattle.std.specs.Prelude.{ℕ, Bool, ◌&&◌, leb, pos, negsuc}
use Rattle.std.specs.Int.Signed.{le_z}
use Rattle.log_event.specs.declared.spelled.SpelledProfile.{SpelledProfile}
use Rattle.log_event.specs.declared.spelled.SpelledResistors.{SpelledResistors}
use Rattle.log_event.specs.declared.spelled.SpelledSample.{SpelledSample}

-- "1 power-on | cell, vchg, ichg codes 0-7; ILIM ohms 0-33,000; stamp; cell ceiling 4,350-4,714; trickle, precharge, fast limits and watchdog period in seconds, 0-172,800"
unfoldable pub profile_in_range : SpelledProfile → Bool
profile_in_range p =
    leb p.cell 7 && leb p.vchg 7 && leb p.ichg 7 && leb p.ohms 33000 && leb 4350 p.ceiling && leb p.ceiling 4714
    && leb p.trickle 172800 && leb p.precharge 172800 && leb p.fast 172800 && leb p.watchdog 172800

-- R-8: "kind 11 is kind 1 with an edition number 1 or 2 after the watchdog period"
unfoldable pub edition_in_range : SpelledProfile → ℕ → Bool
edition_in_range p edition = profile_in_range p && leb 1 edition && leb edition 2

-- "5 observe | stamp; VIN, VBAT 0-45,000; IBAT -10,000 to 5,000; TS 0-100,000; bits 0-63"
unfoldable pub sample_in_range : SpelledSample → Bool
sample_in_range x =
    leb x.input 45000 && leb x.pack 45000 && le_z (negsuc 9999) x.ibat && le_z x.ibat (pos 5000) && leb x.ts 100000
    && leb x.bits 63

-- R-7: "Kind 10 is kind 5 with the second value right after the first", a TS value as the first is
unfoldable pub two_in_range : SpelledSample → ℕ → Bool
two_in_range x second = sample_in_range x && leb second 100000

-- R-5: "ohms above 100,000 are 5"
unfoldable pub resistors_in_range : SpelledResistors → Bool
resistors_in_range r = leb r.cell 100000 && leb r.vchg 100000 && leb r.ichg 100000
