-- Runs that go through every phase and come to each clause of demand 3.
use Rattle.std.specs.Prelude.{ℕ, pos}
use Rattle.state_parts.specs.With.{with_edition}
use Rattle.state_parts.specs.declared.profile.Profile.{Profile}
use Rattle.laws_account.specs.History.{Run, powered, ◌▸◌, up_to}
use Rattle.step_turns.specs.declared.later.Later.{Later}
use Rattle.step_turns.specs.declared.later.Later.TheVariants.{Set, Write, Observe}

-- two cells of 4,200 mV, pin 1,500 mA; limits of 30, 40 and 20 s
abbrev pub pack : Profile
pack = record { cell = 2; vchg = 5; ichg = 4; ohms = 0; stamp = 0; ceiling = 4500; trickle = 30; precharge = 40; fast = 20; watchdog = 0; edition = 1 }

-- the same by the second edition of the pack's sheet
abbrev pub holding : Profile
holding = with_edition pack 2

-- the first with pin 100 mA, no limit and a watchdog of 40 s
abbrev pub watched : Profile
watched = record { cell = 2; vchg = 5; ichg = 1; ohms = 0; stamp = 0; ceiling = 4500; trickle = 0; precharge = 0; fast = 0; watchdog = 40; edition = 1 }

-- stamp, VIN, VBAT, IBAT, both TS and bits
abbrev pub sees_two : ℕ → ℕ → ℕ → ℕ → ℕ → ℕ → ℕ → Later
sees_two stamp input pack ibat ts second bits = Observe (record { stamp = stamp; input = input; pack = pack; ibat = pos ibat; ts = ts; secondts = second; bits = bits })

-- and with one TS for both, as kind 5 says it
abbrev pub sees : ℕ → ℕ → ℕ → ℕ → ℕ → ℕ → Later
sees stamp input pack ibat ts bits = sees_two stamp input pack ibat ts ts bits

-- a good input, TS normal, no bit: stamp and VBAT
abbrev pub seen : ℕ → ℕ → Later
seen stamp pack = sees stamp 12000 pack 500 55000 0

-- trickle, precharge, fast, taper, done; suspended by cold and done again; a restart; the fast limit after it; permission taken and given back
unfoldable pub day : Run
day =
    powered pack
    ▸ seen 1000 3000
    ▸ seen 2000 5000
    ▸ seen 3000 7000
    ▸ seen 4000 8395
    ▸ sees 5000 12000 8395 50 55000 0
    ▸ sees 6000 12000 8300 0 80000 0
    ▸ sees 7000 12000 8300 0 55000 0
    ▸ seen 8000 8000
    ▸ seen 28000 8000
    ▸ Set 9 0
    ▸ Set 9 1

-- the moment after the day's first i events
abbrev pub day_at : ℕ → Run
day_at i = up_to i day

-- fast under IINDPM: the limit of 20 s is reached after 40 s
unfoldable pub slow : ℕ → Run
slow stamp = powered pack ▸ sees 1000 12000 7000 500 55000 4 ▸ sees 21000 12000 7000 500 55000 4 ▸ sees stamp 12000 7000 500 55000 4

-- ICHG's pin overridden, until the watchdog expires
unfoldable pub unattended : ℕ → Run
unattended stamp = powered watched ▸ Write 0x1C 8 ▸ Set 2 2000 ▸ seen 1000 7000 ▸ seen stamp 7000

-- one observation in fast with these TS, and with this one for both
unfoldable pub beside : ℕ → ℕ → Run
beside ts second = powered pack ▸ sees_two 1000 12000 7000 500 ts second 0

abbrev pub mild : ℕ → Run
mild ts = beside ts ts

-- two observations in fast with these TS of the first thermistor and of the second
unfoldable pub turning : Profile → ℕ → ℕ → ℕ → ℕ → Run
turning p ts second then_ts then_second = powered p ▸ sees_two 1000 12000 7000 500 ts second 0 ▸ sees_two 2000 12000 7000 500 then_ts then_second 0

-- one for both, first and then another
abbrev pub turns : Profile → ℕ → ℕ → Run
turns p ts then = turning p ts ts then then

-- VBAT first and then another
unfoldable pub packs : ℕ → ℕ → Run
packs first then = powered pack ▸ seen 1000 first ▸ seen 2000 then

-- VIN first and then another
unfoldable pub inputs : ℕ → ℕ → Run
inputs first then = powered pack ▸ sees 1000 first 7000 500 55000 0 ▸ sees 2000 then 7000 500 55000 0

-- a VBAT held until a stamp
unfoldable pub stays : ℕ → ℕ → Run
stays level stamp = powered pack ▸ seen 1000 level ▸ seen stamp level

-- 02, R-1's customer: two cells at 8,400, warm with the cut of 250 per cell (0x19 with JEITA_VSET 1), a VBAT that stays; taper, IBAT below ITERM, and TS back to normal
unfoldable pub warm : ℕ → Run
warm level =
    powered pack
    ▸ Write 0x19 0xB7
    ▸ sees 1000 12000 level 500 40000 0
    ▸ sees 2000 12000 level 50 40000 0
    ▸ sees 3000 12000 level 0 40000 0
    ▸ sees 4000 12000 level 500 55000 0

-- the moment after its first i events
abbrev pub warm_at : ℕ → ℕ → Run
warm_at level i = up_to i (warm level)
