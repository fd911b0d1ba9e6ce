-- How many numbers each part of a state has, and where each part starts in the list: after all the numbers before it.
use Rattle.std.specs.Prelude.{ℕ, ◌+◌}

abbrev profile_count : ℕ
profile_count = 11

abbrev settings_count : ℕ
settings_count = 14

abbrev registers_count : ℕ
registers_count = 11

abbrev latches_count : ℕ
latches_count = 5

abbrev cycle_count : ℕ
cycle_count = 4

abbrev watchdog_count : ℕ
watchdog_count = 1

abbrev sample_count : ℕ
sample_count = 7

abbrev phase_count : ℕ
phase_count = 1

abbrev bands_count : ℕ
bands_count = 2

abbrev flags_count : ℕ
flags_count = 1

abbrev pub profile_place : ℕ
profile_place = 0

abbrev pub settings_place : ℕ
settings_place = profile_place + profile_count

abbrev pub registers_place : ℕ
registers_place = settings_place + settings_count

abbrev pub latches_place : ℕ
latches_place = registers_place + registers_count

abbrev pub cycle_place : ℕ
cycle_place = latches_place + latches_count

abbrev pub watchdog_place : ℕ
watchdog_place = cycle_place + cycle_count

abbrev pub sample_place : ℕ
sample_place = watchdog_place + watchdog_count

abbrev pub phase_place : ℕ
phase_place = sample_place + sample_count

abbrev pub bands_place : ℕ
bands_place = phase_place + phase_count

abbrev pub flags_place : ℕ
flags_place = bands_place + bands_count

-- how many there are
abbrev pub state_count : ℕ
state_count = flags_place + flags_count
