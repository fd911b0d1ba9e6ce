-- The numbers of a state: one list, part after part. The header: "The state's numbers follow, from these words on."
use Rattle.std.specs.Prelude.{ℕ, ◌/◌, ◌%◌, ◌≡◌, List, [], ◌∷◌, ◌++◌, length, drop}
use Rattle.base.specs.Pick.{bit_of}
use Rattle.state_parts.specs.Numbers.{phase_number, ts_band_number}
use Rattle.state_parts.specs.declared.profile.Profile.{Profile}
use Rattle.state_parts.specs.declared.settings.Settings.{Settings}
use Rattle.state_parts.specs.declared.registers.Registers.{Registers}
use Rattle.state_parts.specs.declared.latches.Latches.{Latches}
use Rattle.state_parts.specs.declared.cycle.Cycle.{Cycle}
use Rattle.state_parts.specs.declared.watchdog.Watchdog.{Watchdog}
use Rattle.state_parts.specs.declared.sample.Sample.{Sample}
use Rattle.state_parts.specs.declared.state.State.{State}
use Rattle.state_settings.specs.Numbered.{setting_numbers}
use Rattle.log_number.specs.Ibat.{logged_of}
use Rattle.c_list.specs.Places.{state_count}

-- "a power-on's eleven numbers, in kind 11's order"
abbrev pub profile_numbers : Profile → List ℕ
profile_numbers p = p.cell ∷ p.vchg ∷ p.ichg ∷ p.ohms ∷ p.stamp ∷ p.ceiling ∷ p.trickle ∷ p.precharge ∷ p.fast ∷ p.watchdog ∷ p.edition ∷ []

-- "settings 1 to 14": by their numbers, from 1
abbrev pub settings_numbers : Settings → List ℕ
settings_numbers s = drop 1 (setting_numbers s)

-- "the stored fields of 0x00 to 0x27, four addresses to a word; CELL_PIN"
abbrev pub low_half : ℕ → ℕ
low_half n = n % 0x100000000

abbrev pub high_half : ℕ → ℕ
high_half n = n / 0x100000000

abbrev pub registers_numbers : Registers → List ℕ
registers_numbers g =
    let w = g.words in
    low_half w.w0 ∷ high_half w.w0 ∷ low_half w.w1 ∷ high_half w.w1 ∷ low_half w.w2 ∷ high_half w.w2 ∷ low_half w.w3 ∷ high_half w.w3
    ∷ low_half w.w4 ∷ high_half w.w4 ∷ g.cells ∷ []

-- "VIN ok, VIN over, short, low, battery over"
abbrev pub latches_numbers : Latches → List ℕ
latches_numbers l = bit_of l.inputok ∷ bit_of l.inputover ∷ bit_of l.short ∷ bit_of l.low ∷ bit_of l.packover ∷ []

-- "trickle, precharge and fast time in half milliseconds; done"
abbrev pub cycle_numbers : Cycle → List ℕ
cycle_numbers c = c.trickle ∷ c.precharge ∷ c.fast ∷ bit_of c.done ∷ []

-- "milliseconds since it was zeroed, at most its period"
abbrev pub watchdog_numbers : Watchdog → List ℕ
watchdog_numbers w = w.count ∷ []

-- "the last observation's seven numbers, in kind 10's order; its stamp is the last stamp"
abbrev pub sample_numbers : Sample → List ℕ
sample_numbers x = x.stamp ∷ x.input ∷ x.pack ∷ logged_of x.ibat ∷ x.ts ∷ x.secondts ∷ x.bits ∷ []

-- "0 to 7"; each thermistor's, "0 normal, 1 cold, 2 hot, 3 cool, 4 warm"; "the held flags, bits 0 to 11"
abbrev pub judged_numbers : State → List ℕ
judged_numbers s = phase_number s.phase ∷ ts_band_number s.bands.first ∷ ts_band_number s.bands.second ∷ s.flags ∷ []

unfoldable pub state_numbers : State → List ℕ
state_numbers s =
    profile_numbers s.profile
    ++ settings_numbers s.settings
    ++ registers_numbers s.registers
    ++ latches_numbers s.latches
    ++ cycle_numbers s.cycle
    ++ watchdog_numbers s.watchdog
    ++ sample_numbers s.sample
    ++ judged_numbers s

-- every state has as many
abbrev pub StateLong : Type 0
StateLong = (s : State) → length (state_numbers s) ≡ state_count
