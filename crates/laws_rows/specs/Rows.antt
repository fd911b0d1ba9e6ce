-- 01, "Rows to prove": "One table, one theorem over all rows".
use Rattle.std.specs.Prelude.{ℕ, ◌≡◌, List, [], ◌∷◌, ℤ, pos, negsuc}
use Rattle.log_event.specs.declared.Event.{Event}
use Rattle.log_event.specs.declared.Event.TheVariants.{PowerOn, Set, Write, Observe}
use Rattle.laws_rows.specs.Cases.{setting, band, phase, current, voltage, input_limit, Case, log, events, stamps, spelling, number, given, bytes_of}

pub record Row : Type 0 where
  pub case : Case
  pub gives : List ℕ

abbrev pub row : Case → List ℕ → Row
row c numbers = record { case = c; gives = numbers }

-- a power-on by its three pin codes and the resistor
abbrev pub powered : ℕ → ℕ → ℕ → ℕ → Event
powered cell vchg ichg ohms =
    PowerOn (record { cell = cell; vchg = vchg; ichg = ichg; ohms = ohms; stamp = 0; ceiling = 4500; trickle = 0; precharge = 0; fast = 0; watchdog = 0 })

-- a sample by its VIN, VBAT and TS, with no current and no bits
abbrev pub seen : ℕ → ℕ → ℕ → Event
seen input pack ts = Observe (record { stamp = 0; input = input; pack = pack; ibat = pos 0; ts = ts; bits = 0 })

-- a sample of zeros but for IBAT
abbrev pub flows : ℤ → Event
flows ibat = Observe (record { stamp = 0; input = 0; pack = 0; ibat = ibat; ts = 0; bits = 0 })

-- "`01 02 05 04 00 00 94 23 90 1C A0 38 A0 99 02 00 05 E8 07 E0 5D B0 3B 00 D8 AD 03 00`"
abbrev pub paper_log : List ℕ
paper_log =
    0x01 ∷ 0x02 ∷ 0x05 ∷ 0x04 ∷ 0x00 ∷ 0x00 ∷ 0x94 ∷ 0x23 ∷ 0x90 ∷ 0x1C ∷ 0xA0 ∷ 0x38 ∷ 0xA0 ∷ 0x99 ∷ 0x02 ∷ 0x00 ∷ 0x05 ∷ 0xE8 ∷ 0x07 ∷ 0xE0 ∷ 0x5D ∷ 0xB0 ∷ 0x3B ∷ 0x00 ∷ 0xD8
    ∷ 0xAD ∷ 0x03 ∷ 0x00 ∷ []

-- 0x18 has TH5, TH3, TH2, TH1 from bit 6 down, two bits each. 0x19 has JEITA_VSET at bit 5, EN_JEITA and EN_TS at bits 1 and 0. 0x1B has CELL_PIN_OVERRIDE at bit 6.
unfoldable pub rows : List Row
rows =
    -- "the log above"
    row (log paper_log) (bytes_of "1 1 0 0 0 0 3300 1 32\n2 5 0 3 1500 8400 3300 1 97\nend 2 0 28\n")
    -- "6,040 ohms gives 551"
    ∷ row (events (powered 2 5 4 6040 ∷ []) (input_limit ∷ [])) (551 ∷ [])
    -- "TS 70,900 with TH1 = 3 is cold though TH2 = 0": band 1
    ∷ row (events (powered 2 5 4 0 ∷ Write 0x18 0x93 ∷ seen 12000 7600 70900 ∷ []) (band ∷ [])) (1 ∷ [])
    -- "TS 41,200 with TH5 = 0, TH3 = 3 is hot": band 2
    ∷ row (events (powered 2 5 4 0 ∷ Write 0x18 0x35 ∷ seen 12000 7600 41200 ∷ []) (band ∷ [])) (2 ∷ [])
    -- "vchg 3, cells 5 to 4 gives VREG 16,000, VSYSMIN 12,400": settings 1 and 6
    ∷ row (events (powered 5 3 4 0 ∷ Write 0x1B 0x45 ∷ Write 0x1B 0x44 ∷ []) (setting 1 ∷ setting 6 ∷ [])) (16000 ∷ 12400 ∷ [])
    -- "ICHG 40 in trickle reports 100"
    ∷ row (events (powered 2 5 4 0 ∷ Set 2 40 ∷ seen 12000 0 55000 ∷ []) (setting 2 ∷ phase ∷ current ∷ [])) (40 ∷ 1 ∷ 100 ∷ [])
    -- "VREG 2,400, seven cells, cut 250 gives 650": warm, JEITA_VSET 1
    ∷ row (events (powered 7 5 4 0 ∷ Set 1 2400 ∷ Write 0x19 0xB7 ∷ seen 12000 0 44000 ∷ []) (setting 1 ∷ band ∷ voltage ∷ [])) (2400 ∷ 4 ∷ 650 ∷ [])
    -- "stamps FFFFFFFF then 0 differ by 1"
    ∷ row (stamps 0xFFFFFFFF 0) (1 ∷ [])
    -- "IBAT -1 logs 01": the fourth number of its record
    ∷ row (spelling (flows (negsuc 0))) (0x05 ∷ 0x00 ∷ 0x00 ∷ 0x00 ∷ 0x01 ∷ 0x00 ∷ 0x00 ∷ [])
    -- "number `80 00` is 2"
    ∷ row (number (0x80 ∷ 0x00 ∷ [])) (2 ∷ [])
    ∷ []

abbrev pub Each : List Row → Type 0
Each [] = Unit {0}
Each (r ∷ more) = (given r.case ≡ r.gives) × Each more

abbrev pub EveryRow : Type 0
EveryRow = Each rows
