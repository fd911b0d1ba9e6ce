-- 02: rows that its requests give, computed as 01's are: a log by its bytes, through the reader, the step and the printed text.
use Rattle.std.specs.Prelude.{ℕ, List, [], ◌∷◌, ◌++◌}
use Rattle.laws_rows.specs.Cases.{log, bytes_of}
use Rattle.laws_rows.specs.Rows.{Row, row, Each}

-- R-1: "Two cells at 8,400 are cut to 7,900": 01's power-on; 0x19 with JEITA_VSET 1
abbrev pub warm_start : List ℕ
warm_start =
    0x01 ∷ 0x02 ∷ 0x05 ∷ 0x04 ∷ 0x00 ∷ 0x00 ∷ 0x94 ∷ 0x23 ∷ 0x90 ∷ 0x1C ∷ 0xA0 ∷ 0x38 ∷ 0xA0 ∷ 0x99 ∷ 0x02 ∷ 0x00
    ∷ 0x03 ∷ 0x19 ∷ 0xB7 ∷ 0x01 ∷ []

-- VBAT 7,890: TS 40,000 with IBAT 500, 50 and 0, a second apart; then TS 55,000 with IBAT 500
abbrev pub warm_samples : List ℕ
warm_samples =
    0x05 ∷ 0xE8 ∷ 0x07 ∷ 0xE0 ∷ 0x5D ∷ 0xD2 ∷ 0x3D ∷ 0xE8 ∷ 0x07 ∷ 0xC0 ∷ 0xB8 ∷ 0x02 ∷ 0x00
    ∷ 0x05 ∷ 0xD0 ∷ 0x0F ∷ 0xE0 ∷ 0x5D ∷ 0xD2 ∷ 0x3D ∷ 0x64 ∷ 0xC0 ∷ 0xB8 ∷ 0x02 ∷ 0x00
    ∷ 0x05 ∷ 0xB8 ∷ 0x17 ∷ 0xE0 ∷ 0x5D ∷ 0xD2 ∷ 0x3D ∷ 0x00 ∷ 0xC0 ∷ 0xB8 ∷ 0x02 ∷ 0x00
    ∷ 0x05 ∷ 0xA0 ∷ 0x1F ∷ 0xE0 ∷ 0x5D ∷ 0xD2 ∷ 0x3D ∷ 0xE8 ∷ 0x07 ∷ 0xD8 ∷ 0xAD ∷ 0x03 ∷ 0x00 ∷ []

-- R-5: 01's power-on by its resistors, at CELL, VCHG and ICHG, and those of ILIM; then 01's observation
abbrev pub soldered_log : List ℕ → List ℕ → List ℕ
soldered_log pins ilim =
    0x09 ∷ (pins ++ (ilim ++ (0x00 ∷ 0x94 ∷ 0x23 ∷ 0x90 ∷ 0x1C ∷ 0xA0 ∷ 0x38 ∷ 0xA0 ∷ 0x99 ∷ 0x02 ∷ 0x00
    ∷ 0x05 ∷ 0xE8 ∷ 0x07 ∷ 0xE0 ∷ 0x5D ∷ 0xB0 ∷ 0x3B ∷ 0x00 ∷ 0xD8 ∷ 0xAD ∷ 0x03 ∷ 0x00 ∷ [])))

-- R-3: 01's power-on and observation, and what follows
abbrev pub typed_log : List ℕ → List ℕ
typed_log bytes =
    0x01 ∷ 0x02 ∷ 0x05 ∷ 0x04 ∷ 0x00 ∷ 0x00 ∷ 0x94 ∷ 0x23 ∷ 0x90 ∷ 0x1C ∷ 0xA0 ∷ 0x38 ∷ 0xA0 ∷ 0x99 ∷ 0x02 ∷ 0x00
    ∷ 0x05 ∷ 0xE8 ∷ 0x07 ∷ 0xE0 ∷ 0x5D ∷ 0xB0 ∷ 0x3B ∷ 0x00 ∷ 0xD8 ∷ 0xAD ∷ 0x03 ∷ 0x00 ∷ bytes

-- 01's power-on with a watchdog of 1 s, its flags taken, 01's observation at 900 ms, a byte at 0x12, and the observation at 1,899 and 1,900 ms
abbrev pub served_log : ℕ → List ℕ
served_log byte =
    0x01 ∷ 0x02 ∷ 0x05 ∷ 0x04 ∷ 0x00 ∷ 0x00 ∷ 0x94 ∷ 0x23 ∷ 0x90 ∷ 0x1C ∷ 0xA0 ∷ 0x38 ∷ 0xA0 ∷ 0x99 ∷ 0x02 ∷ 0x01 ∷ 0x04
    ∷ 0x05 ∷ 0x84 ∷ 0x07 ∷ 0xE0 ∷ 0x5D ∷ 0xB0 ∷ 0x3B ∷ 0x00 ∷ 0xD8 ∷ 0xAD ∷ 0x03 ∷ 0x00
    ∷ 0x08 ∷ 0x12 ∷ 0x01 ∷ byte
    ∷ 0x05 ∷ 0xEB ∷ 0x0E ∷ 0xE0 ∷ 0x5D ∷ 0xB0 ∷ 0x3B ∷ 0x00 ∷ 0xD8 ∷ 0xAD ∷ 0x03 ∷ 0x00
    ∷ 0x05 ∷ 0xEC ∷ 0x0E ∷ 0xE0 ∷ 0x5D ∷ 0xB0 ∷ 0x3B ∷ 0x00 ∷ 0xD8 ∷ 0xAD ∷ 0x03 ∷ 0x00 ∷ []

-- R-7: 01's power-on, and what follows
abbrev pub paired_log : List ℕ → List ℕ
paired_log bytes = 0x01 ∷ 0x02 ∷ 0x05 ∷ 0x04 ∷ 0x00 ∷ 0x00 ∷ 0x94 ∷ 0x23 ∷ 0x90 ∷ 0x1C ∷ 0xA0 ∷ 0x38 ∷ 0xA0 ∷ 0x99 ∷ 0x02 ∷ 0x00 ∷ bytes

-- 01's observation as kind 10, with this stamp and these two TS, each by its bytes
abbrev pub paired_sample : List ℕ → List ℕ → List ℕ → List ℕ
paired_sample stamp ts second = 0x0A ∷ (stamp ++ (0xE0 ∷ 0x5D ∷ 0xB0 ∷ 0x3B ∷ 0x00 ∷ (ts ++ (second ++ (0x00 ∷ [])))))

-- cool, warm and normal: 70,000, 40,000 and 55,000; cold and hot: 80,000 and 30,000; and 100,001
abbrev pub cool_ts : List ℕ
cool_ts = 0xF0 ∷ 0xA2 ∷ 0x04 ∷ []

abbrev pub warm_ts : List ℕ
warm_ts = 0xC0 ∷ 0xB8 ∷ 0x02 ∷ []

abbrev pub normal_ts : List ℕ
normal_ts = 0xD8 ∷ 0xAD ∷ 0x03 ∷ []

abbrev pub cold_ts : List ℕ
cold_ts = 0x80 ∷ 0xF1 ∷ 0x04 ∷ []

abbrev pub hot_ts : List ℕ
hot_ts = 0xB0 ∷ 0xEA ∷ 0x01 ∷ []

abbrev pub large_ts : List ℕ
large_ts = 0xA1 ∷ 0x8D ∷ 0x06 ∷ []

-- R-8: 01's power-on as kind 11 with an edition, and what follows
abbrev pub edition_log : ℕ → List ℕ → List ℕ
edition_log edition bytes =
    0x0B ∷ 0x02 ∷ 0x05 ∷ 0x04 ∷ 0x00 ∷ 0x00 ∷ 0x94 ∷ 0x23 ∷ 0x90 ∷ 0x1C ∷ 0xA0 ∷ 0x38 ∷ 0xA0 ∷ 0x99 ∷ 0x02 ∷ 0x00 ∷ edition ∷ bytes

-- 01's observation with this stamp and TS
abbrev pub turned_to : List ℕ → List ℕ → List ℕ
turned_to stamp ts = 0x05 ∷ (stamp ++ (0xE0 ∷ 0x5D ∷ 0xB0 ∷ 0x3B ∷ 0x00 ∷ (ts ++ (0x00 ∷ []))))

-- at TH2, 68,250; 999 and 1,000 back; at TH1, 75,320; 999 and 1,000 back; at TH5, 34,375; 999 and 1,000 back
abbrev pub turning_samples : List ℕ
turning_samples =
    turned_to (0xE8 ∷ 0x07 ∷ []) (0x9A ∷ 0x95 ∷ 0x04 ∷ []) ++ (turned_to (0xD0 ∷ 0x0F ∷ []) (0xB3 ∷ 0x8D ∷ 0x04 ∷ []) ++ (turned_to (0xB8 ∷ 0x17 ∷ []) (0xB2 ∷ 0x8D ∷ 0x04 ∷ [])
    ++ (turned_to (0xA0 ∷ 0x1F ∷ []) (0xB8 ∷ 0xCC ∷ 0x04 ∷ []) ++ (turned_to (0x88 ∷ 0x27 ∷ []) (0xD1 ∷ 0xC4 ∷ 0x04 ∷ []) ++ (turned_to (0xF0 ∷ 0x2E ∷ []) (0xD0 ∷ 0xC4 ∷ 0x04 ∷ [])
    ++ (turned_to (0xD8 ∷ 0x36 ∷ []) (0xC7 ∷ 0x8C ∷ 0x02 ∷ []) ++ (turned_to (0xC0 ∷ 0x3E ∷ []) (0xAE ∷ 0x94 ∷ 0x02 ∷ []) ++ turned_to (0xA8 ∷ 0x46 ∷ []) (0xAF ∷ 0x94 ∷ 0x02 ∷ []))))))))

unfoldable pub requested : List Row
requested =
    -- R-1: taper; done, though 7,890 is below 97% of 8,400; still done; back in normal the band alone restarts the cycle
    row (log (warm_start ++ warm_samples))
    (bytes_of "1 1 0 0 0 0 3300 1 32\n2 3 0 0 0 0 3300 0 32\n3 5 0 4 1500 7900 3300 1 225\n4 5 0 5 0 0 3300 1 225\n5 5 0 5 0 0 3300 0 225\n6 5 0 3 1500 8400 3300 1 225\nend 6 0 70\n")
    -- R-4: "the log's end for 1, the last group for 2, the fifth group for 3": a set whose first number is cut off, or ends with a zero group; whose second is too large, by its value or by
    -- five groups with the high bit
    ∷ row (log (0x02 ∷ 0x80 ∷ [])) (bytes_of "end 0 1 2\n")
    ∷ row (log (0x02 ∷ 0x80 ∷ 0x00 ∷ [])) (bytes_of "end 0 2 2\n")
    ∷ row (log (0x02 ∷ 0x01 ∷ 0x80 ∷ 0x80 ∷ 0x80 ∷ 0x80 ∷ 0x10 ∷ 0x00 ∷ [])) (bytes_of "end 0 3 6\n")
    ∷ row (log (0x02 ∷ 0x01 ∷ 0x80 ∷ 0x80 ∷ 0x80 ∷ 0x80 ∷ 0x80 ∷ [])) (bytes_of "end 0 3 6\n")
    -- "Refusals 4 and 14 keep the record's start": a service, and then a byte that is no kind's; the same before a zero group
    ∷ row (log (0x06 ∷ 0x12 ∷ 0x80 ∷ [])) (bytes_of "1 6 6 0 0 0 0 0 0\nend 1 4 1\n")
    ∷ row (log (0x06 ∷ 0x02 ∷ 0x80 ∷ 0x00 ∷ [])) (bytes_of "1 6 6 0 0 0 0 0 0\nend 1 2 3\n")
    -- R-5: "From there it acts as kind 1 with those codes": 6,040, 13,700 and 10,500 ohms are 01's codes 2, 5 and 4; so are 5,920, 13,974 and 10,290, at the ends of their spans
    ∷ row (log (soldered_log (0x98 ∷ 0x2F ∷ 0x84 ∷ 0x6B ∷ 0x84 ∷ 0x52 ∷ []) (0x00 ∷ []))) (bytes_of "1 9 0 0 0 0 3300 1 32\n2 5 0 3 1500 8400 3300 1 97\nend 2 0 31\n")
    ∷ row (log (soldered_log (0xA0 ∷ 0x2E ∷ 0x96 ∷ 0x6D ∷ 0xB2 ∷ 0x50 ∷ []) (0x00 ∷ []))) (bytes_of "1 9 0 0 0 0 3300 1 32\n2 5 0 3 1500 8400 3300 1 97\nend 2 0 31\n")
    -- "no match is code 0, a pin fault": 5,919 ohms at CELL; 100,000 at VCHG
    ∷ row (log (soldered_log (0x9F ∷ 0x2E ∷ 0x84 ∷ 0x6B ∷ 0x84 ∷ 0x52 ∷ []) (0x00 ∷ []))) (bytes_of "1 9 0 0 0 0 3300 1 32\n2 5 0 0 0 0 3300 1 33\nend 2 0 31\n")
    ∷ row (log (soldered_log (0x98 ∷ 0x2F ∷ 0xA0 ∷ 0x8D ∷ 0x06 ∷ 0x84 ∷ 0x52 ∷ []) (0x00 ∷ []))) (bytes_of "1 9 0 0 0 0 3300 1 32\n2 5 0 0 0 0 3300 1 33\nend 2 0 32\n")
    -- "ohms above 100,000 are 5": 100,001 at VCHG; the ILIM ohms keep 33,000
    ∷ row (log (soldered_log (0x98 ∷ 0x2F ∷ 0xA1 ∷ 0x8D ∷ 0x06 ∷ 0x84 ∷ 0x52 ∷ []) (0x00 ∷ []))) (bytes_of "1 9 5 0 0 0 0 0 0\n2 5 6 0 0 0 0 0 0\nend 2 0 32\n")
    ∷ row (log (soldered_log (0x98 ∷ 0x2F ∷ 0x84 ∷ 0x6B ∷ 0x84 ∷ 0x52 ∷ []) (0xE9 ∷ 0x81 ∷ 0x02 ∷ []))) (bytes_of "1 9 5 0 0 0 0 0 0\n2 5 6 0 0 0 0 0 0\nend 2 0 33\n")
    -- R-3: a run of four bytes at 0x04 is VREG 8,200 and IINDPM 2,000, "little-endian"; the read of 0x20 "clears its own flags"
    ∷ row (log (typed_log (0x08 ∷ 0x04 ∷ 0x04 ∷ 0xA0 ∷ 0x19 ∷ 0x40 ∷ 0x06 ∷ 0x0E ∷ 0x20 ∷ [])))
    (bytes_of "1 1 0 0 0 0 3300 1 32\n2 5 0 3 1500 8400 3300 1 97\n3 8 0 3 1500 8200 2000 0 97\n4 14 0 3 1500 8200 2000 0 0\nend 4 0 37\n")
    -- "Reset and service bits act as kinds 7 and 6 after the run's other bytes": IINDPM 2,000 and a reset bit leave what a reset leaves
    ∷ row (log (typed_log (0x08 ∷ 0x06 ∷ 0x0B ∷ 0x40 ∷ 0x06 ∷ 0x00 ∷ 0x00 ∷ 0x00 ∷ 0x00 ∷ 0x00 ∷ 0x00 ∷ 0x06 ∷ 0x06 ∷ 0x80 ∷ [])))
    (bytes_of "1 1 0 0 0 0 3300 1 32\n2 5 0 3 1500 8400 3300 1 97\n3 8 0 3 1500 8400 3300 0 97\nend 3 0 42\n")
    -- a watchdog of one second, 900 ms, and a service bit: it expires a second after the bit and not a millisecond before
    ∷ row (log (served_log 0x84)) (bytes_of "1 1 0 0 0 0 3300 1 32\n2 4 0 0 0 0 3300 0 0\n3 5 0 3 1500 8400 3300 1 65\n4 8 0 3 1500 8400 3300 0 65\n5 5 0 3 1500 8400 3300 0 65\n6 5 0 3 1500 8400 3300 1 97\nend 6 0 57\n")
    -- without the bit it expires 100 ms after the run
    ∷ row (log (served_log 0x80)) (bytes_of "1 1 0 0 0 0 3300 1 32\n2 4 0 0 0 0 3300 0 0\n3 5 0 3 1500 8400 3300 1 65\n4 8 0 3 1500 8400 3300 0 65\n5 5 0 3 1500 8400 3300 1 97\n6 5 0 3 1500 8400 3300 0 97\nend 6 0 57\n")
    -- "15, half of a sixteen-bit register, after 10, then 11; a field value that its setting can't hold is 9, last": 0x25 to 0x27; 0x05; 0x0E to 0x16 with IPRECHG 0 and FSW 0; IPRECHG 0 alone; and
    -- kind 14 at 0x22
    ∷ row (log (typed_log (0x08 ∷ 0x25 ∷ 0x03 ∷ 0x00 ∷ 0x00 ∷ 0x00 ∷ 0x08 ∷ 0x05 ∷ 0x01 ∷ 0x19 ∷ 0x0E ∷ 0x22 ∷ [])))
    (bytes_of "1 1 0 0 0 0 3300 1 32\n2 5 0 3 1500 8400 3300 1 97\n3 8 10 3 1500 8400 3300 0 97\n4 8 15 3 1500 8400 3300 0 97\n5 14 10 3 1500 8400 3300 0 97\nend 5 0 40\n")
    ∷ row (log (typed_log (0x08 ∷ 0x0E ∷ 0x09 ∷ 0x00 ∷ 0x03 ∷ 0x3F ∷ 0x00 ∷ 0x00 ∷ 0x00 ∷ 0x00 ∷ 0x00 ∷ 0x00 ∷ 0x08 ∷ 0x0E ∷ 0x01 ∷ 0x00 ∷ [])))
    (bytes_of "1 1 0 0 0 0 3300 1 32\n2 5 0 3 1500 8400 3300 1 97\n3 8 11 3 1500 8400 3300 0 97\n4 8 9 3 1500 8400 3300 0 97\nend 4 0 44\n")
    -- "the log reader gives 5 for another length, after 2, and this 5 counts wherever 01 says 1-4"; R-4: "the reader's 5 the length's": 33, and a length that ends with a zero group
    ∷ row (log (0x06 ∷ 0x08 ∷ 0x10 ∷ 0x21 ∷ 0x00 ∷ [])) (bytes_of "1 6 6 0 0 0 0 0 0\nend 1 5 3\n")
    ∷ row (log (0x06 ∷ 0x08 ∷ 0x10 ∷ 0xA1 ∷ 0x00 ∷ [])) (bytes_of "1 6 6 0 0 0 0 0 0\nend 1 2 4\n")
    -- R-7: cool beside warm suspends, which neither does alone; two normal ones charge; cool beside normal is cool; a second value of 100,001 is 5; cold beside hot suspends; warm beside cool
    -- after it too, and flag 7 tells the bands apart by a pulse
    ∷ row (log (paired_log (
    paired_sample (0xE8 ∷ 0x07 ∷ []) cool_ts warm_ts ++ (paired_sample (0xD0 ∷ 0x0F ∷ []) normal_ts normal_ts ++ (paired_sample (0xB8 ∷ 0x17 ∷ []) cool_ts normal_ts
    ++ (paired_sample (0xA0 ∷ 0x1F ∷ []) normal_ts large_ts ++ (paired_sample (0xA0 ∷ 0x1F ∷ []) cold_ts hot_ts ++ paired_sample (0x88 ∷ 0x27 ∷ []) warm_ts cool_ts)))))))
    (bytes_of "1 1 0 0 0 0 3300 1 32\n2 10 0 6 0 0 3300 1 225\n3 10 0 3 1500 8400 3300 1 225\n4 10 0 3 300 8400 3300 1 225\n5 10 5 3 300 8400 3300 0 225\n6 10 0 6 0 0 3300 1 225\n7 10 0 6 0 0 3300 1 225\nend 7 0 106\n")
    -- 01's own log with kind 10 for its observation; and a record that ends before its bits
    ∷ row (log (paired_log (paired_sample (0xE8 ∷ 0x07 ∷ []) normal_ts normal_ts ++ (0x0A ∷ 0xD0 ∷ 0x0F ∷ 0xE0 ∷ 0x5D ∷ 0xB0 ∷ 0x3B ∷ 0x00 ∷ (normal_ts ++ normal_ts)))))
    (bytes_of "1 1 0 0 0 0 3300 1 32\n2 10 0 3 1500 8400 3300 1 97\nend 2 1 45\n")
    -- R-8: "held until TS is 1,000 units or more back": cool at TH2, still cool, normal; cold at TH1, still cold, and left for cool; hot at TH5, still hot, and left for warm
    ∷ row (log (edition_log 2 turning_samples))
    (bytes_of "1 11 0 0 0 0 3300 1 32\n2 5 0 3 300 8400 3300 1 225\n3 5 0 3 300 8400 3300 0 225\n4 5 0 3 1500 8400 3300 1 225\n5 5 0 6 0 0 3300 1 225\n6 5 0 6 0 0 3300 0 225\n7 5 0 3 300 8400 3300 1 225\n8 5 0 6 0 0 3300 1 225\n9 5 0 6 0 0 3300 0 225\n10 5 0 3 1500 8200 3300 1 225\nend 10 0 125\n")
    -- the first edition judges each afresh
    ∷ row (log (edition_log 1 turning_samples))
    (bytes_of "1 11 0 0 0 0 3300 1 32\n2 5 0 3 300 8400 3300 1 225\n3 5 0 3 1500 8400 3300 1 225\n4 5 0 3 1500 8400 3300 0 225\n5 5 0 6 0 0 3300 1 225\n6 5 0 3 300 8400 3300 1 225\n7 5 0 3 300 8400 3300 0 225\n8 5 0 6 0 0 3300 1 225\n9 5 0 3 1500 8200 3300 1 225\n10 5 0 3 1500 8200 3300 0 225\nend 10 0 125\n")
    -- "another edition number is 5": 3 and 0; "for each thermistor by itself": one cool beside a normal one, and then still cool beside one at TH3, which suspends
    ∷ row (log (edition_log 3 (edition_log 0 (edition_log 2 (paired_sample (0xE8 ∷ 0x07 ∷ []) (0x9A ∷ 0x95 ∷ 0x04 ∷ []) normal_ts ++ paired_sample (0xD0 ∷ 0x0F ∷ []) (0xB3 ∷ 0x8D ∷ 0x04 ∷ []) (0xCE ∷ 0xDD ∷ 0x02 ∷ []))))))
    (bytes_of "1 11 5 0 0 0 0 0 0\n2 11 5 0 0 0 0 0 0\n3 11 0 0 0 0 3300 1 32\n4 10 0 3 300 8400 3300 1 225\n5 10 0 6 0 0 3300 1 225\nend 5 0 81\n")
    ∷ []

abbrev pub EveryRequest : Type 0
EveryRequest = Each requested
