-- 01: "Flags, on an edge between the state before the event and the state after settling, masked or not: bit 0 input good, 1 input lost, 2-4 IINDPM, VINDPM, thermal regulation
-- begin, 5 watchdog expired, 6 phase changed, 7 band changed, 8 VIN over, 9 thermal shutdown, 10 battery over, 11 a first limit reached."
use Rattle.std.specs.Prelude.{ℕ, ◌+◌, ◌*◌, ◌/◌, ◌%◌, Bool, ◌&&◌, ◌||◌, eqb}
use Rattle.std.specs.Int.Bits.{bit_or}
use Rattle.base.specs.Pick.{bit_of}
use Rattle.state_parts.specs.declared.flags.Edges.{Edges}

unfoldable pub flags_number : Edges → ℕ
flags_number e =
    bit_of e.good
    + bit_of e.lost * 2
    + bit_of e.iindpm * 4
    + bit_of e.vindpm * 8
    + bit_of e.thermal * 16
    + bit_of e.expired * 32
    + bit_of e.phase * 64
    + bit_of e.band * 128
    + bit_of e.inputover * 256
    + bit_of e.shutdown * 512
    + bit_of e.packover * 1024
    + bit_of e.limit * 2048

-- a flag that is held stays, and an edge adds its own: bit by bit, the higher of the two (`FlagsJoin`)
unfoldable pub merged : ℕ → Edges → ℕ
merged held edges = bit_or held (flags_number edges)

-- a mask bit of 1 keeps its edge from pulsing
abbrev pub unmasked : Bool → ℕ → ℕ → Bool
unmasked edge masks weight = edge && eqb (masks / weight % 2) 0

-- "One pulse per event with an unmasked edge, by the masks after it."
unfoldable pub pulse_of : Edges → ℕ → Bool
pulse_of edges masks =
    unmasked edges.good masks 1
    || unmasked edges.lost masks 2
    || unmasked edges.iindpm masks 4
    || unmasked edges.vindpm masks 8
    || unmasked edges.thermal masks 16
    || unmasked edges.expired masks 32
    || unmasked edges.phase masks 64
    || unmasked edges.band masks 128
    || unmasked edges.inputover masks 256
    || unmasked edges.shutdown masks 512
    || unmasked edges.packover masks 1024
    || unmasked edges.limit masks 2048

abbrev pub no_flags : ℕ
no_flags = 0

-- "Power-on sets flags to 32 and pulses."
abbrev pub power_on_flags : ℕ
power_on_flags = 32

-- the most that flags come to: all twelve
abbrev pub all_flags : ℕ
all_flags = 4095
