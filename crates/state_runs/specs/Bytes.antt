-- 02, R-3: "runs of written bytes at ascending addresses. Sixteen-bit registers are little-endian". The bytes of a run, by their number from 0, as the values and the codes that are
-- written.
use Rattle.std.specs.Prelude.{ℕ, zero, suc, ◌+◌, ◌-◌, ◌*◌, Bool, ◌&&◌, leb, ltb}
use Rattle.state_table.specs.Rows.{Field, digit_of}

-- what the register at byte i takes: that byte, and the next one above it, in which no field of an eight-bit register has a bit
abbrev pub value_in : (ℕ → ℕ) → ℕ → ℕ
value_in byte i = byte i + 256 * byte (i + 1)

-- so many steps, with the numbers from 0 up: "at ascending addresses"
abbrev pub stepwise : {A : Type 0} → (A → ℕ → A) → ℕ → A → A
stepwise step zero a = a
stepwise step (suc k) a = step (stepwise step k a) k

-- a field's register is written by a run from an address on, of so many bytes
abbrev pub is_written : ℕ → ℕ → Field → Bool
is_written first count f = leb first f.address && ltb f.address (first + count)

-- and its code there
abbrev pub written_code : (ℕ → ℕ) → ℕ → Field → ℕ
written_code byte first f = digit_of f (value_in byte (f.address - first))
