-- A register's bytes as they read have a spelling, and carry the codes; so the theorem holds of them.
use Prim.Native.Nat.{ℕ, zero, suc, ◌+◌, ◌-◌, ◌*◌, ◌/◌, ◌%◌, ◌<◌}
use mathlib.Core.Path.{◌≡◌, refl, sym, ap, ◌∙◌}
use mathlib.Core.Bool.{Bool, true, false}
use mathlib.Core.List.{[], ◌∷◌}
use native.Mathlib.Nat.{add-zero}
use native.Mathlib.Omega.{arith}
use lib.Dec.{leb}
use Rattle.base.specs.Pick.{pick}
use Rattle.c_words.specs.Words.{bytes_of}
use Rattle.log_raw.specs.Raw.{Raw, byte_of, all_zero, has_spelling}
use Rattle.log_raw.specs.Struct.{raw_of, raw_from}
use Rattle.report_registers.specs.Reads.{value_by, byte_by}
use Rattle.state_parts.specs.declared.profile.Profile.{Profile}
use Rattle.state_runs.specs.Runs.{in_middle}
use Rattle.state_table.specs.Rows.{Field, map_size}
use Rattle.state_table.specs.Packed.{field_at, upper_half}
use Rattle.laws_registers.specs.Fields.{recoded, register_bytes, ReadBytesAsSet}
use Rattle.laws_registers.proofs.Fields.{turns-as-set}
use Rattle.laws_registers.proofs.ReadBytes.{read-bytes-carry}

-- one byte, or two, in the first word
abbrev packed : ℕ → ℕ → Raw
packed count word = raw_of (raw_from count (word ∷ []))

one-spelled : (w : ℕ) → w < 256 → has_spelling (packed 1 w) ≡ true
unfolding has_spelling all_zero bytes_of
one-spelled w h =
    let second : w / 256 % 256 ≡ 0 = omega arith in
    let third : w / 65536 % 256 ≡ 0 = omega arith in
    let fourth : w / 16777216 % 256 ≡ 0 = omega arith in
    rw (second, third, fourth) refl

two-spelled : (w : ℕ) → w < 65536 → has_spelling (packed 2 w) ≡ true
unfolding has_spelling all_zero bytes_of
two-spelled w h =
    let third : w / 65536 % 256 ≡ 0 = omega arith in
    let fourth : w / 16777216 % 256 ≡ 0 = omega arith in
    rw (third, fourth) refl

bytes-are : (count w : ℕ) → (byte_of (packed count w) 0 ≡ w % 256) × (byte_of (packed count w) 1 ≡ w / 256 % 256)
unfolding byte_of bytes_of
bytes-are count w = (refl, refl)

-- what is read is a byte
byte_small : (p : Profile) (code : Field → ℕ) (a : ℕ) → byte_by p code a < 256
unfolding byte_by
byte_small p code a = go (leb map_size a) (upper_half p a)
  where
    go : (s t : Bool) → pick s 255 (pick t (value_by p code (a - 1) / 256 % 256) (value_by p code a % 256)) < 256
    go true t = omega arith
    go false true = omega arith
    go false false = omega arith

module _ (p : Profile) (code : Field → ℕ) (a : ℕ) where
  abbrev low : ℕ
  low = byte_by p code a

  abbrev up : ℕ
  up = byte_by p code (a + 1)

  abbrev raw : Raw
  raw = raw_of (register_bytes p code a)

  small : low < 256
  small = byte_small p code a

  small-up : up < 256
  small-up = byte_small p code (a + 1)

  spelled : has_spelling raw ≡ true
  spelled = go (in_middle p (a + 1))
    where
      go : (t : Bool) → has_spelling (packed (pick t 2 1) (low + 256 * pick t up 0)) ≡ true
      go true = two-spelled (low + 256 * up) (omega (arith, small, small-up))
      go false = one-spelled (low + 256 * 0) (omega (arith, small))

  each-byte : (k : ℕ) → k < raw.count → byte_of raw k ≡ byte_by p code (a + k)
  each-byte k h = go (in_middle p (a + 1)) k h
    where
      low-is : (x : ℕ) → (low + 256 * x) % 256 ≡ low
      low-is x = omega (arith, small)

      go : (t : Bool) (j : ℕ) → j < pick t 2 1 → byte_of (packed (pick t 2 1) (low + 256 * pick t up 0)) j ≡ byte_by p code (a + j)
      go true zero l = (bytes-are 2 (low + 256 * up)).0 ∙ low-is up ∙ sym (ap (byte_by p code) (add-zero a))
      go true (suc zero) l = (bytes-are 2 (low + 256 * up)).1 ∙ omega (arith, small, small-up)
      go true (suc (suc j)) l = absurd (omega arith)
      go false zero l = (bytes-are 1 (low + 256 * 0)).0 ∙ low-is 0 ∙ sym (ap (byte_by p code) (add-zero a))
      go false (suc j) l = absurd (omega arith)

pub read-bytes-as-set : ReadBytesAsSet
read-bytes-as-set s i n step code here fits =
    let p = s.profile in
    let a = (field_at i).address in
    let codes = recoded s (field_at i) code in
    turns-as-set s i n step code (register_bytes p codes a) here fits (read-bytes-carry p codes i (raw_of (register_bytes p codes a)) (spelled p codes a) refl (each-byte p codes a))
