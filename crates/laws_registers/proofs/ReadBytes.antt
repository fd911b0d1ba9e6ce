-- The bytes that are read carry the codes that they are read by.
use Prim.Native.Nat.{ℕ, ◌+◌, ◌-◌, ◌*◌, ◌/◌, ◌%◌, ◌^◌, ◌≤◌, ◌<◌}
use mathlib.Core.Path.{◌≡◌, refl, sym, ap, subst, ◌∙◌}
use mathlib.Core.Bool.{Bool, true, false, ◌&&◌}
use native.Mathlib.Nat.{add-zero}
use native.Mathlib.Omega.{arith}
use lib.Dec.{ltb}
use borrow.Author.Tests.{ltb-true, lt-leb, lt-ltb}
use Rattle.base.specs.Pick.{pick}
use Rattle.base.proofs.Tests.{and-iff, neither}
use Rattle.log_raw.specs.Raw.{Raw, byte_of, has_spelling}
use Rattle.log_raw.proofs.Soundness.{spelling-told}
use Rattle.report_registers.specs.Reads.{value_by, byte_by}
use Rattle.state_fields.proofs.Gathers.{nth}
use Rattle.state_fields.proofs.Puts.{same-below}
use Rattle.state_parts.specs.declared.profile.Profile.{Profile}
use Rattle.state_runs.specs.Bytes.{value_in}
use Rattle.state_runs.specs.Runs.{in_middle}
use Rattle.state_table.specs.Rows.{Field}
use Rattle.state_table.specs.Packed.{field_at, upper_half}
use Rattle.laws_registers.specs.Fields.{register_size, ReadBytesCarry}
use Rattle.laws_registers.proofs.Places.{housed-at}
use Rattle.laws_registers.proofs.Digits.{value-digit}

module _ (p : Profile) (code : Field → ℕ) (a : ℕ) where
  abbrev value : ℕ
  value = value_by p code a

  -- the lower byte, and the upper one
  lower-byte : a < 39 → in_middle p a ≡ false → byte_by p code a ≡ value % 256
  unfolding byte_by
  lower-byte h e =
      let low : upper_half p a ≡ false = sym (ap (λ (t : Bool). t && upper_half p a) (lt-ltb a 39 h)) ∙ e in
      simp (lt-leb 39 a h, low)

  upper-byte : in_middle p (a + 1) ≡ true → byte_by p code (a + 1) ≡ value / 256 % 256
  unfolding byte_by
  upper-byte e =
      let both = (and-iff (ltb (a + 1) 39) (upper_half p (a + 1))).0 e in
      let back : a + 1 - 1 ≡ a = omega arith in
      rw (lt-leb 39 (a + 1) (ltb-true (a + 1) 39 both.0), both.1, back) refl

  -- what the bytes say below their end is the value
  module _ (raw : Raw) (spelled : has_spelling raw ≡ true) (inside : a < 39) (start : in_middle p a ≡ false) where
    says : (t : Bool) → in_middle p (a + 1) ≡ t → raw.count ≡ pick t 2 1 → ((k : ℕ) → k < raw.count → byte_of raw k ≡ byte_by p code (a + k))
        → value_in (byte_of raw) 0 % 2 ^ (8 * pick t 2 1) ≡ value % 2 ^ (8 * pick t 2 1)
    says true e count bytes =
        let one : byte_of raw 0 ≡ value % 256 = bytes 0 (omega arith) ∙ ap (byte_by p code) (add-zero a) ∙ lower-byte inside start in
        let two : byte_of raw 1 ≡ value / 256 % 256 = bytes 1 (omega arith) ∙ upper-byte e in
        rw (one, two) (omega arith)
    says false e count bytes =
        let one : byte_of raw 0 ≡ value % 256 = bytes 0 (omega arith) ∙ ap (byte_by p code) (add-zero a) ∙ lower-byte inside start in
        let two : byte_of raw 1 ≡ 0 = (spelling-told.told raw spelled).rest 1 (omega arith) in
        rw (one, two) (omega arith)

pub read-bytes-carry : ReadBytesCarry
unfolding field_at
read-bytes-carry p code i raw spelled count bytes =
    let a = (nth (i % 147)).address in
    let home = housed-at p (i % 147) (omega arith) in
    let start = (neither (in_middle p a) (in_middle p (a + register_size p a)) home.whole).0 in
    let same = says p code a raw spelled home.known start (in_middle p (a + 1)) refl count bytes in
    record {
      spelled = spelled;
      whole = count;
      each = λ j here.
          let f = nth (j % 147) in
          same-below (8 * register_size p a) f.low f.width (value_in (byte_of raw) 0) (value_by p code a) (subst (λ (x : ℕ). f.low + f.width ≤ 8 * register_size p x) here (housed-at p (j % 147) (omega arith)).fits) same
          ∙ value-digit a code p (j % 147) (omega arith) here;
    }
