-- The tests of a run of bytes, and the statements that they stand for, each way.
use Prim.Native.Nat.{ℕ, ◌+◌, ◌-◌, ◌*◌, ◌%◌}
use mathlib.Core.Path.{◌≡◌, refl, sym, ap, subst}
use mathlib.Core.Bool.{Bool, true, false, not, ◌&&◌, ◌||◌, false≢true}
use mathlib.Core.Logic.{◌↔◌, ◌⊎◌, inl, inr}
use native.Mathlib.Omega.{arith}
use lib.Dec.{leb, ltb, eqb}
use borrow.Author.Tests.{leb-true, ltb-true, le-leb, lt-ltb, eqb-true, eq-eqb, not-true}
use Rattle.base.proofs.Tests.{and-iff}
use Rattle.log_raw.specs.Raw.{byte_of, has_spelling}
use Rattle.log_raw.specs.Struct.{raw_of}
use Rattle.log_raw.specs.declared.RawBytes.{RawBytes}
use Rattle.log_raw.proofs.Soundness.{spelling-told}
use Rattle.report_registers.specs.Reads.{flag_register}
use Rattle.state_parts.specs.declared.profile.Profile.{Profile}
use Rattle.state_settings.specs.Ranges.{last_setting, may_hold}
use Rattle.state_table.specs.Rows.{Field, fields, fsw, frequency_ok}
use Rattle.state_table.specs.Packed.{field_at}
use Rattle.state_table.specs.declared.Access.{Access}
use Rattle.state_table.specs.declared.Access.TheVariants.{Reserved, Fixed, Status, Flag, Stored, Setting, Mask, Counted, Pin, Acts}
use Rattle.state_table.proofs.Tested.{every, at, long}
use Rattle.state_runs.specs.Bytes.{value_in, is_written, written_code}
use Rattle.state_runs.specs.Registers.{bad_by}
use Rattle.state_runs.specs.Runs.{in_middle, halves, illegal_frequency, bad_run}
use Rattle.state_runs.proofs.Middles.{middles-listed}
use Rattle.state_runs.proofs.Rows.{bad-somewhere, bad-found}
use Rattle.laws_step.specs.Ranged.{Among}
use Rattle.laws_step.specs.RunRows.{Spelled, InMap, UpperHalf, HasHalf, Written, NoFrequency, Unheld}
use Rattle.laws_step.proofs.InRanges as ranges
use Rattle.laws_step.proofs.InRanges.{among, value-in, bad-frequency-is}

pub spelled_is : (raw : RawBytes) → (has_spelling (raw_of raw) ≡ true) ↔ Spelled raw
spelled_is raw = (spelling-told.told (raw_of raw), spelling-told.holds (raw_of raw))

pub inside_is : (first : ℕ) (raw : RawBytes) → (leb (first + raw.length) 39 ≡ true) ↔ InMap first raw
inside_is first raw = (leb-true (first + raw.length) 39, le-leb (first + raw.length) 39)

either_is : {P Q : Type 0} (a b : Bool) → (a ≡ true) ↔ P → (b ≡ true) ↔ Q → ((a || b) ≡ true) ↔ (P ⊎ Q)
either_is {P} {Q} a b p q = (forth a b p q, back a b p q)
  where
    forth : (a b : Bool) → (a ≡ true) ↔ P → (b ≡ true) ↔ Q → (a || b) ≡ true → P ⊎ Q
    forth true b p q e = inl (p.0 refl)
    forth false b p q e = inr (q.0 e)

    back : (a b : Bool) → (a ≡ true) ↔ P → (b ≡ true) ↔ Q → P ⊎ Q → (a || b) ≡ true
    back true b p q h = refl
    back false b p q (inl h) = absurd (false≢true (p.1 h))
    back false b p q (inr h) = q.1 h

upper_is : (p : Profile) (a : ℕ) → (in_middle p a ≡ true) ↔ UpperHalf a
upper_is p a =
    subst (λ (t : Bool). (t ≡ true) ↔ UpperHalf a) (sym (middles-listed p a))
    (either_is (leb a 0x0D && eqb (a % 2) 1) (eqb a 0x25)
    (λ e. let k = (and-iff (leb a 0x0D) (eqb (a % 2) 1)).0 e in (leb-true a 0x0D k.0, eqb-true (a % 2) 1 k.1), λ k. (and-iff (leb a 0x0D) (eqb (a % 2) 1)).1 (le-leb a 0x0D k.0, eq-eqb (a % 2) 1 k.1))
    (eqb-true a 0x25, eq-eqb a 0x25))

pub half_is : (p : Profile) (first : ℕ) (raw : RawBytes) → (halves p first raw.length ≡ true) ↔ HasHalf first raw
half_is p first raw = either_is (in_middle p first) (in_middle p (first + raw.length)) (upper_is p first) (upper_is p (first + raw.length))

pub written_is : (first : ℕ) (raw : RawBytes) (f : Field) → (is_written first raw.length f ≡ true) ↔ Written first raw f
written_is first raw f = (
  λ e. let k = (and-iff (leb first f.address) (ltb f.address (first + raw.length))).0 e in (leb-true first f.address k.0, ltb-true f.address (first + raw.length) k.1),
  λ k. (and-iff (leb first f.address) (ltb f.address (first + raw.length))).1 (le-leb first f.address k.0, lt-ltb f.address (first + raw.length) k.1),
)

pub frequency-is : (p : Profile) (first : ℕ) (raw : RawBytes) → (illegal_frequency (byte_of (raw_of raw)) first raw.length p ≡ true) ↔ NoFrequency first raw
frequency-is p first raw =
    let there = is_written first raw.length fsw in
    let code = written_code (byte_of (raw_of raw)) first fsw in
    let bad = bad-frequency-is p (value_in (byte_of (raw_of raw)) (0x16 - first)) in (
      λ e. let k = (and-iff there (not (frequency_ok p code))).0 e in ((written_is first raw fsw).0 k.0, bad.0 k.1),
      λ k. (and-iff there (not (frequency_ok p code))).1 ((written_is first raw fsw).1 k.0, bad.1 k.1),
    )

-- every setting of the table is one of the fourteen
abbrev known : Access → Bool
known Reserved = true
known (Fixed value) = true
known (Status number) = true
known (Flag first count) = true
known Stored = true
known (Setting number step) = leb 1 number && leb number last_setting
known (Mask first count) = true
known Counted = true
known (Pin number) = true
known (Acts number) = true

all_known : every (λ (f : Field). known f.access) fields ≡ true
unfolding fields
all_known = refl

setting-known : (i n step : ℕ) → (field_at i).access ≡ Setting n step → Among n 1 last_setting
unfolding field_at
setting-known i n step e =
    (among n 1 last_setting).0 (subst (λ (a : Access). known a ≡ true) e (at (λ (f : Field). known f.access) fields (i % 147) all_known (rw long (omega arith))))

-- only a setting's value is one that can't be held
record Judges (p : Profile) (a : Access) (code : ℕ) : Type 0 where
  number : ℕ
  step : ℕ
  setting : a ≡ Setting number step
  unfit : may_hold p number (code * step) ≡ false

judges : (p : Profile) (a : Access) (code : ℕ) → bad_by p a code ≡ true → Judges p a code
judges p Reserved code e = absurd (false≢true e)
judges p (Fixed value) code e = absurd (false≢true e)
judges p (Status which) code e = absurd (false≢true e)
judges p (Flag first count) code e = absurd (false≢true e)
judges p Stored code e = absurd (false≢true e)
judges p (Setting n step) code e = record { number = n; step = step; setting = refl; unfit = not-true (may_hold p n (code * step)) e }
judges p (Mask first count) code e = absurd (false≢true e)
judges p Counted code e = absurd (false≢true e)
judges p (Pin which) code e = absurd (false≢true e)
judges p (Acts which) code e = absurd (false≢true e)

pub unheld-is : (p : Profile) (first : ℕ) (raw : RawBytes) → (bad_run (byte_of (raw_of raw)) first raw.length p ≡ true) ↔ Unheld p first raw
unheld-is p first raw = (forth, back)
  where
    forth : bad_run (byte_of (raw_of raw)) first raw.length p ≡ true → Unheld p first raw
    forth e =
        let b = bad-somewhere p (byte_of (raw_of raw)) first raw.length e in
        let f = field_at b.field in
        let code = written_code (byte_of (raw_of raw)) first f in
        let j = judges p f.access code b.bad in
        record {
          field = b.field;
          number = j.number;
          step = j.step;
          setting = j.setting;
          there = (written_is first raw f).0 b.there;
          outside = ranges.outside (may_hold p j.number (code * j.step)) (value-in p j.number (code * j.step) (setting-known b.field j.number j.step j.setting)) j.unfit;
        }

    back : Unheld p first raw → bad_run (byte_of (raw_of raw)) first raw.length p ≡ true
    back u =
        let f = field_at u.field in
        let code = written_code (byte_of (raw_of raw)) first f in
        let unfit = ranges.failed (may_hold p u.number (code * u.step)) (value-in p u.number (code * u.step) (setting-known u.field u.number u.step u.setting)) u.outside in
        bad-found p (byte_of (raw_of raw)) first raw.length (record {
          field = u.field;
          there = (written_is first raw f).1 u.there;
          bad = subst (λ (a : Access). bad_by p a code ≡ true) (sym u.setting) (ap not unfit);
        })

pub flags-at : (p : Profile) (address : ℕ) → (flag_register p address ≡ true) ↔ ((address ≡ 0x20) ⊎ (address ≡ 0x21))
flags-at p address = either_is (eqb address 0x20) (eqb address 0x21) (eqb-true address 0x20, eq-eqb address 0x20) (eqb-true address 0x21, eq-eqb address 0x21)
