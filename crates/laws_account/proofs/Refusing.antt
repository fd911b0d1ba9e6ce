-- The tests of a set and of a write, by which the model refuses, are the account's.
use Prim.Native.Nat.{ℕ, ◌+◌, ◌*◌, ◌/◌, ◌%◌}
use native.Mathlib.Omega.{arith}
use mathlib.Core.Path.{◌≡◌, refl, ap, ◌∙◌}
use mathlib.Core.Bool.{Bool, true, false, not, ◌&&◌, ◌||◌}
use lib.Dec.{leb, ltb, eqb}
use borrow.Author.Tests.{leb-true, leb-false, lt-ltb, le-ltb}
use Rattle.base.specs.Pick.{pick}
use Rattle.base.proofs.Span.{span}
use Rattle.log_raw.specs.Raw.{byte_of}
use Rattle.log_raw.specs.Struct.{raw_of}
use Rattle.log_raw.specs.declared.RawBytes.{RawBytes}
use Rattle.state_table.specs.Rows.{Field, fields_of, over, frequency_ok, fsw, digit_of}
use Rattle.state_table.specs.declared.Access.{Access}
use Rattle.state_table.specs.declared.Access.TheVariants.{Reserved, Fixed, Status, Flag, Stored, Setting, Mask, Counted, Pin, Acts}
use Rattle.state_runs.specs.Bytes.{value_in, stepwise}
use Rattle.state_runs.specs.Registers.{bad_by, bad_register}
use Rattle.state_runs.specs.Runs.{halves, bad_run}
use Rattle.state_runs.proofs.Middles.{middles-listed}
use Rattle.state_parts.specs.declared.profile.Profile.{Profile}
use Rattle.state_settings.specs.Ranges.{range_of, known_setting, may_hold}
use Rattle.laws_account.specs.Refused.{bad_value, bad_frequency, upper_at, bad_field, bad_bytes}

not-le : (a b : ℕ) → not (leb a b) ≡ ltb b a
not-le a b = go (leb a b) refl
  where
    go : (t : Bool) → leb a b ≡ t → not t ≡ ltb b a
    go true h = simp (le-ltb b a (leb-true a b h))
    go false h = simp (lt-ltb b a (leb-false a b h))

-- not all of three tests
not-all : (a b c : Bool) → not (a && b && c) ≡ (not a || not b || not c)
not-all true true c = refl
not-all true false c = refl
not-all false b c = refl

-- a value is judged if its setting is known
known-first : (n k : ℕ) (known fits : Bool) → pick (not known) n (pick (not (known && fits)) k 0) ≡ pick (not known) n (pick (not fits) k 0)
known-first n k true fits = refl
known-first n k false fits = refl

pub set-refused : (p : Profile) (number value n k : ℕ)
    → pick (not (known_setting p number)) n (pick (not (may_hold p number value)) k 0) ≡ pick (not (leb 1 number && leb number 14)) n (pick (bad_value p number value) k 0)
unfolding may_hold
set-refused p number value n k =
    let range = range_of p number in
    let known = leb 1 number && leb number 14 in
    known-first n k known (leb range.low value && leb value range.high && eqb (value % range.step) 0)
    ∙ ap (λ b. pick (not known) n (pick b k 0)) (not-all (leb range.low value) (leb value range.high) (eqb (value % range.step) 0))
    ∙ (λ i. pick (not known) n (pick (not-le range.low value i || not-le value range.high i || not (eqb (value % range.step) 0)) k 0))

pub frequency-refused : (p : Profile) (byte : ℕ) → not (frequency_ok p (digit_of fsw byte)) ≡ bad_frequency byte
frequency-refused p byte =
    let low : byte / 1 % 8 ≡ byte % 8 = omega arith in
    rw low (span (λ n. not (leb 1 n && leb n 6) ≡ (eqb n 0 || eqb n 7)) 0 8 (byte % 8) (refl, (refl, (refl, (refl, (refl, (refl, (refl, (refl, tt)))))))) (omega arith) (omega arith))

-- ---- runs of bytes
pub half-refused : (p : Profile) (first count : ℕ) → halves p first count ≡ (upper_at first || upper_at (first + count))
half-refused p first count = λ i. middles-listed p first i || middles-listed p (first + count) i

-- a field's value
either_way : (known fits : Bool) → not (known && fits) ≡ (not known || not fits)
either_way true fits = refl
either_way false fits = refl

field-refused : (p : Profile) (a : Access) (code : ℕ) → bad_by p a code ≡ bad_field p a code
unfolding may_hold
field-refused p Reserved code = refl
field-refused p (Fixed value) code = refl
field-refused p (Status which) code = refl
field-refused p (Flag first count) code = refl
field-refused p Stored code = refl
field-refused p (Setting number step) code =
    let range = range_of p number in
    let value = code * step in
    either_way (leb 1 number && leb number 14) (leb range.low value && leb value range.high && eqb (value % range.step) 0)
    ∙ ap (λ b. not (leb 1 number && leb number 14) || b) (not-all (leb range.low value) (leb value range.high) (eqb (value % range.step) 0))
    ∙ (λ i. not (leb 1 number && leb number 14) || (not-le range.low value i || not-le value range.high i || not (eqb (value % range.step) 0)))
field-refused p (Mask first count) code = refl
field-refused p Counted code = refl
field-refused p (Pin which) code = refl
field-refused p (Acts which) code = refl

pub run-refused : (p : Profile) (first : ℕ) (raw : RawBytes) → bad_run (byte_of (raw_of raw)) first raw.length p ≡ bad_bytes p first raw
unfolding bad_run bad_register
run-refused p first raw =
    λ i. stepwise (λ (bad : Bool) (j : ℕ).
    bad || over (λ (f : Field). eqb f.address (first + j)) (λ (worse : Bool) (f : Field). worse || field-refused p f.access (digit_of f (value_in (byte_of (raw_of raw)) j)) i) (fields_of p) false)
    raw.length false
