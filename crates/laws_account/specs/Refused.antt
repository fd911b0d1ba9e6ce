-- The account, refusals: with what number an event is refused after a run, 0 where it is accepted; and the history that a list of events leaves.
use Rattle.std.specs.Prelude.{ℕ, ◌+◌, ◌-◌, ◌*◌, ◌%◌, ◌≡◌, Bool, true, false, not, ◌&&◌, ◌||◌, List, [], ◌∷◌, leb, ltb, eqb}
use Rattle.base.specs.Pick.{pick}
use Rattle.state_parts.specs.declared.profile.Profile.{Profile}
use Rattle.log_raw.specs.Raw.{byte_of, has_spelling}
use Rattle.log_raw.specs.Struct.{raw_of}
use Rattle.log_raw.specs.declared.RawBytes.{RawBytes}
use Rattle.state_settings.specs.Ranges.{range_of}
use Rattle.state_table.specs.Rows.{Field, fields_of, over, digit_of, fsw}
use Rattle.state_table.specs.declared.Access.{Access}
use Rattle.state_table.specs.declared.Access.TheVariants.{Reserved, Fixed, Status, Flag, Stored, Setting, Mask, Counted, Pin, Acts}
use Rattle.state_runs.specs.Bytes.{value_in, stepwise, is_written}
use Rattle.state_valid.specs.Holds.{profile_ok}
use Rattle.step_turns.specs.Turns.{turn_of}
use Rattle.step_turns.specs.Promises.{LaterFits}
use Rattle.step_turns.specs.declared.turn.Turn.{Turn}
use Rattle.step_turns.specs.declared.turn.Turn.TheVariants.{Opens, Follows, OpensOutside, FollowsOutside}
use Rattle.log_event.specs.declared.Event.{Event}
use Rattle.laws_account.specs.History.{Run, powered, ◌▸◌}
use Rattle.step_turns.specs.declared.later.Later.{Later}
use Rattle.step_turns.specs.declared.later.Later.TheVariants.{Set, Write, TakeFlags, Observe, Service, Reset, WriteRun, ReadFlags}
use Rattle.laws_account.specs.Held.{profile_of, elapsed}

-- 9: "setting value outside its range or off its step"
abbrev pub bad_value : Profile → ℕ → ℕ → Bool
bad_value p number value =
    let range = range_of p number in
    ltb value range.low || ltb range.high value || not (eqb (value % range.step) 0)

-- 11: "FSW (0x16 bits 2:0) written 0 or 7"
abbrev pub bad_frequency : ℕ → Bool
bad_frequency byte = eqb (byte % 8) 0 || eqb (byte % 8) 7

-- 15: "half of a sixteen-bit register": the upper halves of "sixteen bits at 00 02 04 06 08 0A 0C 24"
abbrev pub upper_at : ℕ → Bool
upper_at address = (leb address 0x0D && eqb (address % 2) 1) || eqb address 0x25

-- 9 of a run: "a field value that its setting can't hold"
abbrev pub bad_field : Profile → Access → ℕ → Bool
bad_field p Reserved code = false
bad_field p (Fixed value) code = false
bad_field p (Status which) code = false
bad_field p (Flag first count) code = false
bad_field p Stored code = false
bad_field p (Setting number step) code = not (leb 1 number && leb number 14) || bad_value p number (code * step)
bad_field p (Mask first count) code = false
bad_field p Counted code = false
bad_field p (Pin which) code = false
bad_field p (Acts which) code = false

abbrev pub bad_bytes : Profile → ℕ → RawBytes → Bool
bad_bytes p first raw =
    stepwise (λ (bad : Bool) (i : ℕ).
    bad || over (λ (f : Field). eqb f.address (first + i)) (λ (worse : Bool) (f : Field). worse || bad_field p f.access (digit_of f (value_in (byte_of (raw_of raw)) i))) (fields_of p) false)
    raw.length false

-- "Model order: 6, 10, 5, 11 for writes; 6, 8, 9 for sets; 6, 5, 7 for observations."
unfoldable pub refusal_in : Run → Later → ℕ
-- 8: "setting number not 1-14"
refusal_in r (Set number value) = pick (not (leb 1 number && leb number 14)) 8 (pick (bad_value (profile_of r) number value) 9 0)
-- 10: "address not 0x15-0x1C"; 5: "a number outside kind 1, 3 or 5's ranges"
refusal_in r (Write address byte) =
    pick (not (leb 0x15 address && leb address 0x1C)) 10
    (pick (not (leb byte 255)) 5
    (pick (eqb address 0x16 && bad_frequency byte) 11 0))
refusal_in r TakeFlags = 0
-- 7: "stamp more than 3,600,000 ms ahead"
refusal_in r (Observe x) = pick (ltb 3600000 (elapsed (r ▸ Observe x))) 7 0
refusal_in r Service = 0
refusal_in r Reset = 0
-- 02, R-3: "the model, after 6" gives 5 for what has no spelling; "a run touching an address outside the map .. is 10; 15, .., after 10, then 11; .. 9, last"
refusal_in r (WriteRun first raw) =
    pick (not (has_spelling (raw_of raw))) 5
    (pick (not (leb (first + raw.length) 39)) 10
    (pick (upper_at first || upper_at (first + raw.length)) 15
    (pick (is_written first raw.length fsw && bad_frequency (value_in (byte_of (raw_of raw)) (0x16 - first))) 11
    (pick (bad_bytes (profile_of r) first raw) 9 0))))
-- "kind 14 on no flag register, is 10"
refusal_in r (ReadFlags address) = pick (not (eqb address 0x20 || eqb address 0x21)) 10 0

-- a run of accepted events since an accepted power-on: what each brought is what a held part may be, and none was refused
abbrev pub Accepted : Run → Type 0
Accepted (powered p) = profile_ok p ≡ true
Accepted (r ▸ e) = Accepted r × (LaterFits e × (refusal_in r e ≡ 0))

-- what has come before: no accepted power-on yet, or the accepted events since the latest one
pub data Past : Type 0 where
  none : Past
  some : Run → Past

abbrev pub refusal_by : Past → Turn → ℕ
refusal_by h (Opens p) = 0
-- 6: "any kind but a power-on's, before a power-on"
refusal_by none (Follows e) = 6
refusal_by (some r) (Follows e) = refusal_in r e
-- 5: "a number outside kind 1, 3 or 5's ranges", after 6
refusal_by h OpensOutside = 5
refusal_by none FollowsOutside = 6
refusal_by (some r) FollowsOutside = 5

unfoldable pub refusal_of : Past → Event → ℕ
refusal_of h e = refusal_by h (turn_of e)

-- an accepted power-on begins a new run, and a refused event leaves what has come before
abbrev pub next_by : Past → Turn → Past
next_by h (Opens p) = some (powered p)
next_by none (Follows e) = none
next_by (some r) (Follows e) = some (pick (eqb (refusal_in r e) 0) (r ▸ e) r)
next_by h OpensOutside = h
next_by h FollowsOutside = h

unfoldable pub next_of : Past → Event → Past
next_of h e = next_by h (turn_of e)

unfoldable pub past_of : Past → List Event → Past
past_of h [] = h
past_of h (e ∷ es) = past_of (next_of h e) es
