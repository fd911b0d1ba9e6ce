-- STAT and the registers of the account's state are the account's.
use Prim.Native.Nat.{ℕ, suc, ◌+◌, ◌-◌, ◌*◌, ◌/◌, ◌%◌, ◌<◌}
use native.Mathlib.Omega.{arith}
use mathlib.Core.Path.{◌≡◌, refl, ap, subst, ◌∙◌}
use mathlib.Core.Bool.{Bool, true, ◌&&◌}
use mathlib.Core.List.{List, [], ◌∷◌}
use lib.Dec.{leb, eqb}
use lib.ListN.{length, get_or}
use Rattle.base.specs.Pick.{pick, bit_of}
use Rattle.base.specs.Told.{accepted}
use Rattle.state_parts.specs.Numbers.{phase_number, band_number}
use Rattle.state_parts.specs.Stages.{charging}
use Rattle.state_parts.specs.declared.phase.Phase.{Phase}
use Rattle.state_parts.specs.declared.phase.Phase.TheVariants.{Idle, Trickle, Precharge, Fast, Taper, Done, Suspended, Fault}
use Rattle.state_table.specs.Rows.{Field, fields, fields_of, map_size, over, shifted, is_stored}
use Rattle.state_table.specs.Packed.{no_field, upper_half}
use Rattle.state_table.specs.declared.Access.{Access}
use Rattle.state_table.specs.declared.Access.TheVariants.{Reserved, Fixed, Status, Flag, Stored, Setting, Mask, Counted, Pin, Acts}
use Rattle.state_table.proofs.Tested.{long}
use Rattle.state_fields.specs.Held.{field_of}
use Rattle.state_fields.proofs.Gathers.{nth}
use Rattle.settle_permission.specs.Bits.{iindpm_of, vindpm_of, thermal_of, shutdown_of}
use Rattle.settle_permission.specs.Limits.{reached_of}
use Rattle.step_flags.specs.Edges.{seen_of}
use Rattle.report_state.specs.declared.answer.Stat.TheVariants.{Low, Blinking, High}
use Rattle.report_state.specs.Stats.{stat_of}
use Rattle.report_registers.specs.Reads.{charge_stat, statuses, status_of, code_by, code_of, value_by, byte_by, read_of, read_register_of}
use Rattle.laws_account.specs.History.{Run}
use Rattle.laws_account.specs.Held.{profile_of, sample_of, field_at}
use Rattle.laws_account.specs.Valued.{enabled}
use Rattle.laws_account.specs.Judged.{input_good, input_over, pack_over}
use Rattle.laws_account.specs.Cycles.{number_at, limit_reached, phase_at}
use Rattle.laws_account.specs.Refused.{none, some}
use Rattle.laws_account.specs.States.{settings_at, registers_at, latches_at, cycle_at, state_by, state_of}
use Rattle.laws_account.specs.Looked.{stat_at, status_at, code_in, register_at, StatIsModel, RegisterIsModel}
use Rattle.laws_account.proofs.Dogs.{expired-is}
use Rattle.laws_account.proofs.Judging.{pack-is}
use Rattle.laws_account.proofs.Fields.{field_is}

-- by the phase
stat-in : (q : Phase)
    → pick (charging q) Low (pick (leb 6 (phase_number q)) Blinking High)
    ≡ pick (leb 1 (phase_number q) && leb (phase_number q) 4) Low (pick (leb 6 (phase_number q) && leb (phase_number q) 7) Blinking High)
stat-in Idle = refl
stat-in Trickle = refl
stat-in Precharge = refl
stat-in Fast = refl
stat-in Taper = refl
stat-in Done = refl
stat-in Suspended = refl
stat-in Fault = refl

pub stat-is-model : StatIsModel
unfolding stat_of stat_at state_by settings_at
stat-is-model r = ap (λ t. pick (enabled 13 r) High t) (stat-in (phase_at r))

-- the statuses are what flags are edges of
status-is : (r : Run) (number : ℕ) → status_of (seen_of (state_of r)) number ≡ status_at r number
unfolding status_of statuses status_at seen_of state_by latches_at cycle_at reached_of limit_reached input_good
status-is r number =
    λ i. get_or (
    charge_stat (number_at phase_at r)
    ∷ bit_of (expired-is r i)
    ∷ bit_of (thermal_of (sample_of r))
    ∷ bit_of (vindpm_of (sample_of r))
    ∷ bit_of (iindpm_of (sample_of r))
    ∷ bit_of (input_good r)
    ∷ band_number (pack-is r i)
    ∷ bit_of (shutdown_of (sample_of r))
    ∷ bit_of (limit_reached phase_at r)
    ∷ bit_of (pack_over r) * 2
    ∷ bit_of (input_over r)
    ∷ [])
    (number % 11) 0

-- a field of the table reads as the account says
code_is : (r : Run) (i : ℕ) → i < 147 → code_of (state_of r) (nth i) ≡ code_in (nth i).access r (nth i)
unfolding code_of state_by settings_at registers_at
code_is r i h = by (nth i).access (field_is r i h (nth i) refl)
  where
    by : (a : Access) → (is_stored a ≡ true → field_of (nth i) (registers_at r) ≡ field_at (nth i) r) → code_by a (state_of r) (nth i) ≡ code_in a r (nth i)
    by Reserved kept = refl
    by (Fixed value) kept = refl
    by (Status number) kept = status-is r number
    by (Flag first count) kept = refl
    by Stored kept = kept refl
    by (Setting number step) kept = refl
    by (Mask first count) kept = refl
    by Counted kept = refl
    by (Pin number) kept = refl
    by (Acts number) kept = refl

-- codes that agree in every field of the table make one value
sums_same : (on : Field → Bool) (one other : Field → ℕ) (fs : List Field) → ((i : ℕ) → i < length fs → one (get_or fs i no_field) ≡ other (get_or fs i no_field)) → (n : ℕ)
    → over on (λ (m : ℕ) (f : Field). m + shifted f (one f)) fs n ≡ over on (λ (m : ℕ) (f : Field). m + shifted f (other f)) fs n
sums_same on one other [] same n = refl
sums_same on one other (f ∷ fs) same n =
    ap (λ (code : ℕ). over on (λ (m : ℕ) (g : Field). m + shifted g (one g)) fs (pick (on f) (n + shifted f code) n)) (same 0 (omega arith))
    ∙ sums_same on one other fs (λ i h. same (suc i) (omega arith)) (pick (on f) (n + shifted f (other f)) n)

module _ (r : Run) where
  value-is : (address : ℕ) → value_by (profile_of r) (code_of (state_of r)) address ≡ value_by (profile_of r) (λ (f : Field). code_in f.access r f) address
  unfolding value_by fields_of
  value-is address =
      sums_same (λ (f : Field). eqb f.address address) (code_of (state_of r)) (λ (f : Field). code_in f.access r f) fields (λ i h. code_is r i (subst (λ (n : ℕ). i < n) long h)) 0

  byte-is : (address : ℕ) → byte_by (profile_of r) (code_of (state_of r)) address ≡ byte_by (profile_of r) (λ (f : Field). code_in f.access r f) address
  unfolding byte_by
  byte-is address = λ i. pick (leb map_size address) 0xFF (pick (upper_half (profile_of r) address) (value-is (address - 1) i / 256 % 256) (value-is address i % 256))

pub register-is-model : RegisterIsModel
unfolding read_register_of read_of register_at state_by
register-is-model none l address = refl
register-is-model (some r) l address = ap (λ (b : ℕ). accepted b) (byte-is r address)
