-- The stored fields of a run: what a write, an observation and a register reset leave in the registers is what the account says; and each field that rules read.
use Prim.Native.Nat.{ℕ, ◌%◌, ◌^◌, ◌<◌}
use native.Mathlib.Nat.{mod-lt, mod-eq_of_lt}
use native.Mathlib.Omega.{arith}
use mathlib.Core.Path.{◌≡◌, refl, ap, subst, ◌∙◌}
use mathlib.Core.Bool.{Bool, true, false, not, ◌&&◌, false≢true}
use lib.Dec.{eqb}
use lib.ListN.{get_or}
use lib.Pow.{pow_pos}
use Rattle.base.specs.Pick.{pick}
use Rattle.state_parts.specs.declared.sample.Sample.{Sample}
use Rattle.state_table.specs.Rows.{Field, fields, digit_of, cell_pin, ts_th1, ts_th2, ts_th3, ts_th5, en_ts, en_jeita, jeita_isetc, jeita_iseth, jeita_vset, vchg_override, cell_override, ichg_override}
use Rattle.state_table.specs.Packed as packed
use Rattle.state_table.specs.Packed.{no_field}
use Rattle.state_table.proofs.Whole.{resets-fit}
use Rattle.state_fields.specs.Held.{field_in, field_of, gathered, restored_by}
use Rattle.state_fields.proofs.Gathers.{nth, stored, gathered-field, gathered-each}
use Rattle.state_fields.proofs.Restores.{gathered-same}
use Rattle.state_fields.proofs.Taken.{taken-gathered, cleared-gathered}
use Rattle.state_registers.specs.Writes.{count_taken, written_registers}
use Rattle.state_registers.specs.Resets as registers
use Rattle.step_event.specs.Clock.{cleared_if}
use Rattle.log_raw.specs.Raw.{byte_of}
use Rattle.log_raw.specs.Struct.{raw_of}
use Rattle.state_runs.specs.Bytes.{is_written, written_code}
use Rattle.state_runs.specs.Runs.{resets}
use Rattle.step_turns.specs.declared.later.Later.TheVariants.{Set, Write, TakeFlags, Observe, Service, Reset, WriteRun, ReadFlags}
use Rattle.laws_account.specs.History.{Run, powered, ◌▸◌}
use Rattle.laws_account.specs.Held.{profile_of, expired, is_override, takes, cells_of, field_at}
use Rattle.laws_account.specs.States.{registers_at}

-- every code that a run gives a field fits it
pub small : (f : Field) → f.reset < 2 ^ f.width → (r : Run) → field_at f r < 2 ^ f.width
unfolding field_at
small f h (powered p) = h
small f h (r ▸ Set n v) = small f h r
small f h (r ▸ Write a b) = go (eqb f.address a) (small f h r)
  where
    go : (t : Bool) → field_at f r < 2 ^ f.width → pick t (digit_of f b) (field_at f r) < 2 ^ f.width
    go true k = mod-lt _ (pow_pos f.width)
    go false k = k
small f h (r ▸ TakeFlags) = small f h r
small f h (r ▸ Observe x) = go (is_override f && (not (expired r) && expired (r ▸ Observe x))) (small f h r)
  where
    go : (t : Bool) → field_at f r < 2 ^ f.width → pick t 0 (field_at f r) < 2 ^ f.width
    go true k = pow_pos f.width
    go false k = k
small f h (r ▸ Service) = small f h r
small f h (r ▸ Reset) = go f.restored (small f h r)
  where
    go : (t : Bool) → field_at f r < 2 ^ f.width → pick t f.reset (field_at f r) < 2 ^ f.width
    go true k = h
    go false k = k
small f h (r ▸ WriteRun first raw) = go (resets first (raw_of raw) && f.restored) (is_written first raw.length f) (small f h r)
  where
    go : (t u : Bool) → field_at f r < 2 ^ f.width → pick t f.reset (pick u (written_code (byte_of (raw_of raw)) first f) (field_at f r)) < 2 ^ f.width
    go true u k = h
    go false true k = mod-lt _ (pow_pos f.width)
    go false false k = k
small f h (r ▸ ReadFlags a) = small f h r

-- and so does its reset
pub reset-small : (i : ℕ) → i < 147 → (nth i).reset < 2 ^ (nth i).width
unfolding packed.field_at
reset-small i h =
    let place : packed.field_at i ≡ nth i = ap (λ (n : ℕ). get_or fields n no_field) (mod-eq_of_lt h) in
    subst (λ (g : Field). g.reset < 2 ^ g.width) place (resets-fit i)

-- a stored field of the run's registers is the account's
pub field_is : (r : Run) (i : ℕ) → i < 147 → (f : Field) → nth i ≡ f → stored f ≡ true → field_of f (registers_at r) ≡ field_at f r
unfolding registers_at
field_is r i h f same kept =
    let fits : f.reset < 2 ^ f.width = subst (λ (g : Field). g.reset < 2 ^ g.width) same (reset-small i h) in
    subst (λ (g : Field). field_in g (gathered (profile_of r) (λ (k : Field). field_at k r)) ≡ pick (stored g) (field_at g r % 2 ^ g.width) 0) same (gathered-field (profile_of r) (λ (g : Field). field_at g r) i h)
    ∙ ap (λ (t : Bool). pick t (field_at f r % 2 ^ f.width) 0) kept ∙ mod-eq_of_lt (small f fits r)

module _ (r : Run) where
  pub th1 : field_of ts_th1 (registers_at r) ≡ field_at ts_th1 r
  unfolding fields
  th1 = field_is r 71 (omega arith) ts_th1 refl refl

  pub th2 : field_of ts_th2 (registers_at r) ≡ field_at ts_th2 r
  unfolding fields
  th2 = field_is r 72 (omega arith) ts_th2 refl refl

  pub th3 : field_of ts_th3 (registers_at r) ≡ field_at ts_th3 r
  unfolding fields
  th3 = field_is r 73 (omega arith) ts_th3 refl refl

  pub th5 : field_of ts_th5 (registers_at r) ≡ field_at ts_th5 r
  unfolding fields
  th5 = field_is r 74 (omega arith) ts_th5 refl refl

  pub en-ts : field_of en_ts (registers_at r) ≡ field_at en_ts r
  unfolding fields
  en-ts = field_is r 75 (omega arith) en_ts refl refl

  pub en-jeita : field_of en_jeita (registers_at r) ≡ field_at en_jeita r
  unfolding fields
  en-jeita = field_is r 76 (omega arith) en_jeita refl refl

  pub isetc : field_of jeita_isetc (registers_at r) ≡ field_at jeita_isetc r
  unfolding fields
  isetc = field_is r 77 (omega arith) jeita_isetc refl refl

  pub iseth : field_of jeita_iseth (registers_at r) ≡ field_at jeita_iseth r
  unfolding fields
  iseth = field_is r 78 (omega arith) jeita_iseth refl refl

  pub vset : field_of jeita_vset (registers_at r) ≡ field_at jeita_vset r
  unfolding fields
  vset = field_is r 79 (omega arith) jeita_vset refl refl

  pub cell-lifted : field_of cell_override (registers_at r) ≡ field_at cell_override r
  unfolding fields
  cell-lifted = field_is r 87 (omega arith) cell_override refl refl

  pub vchg-lifted : field_of vchg_override (registers_at r) ≡ field_at vchg_override r
  unfolding fields
  vchg-lifted = field_is r 88 (omega arith) vchg_override refl refl

  pub ichg-lifted : field_of ichg_override (registers_at r) ≡ field_at ichg_override r
  unfolding fields
  ichg-lifted = field_is r 90 (omega arith) ichg_override refl refl

pub in-register : (s t : Bool) (new old : ℕ) → s ≡ true → pick (s && t) new old ≡ pick t new old
in-register true t new old e = refl
in-register false t new old e = absurd (false≢true e)

-- a written count is taken as the account says
pub count-taken : (r : Run) (address byte : ℕ) → count_taken (registers_at r) address byte ≡ takes r (cells_of r) address byte
unfolding registers_at
count-taken r address byte = λ i. eqb address 0x1B && eqb (cell-lifted r i) 1 && not (eqb (digit_of cell_pin byte) 0) && not (eqb (digit_of cell_pin byte) (cells_of r))

pub written-fields : (r : Run) (address byte : ℕ) → written_registers (profile_of r) (registers_at r) address byte ≡ registers_at (r ▸ Write address byte)
unfolding written_registers registers_at cells_of field_at profile_of
written-fields r address byte =
    let words =
    taken-gathered (profile_of r) address byte (λ (f : Field). field_at f r)
    ∙ gathered-same (profile_of r) (λ (f : Field). pick (stored f && eqb f.address address) (digit_of f byte) (field_at f r)) (λ (f : Field). field_at f (r ▸ Write address byte))
    (λ f e. in-register (stored f) (eqb f.address address) (digit_of f byte) (field_at f r) e) in
    λ i. record { words = words i; cells = pick (count-taken r address byte i) (digit_of cell_pin byte) (cells_of r) }

pub cleared-fields : (r : Run) (x : Sample) → cleared_if (not (expired r) && expired (r ▸ Observe x)) (registers_at r) ≡ registers_at (r ▸ Observe x)
unfolding cleared_if registers_at cells_of field_at profile_of
cleared-fields r x = go (not (expired r) && expired (r ▸ Observe x))
  where
    either : (s t : Bool) (b : Bool) (old : ℕ) → s ≡ true → pick (s && t) 0 old ≡ pick (t && true) 0 old
    either true true b old e = refl
    either true false b old e = refl
    either false t b old e = absurd (false≢true e)

    none : (t : Bool) (old : ℕ) → old ≡ pick (t && false) 0 old
    none true old = refl
    none false old = refl

    go : (t : Bool) → cleared_if t (registers_at r) ≡ record { words = gathered (profile_of r) (λ (f : Field). pick (is_override f && t) 0 (field_at f r)); cells = cells_of r }
    go true = λ i. record {
      words = (cleared-gathered (profile_of r) (λ (f : Field). field_at f r)
          ∙ gathered-same (profile_of r) (λ (f : Field). pick (stored f && is_override f) 0 (field_at f r)) (λ (f : Field). pick (is_override f && true) 0 (field_at f r))
          (λ f e. either (stored f) (is_override f) true (field_at f r) e)) i;
      cells = cells_of r;
    }
    go false = λ i. record {
      words = gathered-same (profile_of r) (λ (f : Field). field_at f r) (λ (f : Field). pick (is_override f && false) 0 (field_at f r)) (λ f e. none (is_override f) (field_at f r)) i;
      cells = cells_of r;
    }

pub reset-fields : (r : Run) → registers.reset_registers (profile_of r) (registers_at r) ≡ registers_at (r ▸ Reset)
unfolding registers.reset_registers registers_at restored_by cells_of field_at profile_of
reset-fields r =
    let words =
    gathered-each (profile_of r) (λ (f : Field). pick f.restored f.reset (field_in f (gathered (profile_of r) (λ (g : Field). field_at g r)))) (λ (f : Field). field_at f (r ▸ Reset))
    (λ i h e. ap (λ (n : ℕ). pick (nth i).restored (nth i).reset n) (field_is r i h (nth i) refl e)) in
    λ i. record { words = words i; cells = cells_of r }
