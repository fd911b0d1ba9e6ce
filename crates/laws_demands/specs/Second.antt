-- Demand 2: "Each accepted event moves the model as document 01 says, after the maker's data sheet; each event has one log spelling, read back as the same event, and every
-- accepted spelling is written again byte for byte where room allows."
use Rattle.std.specs.Prelude.{ℕ, ◌≤◌, ◌<◌, ◌≡◌, true, List, ◌↔◌, ◌≢◌, ◌⊎◌, eqb, length}
use Rattle.base.specs.Pick.{pick}
use Rattle.base.specs.Told.{Told}
use Rattle.state_parts.specs.declared.state.State.{State}
use Rattle.state_parts.specs.declared.state.Model.{Model}
use Rattle.report_registers.specs.Reads.{read_register_of}
use Rattle.log_number.specs.Promises.{Bytes}
use Rattle.log_event.specs.declared.Event.{Event}
use Rattle.log_record.specs.Records.{Met, met, refused, end}
use Rattle.c_calls.specs.declared.answer.Played.{Played}
use Rattle.report_state.specs.declared.answer.Stat.{Stat}
use Rattle.report_state.specs.Report.{report_of}
use Rattle.report_state.specs.Stats.{stat_of}
use Rattle.step_event.specs.Steps.{model_ok, step_of}
use Rattle.laws_step.specs.Rows.{Row}
use Rattle.laws_step.specs.Powered.{HoldsWhatIsSaid}
use Rattle.laws_step.specs.Observed.{HoldsWhatIsObserved}
use Rattle.laws_account.specs.History.{Run}
use Rattle.laws_account.specs.Refused.{Accepted, Past}
use Rattle.laws_account.specs.States.{state_of, model_of, outcome_of}
use Rattle.laws_account.specs.Runs.{Lawful}
use Rattle.laws_account.specs.Reported.{report_at}
use Rattle.laws_account.specs.Looked.{stat_at, register_at}
use Rattle.laws_format.specs.Readers.{Reader, Reads, Writes}
use Rattle.laws_pairs.specs.Compared.{Compares}
use Rattle.laws_pairs.specs.Files.{Printed}
use Rattle.laws_heads.specs.Second.{SecondOfImages}
use Rattle.laws_heads.specs.Growing.{CatchesUp}
use Rattle.laws_demands.specs.Product.{Step, Reporter, Walker, Product}
use Rattle.laws_demands.specs.Printed.{printed_by, refused_run, RunText}

-- "Each accepted event moves the model as document 01 says"
pub record Moves (step : Step) : Type 0 where
  -- "No | Given exactly when", 5 to 11 and 15, of every model
  pub refuses : (n : ℕ) → 1 ≤ n → (m : Model) (e : Event) → ((step m e).number ≡ n) ↔ Row n m e
  -- after every history of events what the account of it says
  pub moves : (h : Past) → Lawful h → (e : Event) → step (model_of h) e ≡ outcome_of h e
  -- and what 01's definitions say of every model that holds what it may, also one that no history leaves
  pub passes : (m : Model) → model_ok m ≡ true → (e : Event) → step m e ≡ step_of m e
  -- what is held of a power-on is what its own numbers say, whichever kind brought them (02, R-5)
  pub begins : HoldsWhatIsSaid step
  -- and so is what is held of an observation (R-7)
  pub sees : HoldsWhatIsObserved step

-- the same of what is reported
pub record Reports (report : Reporter) : Type 0 where
  pub reports : (r : Run) → Accepted r → report (state_of r) ≡ report_at r
  pub shows : (s : State) → report s ≡ report_of s

-- of STAT
pub record Stats (stat : State → Stat) : Type 0 where
  pub stats : (r : Run) → Accepted r → stat (state_of r) ≡ stat_at r
  pub shows : (s : State) → stat s ≡ stat_of s

-- and of a register that is read
pub record Registers (register : Model → ℕ → Told ℕ) : Type 0 where
  pub reads : (h : Past) → Lawful h → (address : ℕ) → register (model_of h) address ≡ register_at h address
  pub shows : (m : Model) (address : ℕ) → register m address ≡ read_register_of m address

-- a run of a log: what the step, the report and the reader make of it; 13 above 65,536 bytes
pub record Walks (step : Step) (report : Reporter) (read : Reader) (walk : Walker) : Type 0 where
  pub walks : (bytes : List ℕ) → Bytes bytes → length bytes ≤ 65536 → walk bytes ≡ printed_by step report read bytes
  pub stops : (bytes : List ℕ) → 65536 < length bytes → walk bytes ≡ refused_run

-- "The place is the record's start", the model's refusals in a log included; of what can't be read, if that is what is told, it is what decided it
abbrev pub place_by : ℕ → ℕ → Met → ℕ
place_by number place (met e next) = place
place_by number place (refused n decided) = pick (eqb number n) decided place
place_by number place end = place

-- and "where the next record starts; the given place if none was read"
pub record PlayedAt (given : ℕ) (there : Met) (told : Played) : Type 0 where
  pub place : told.number ≢ 5 → told.place ≡ place_by told.number given there
  -- 5 is the record's, of a length, or the image's
  pub five : told.number ≡ 5 → (told.place ≡ place_by 5 given there) ⊎ (told.place ≡ given)
  pub next : told.kind ≡ 0 → told.next ≡ given

pub record SecondDemand (p : Product) : Type 0 where
  pub moves : Moves p.step
  pub reports : Reports p.report
  pub stats : Stats p.stat
  pub registers : Registers p.register
  pub reads : Reads p.read
  pub writes : Writes p.write
  pub walks : Walks p.step p.report p.read p.walk
  pub compares : Compares p.compare
  -- what runlog prints: the run of its input, as text
  pub runlog : (bytes : List ℕ) → Bytes bytes → RunText (p.walk bytes).lines (p.walk bytes).last (p.runlog bytes)
  -- what partlog prints: 13 above 65,536 bytes, else what the two logs come to
  pub partlog : (a b : List ℕ) → Bytes a → Bytes b → Printed a b (p.partlog a b)
  -- where a head that plays a record is told to be, whatever bytes it lends for an image
  pub places : (image log : List ℕ) → Bytes log → (place : ℕ) (shown : List ℕ) → PlayedAt place (p.read log place) (p.calls.play image log place shown).answer
  -- what the calls for C answer and leave of every image that they moved
  pub heads : SecondOfImages p.calls
  -- and that a replay of a log that has grown goes on where the one before it stopped
  pub grows : CatchesUp p.calls
