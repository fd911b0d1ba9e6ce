-- The converse: whatever product meets demands 1 and 2 is this one. What they leave open is what a log that is no byte string comes to, and to the writer an event with a number above
-- 32 bits, which the program's types have none of.
use Rattle.std.specs.Prelude.{ℕ, ◌≡◌, List}
use Rattle.state_parts.specs.declared.state.State.{State}
use Rattle.state_parts.specs.declared.state.Model.{Model}
use Rattle.report_registers.specs.Reads.{read_register_of}
use Rattle.log_number.specs.Promises.{Bytes}
use Rattle.log_event.specs.declared.Event.{Event}
use Rattle.report_state.specs.Report.{report_of}
use Rattle.report_state.specs.Stats.{stat_of}
use Rattle.step_event.specs.Steps.{step_of}
use Rattle.step_text.specs.Runs.{run_text}
use Rattle.laws_format.specs.Format.{Spells}
use Rattle.laws_format.specs.Readers.{SmallNumbers}
use Rattle.laws_format.specs.Ours.{our_read, our_write}
use Rattle.laws_pairs.specs.Ours.{our_compare}
use Rattle.laws_demands.specs.Product.{Product}
use Rattle.laws_demands.specs.First.{FirstDemand}
use Rattle.laws_demands.specs.Second.{SecondDemand}
use Rattle.laws_demands.specs.Ours.{our_walk, our_partlog}

-- each call is the definition that its contract cites
pub record IsOurs (p : Product) : Type 0 where
  -- on every model, those that hold what they may not included
  pub steps : (m : Model) (e : Event) → p.step m e ≡ step_of m e
  pub reports : (s : State) → p.report s ≡ report_of s
  pub stats : (s : State) → p.stat s ≡ stat_of s
  pub registers : (m : Model) (address : ℕ) → p.register m address ≡ read_register_of m address
  -- on every byte string, at every place
  pub reads : (bytes : List ℕ) → Bytes bytes → (at : ℕ) → p.read bytes at ≡ our_read bytes at
  pub compares : (a b : List ℕ) → Bytes a → Bytes b → p.compare a b ≡ our_compare a b
  pub walks : (bytes : List ℕ) → Bytes bytes → p.walk bytes ≡ our_walk bytes
  pub runlogs : (bytes : List ℕ) → Bytes bytes → p.runlog bytes ≡ run_text bytes
  pub partlogs : (a b : List ℕ) → Bytes a → Bytes b → p.partlog a b ≡ our_partlog a b
  -- on every event that has a spelling, and on every event that has none, into every buffer
  pub writes : (e : Event) (spelling : List ℕ) → Spells e spelling → (buffer : List ℕ) → p.write e buffer ≡ our_write e buffer
  pub refuses : (e : Event) → SmallNumbers e → ((spelling : List ℕ) → ¬ Spells e spelling) → (buffer : List ℕ) → p.write e buffer ≡ our_write e buffer

abbrev pub OnlyOurs : Type 0
OnlyOurs = (p : Product) → FirstDemand p → SecondDemand p → IsOurs p
