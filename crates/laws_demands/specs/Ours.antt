-- This product, as the demands take it: the definitions that the promises of its public calls cite. And what is proved of it.
use Rattle.std.specs.Prelude.{ℕ, List, length, ltb}
use Rattle.base.specs.Pick.{pick}
use Rattle.report_registers.specs.Reads.{read_register_of}
use Rattle.report_state.specs.Report.{report_of}
use Rattle.report_state.specs.Stats.{stat_of}
use Rattle.step_event.specs.Steps.{step_of}
use Rattle.step_event.specs.Pages.{whole_of, end_of}
use Rattle.log_event.specs.Kinds.{kinds}
use Rattle.log_pairs.specs.Comparing.{inputs_of}
use Rattle.log_pairs.specs.Text.{answer_text}
use Rattle.c_calls.specs.Promises.{our_calls}
use Rattle.step_text.specs.Runs.{run_text}
use Rattle.laws_format.specs.Ours.{our_read, our_write}
use Rattle.laws_pairs.specs.Ours.{our_compare}
use Rattle.laws_demands.specs.Product.{Walker, Product}
use Rattle.laws_demands.specs.Printed.{refused_run}
use Rattle.laws_demands.specs.First.{FirstDemand}
use Rattle.laws_demands.specs.Second.{SecondDemand}
use Rattle.laws_demands.specs.Third.{ThirdDemand}

abbrev pub our_walk : Walker
our_walk bytes = pick (ltb 65536 (length bytes)) refused_run (record { lines = (whole_of bytes).lines; last = end_of bytes })

abbrev pub our_partlog : List ℕ → List ℕ → List ℕ
our_partlog a b = answer_text (inputs_of kinds a b)

abbrev pub ours : Product
ours = record {
  step = step_of;
  report = report_of;
  stat = stat_of;
  register = read_register_of;
  read = our_read;
  write = our_write;
  compare = our_compare;
  walk = our_walk;
  runlog = run_text;
  partlog = our_partlog;
  calls = our_calls;
}

-- the three demands hold
abbrev pub FirstHolds : Type 0
FirstHolds = FirstDemand ours

abbrev pub SecondHolds : Type 0
SecondHolds = SecondDemand ours

abbrev pub ThirdHolds : Type 0
ThirdHolds = ThirdDemand ours
