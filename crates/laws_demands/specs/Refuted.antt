-- 01, "What the contracts owe": which demand each wrong product breaks, whatever the rest of it is like.
use Rattle.std.specs.Prelude.{ℕ, ◌≡◌, List}
use Rattle.base.specs.declared.refusal.Refusal.{Refusal}
use Rattle.state_parts.specs.declared.band.TsBand.TheVariants.{Normal, Cool, Warm}
use Rattle.report_state.specs.Report.{report_of}
use Rattle.laws_account.specs.Cycles.{Stage}
use Rattle.c_calls.specs.Promises.{Calls, RefusalLeaves}
use Rattle.laws_format.specs.Readers.{Reader, Writer, Reads, Writes}
use Rattle.laws_format.specs.Wrong.{reads_swapped, writes_swapped, reads_after_bits, reads_first, refuses_with_one, swaps_two_and_three, tells_start}
use Rattle.laws_pairs.specs.Compared.{Comparer, Compares}
use Rattle.laws_third.specs.Demand.{ThirdOfLists}
use Rattle.laws_heads.specs.Third.{ThirdOfImages}
use Rattle.laws_heads.specs.Growing.{CatchesUp}
use Rattle.laws_demands.specs.Product.{Step, Reporter, Walker, Product}
use Rattle.laws_demands.specs.First.{FirstDemand}
use Rattle.laws_demands.specs.Second.{SecondDemand}
use Rattle.laws_demands.specs.Third.{ThirdDemand}
use Rattle.laws_demands.specs.Wrong.{forgets, stops_always, spills, refuses_always, reports_zeros, ignores_events, works_once, invents_times, invents_counts, writes_constant, drops_stray, powers_once}
use Rattle.laws_demands.specs.Operators.{CountedOn}
use Rattle.laws_demands.specs.EndTest.{never_restarts}
use Rattle.laws_demands.specs.BasePoint.{step_by_base}
use Rattle.laws_demands.specs.Soldered.{by_measured, without_ends, one_higher, one_lower, wider_ilim, fault_refused}
use Rattle.laws_demands.specs.Thermistors.{by_first, by_second, by_warmer, mixed_as}
use Rattle.laws_demands.specs.Holding.{one_hold, keeps_entry, cold_late, left_normal}
use Rattle.laws_demands.specs.Typed.{takes_half, keeps_front, settles_between, same_run, clears_both}
use Rattle.laws_demands.specs.Slips.{same_write, scales_precharge, times_after, judges_cool, halves_by_new, keeps_times}

-- demand 1: "a refused event changes neither the model nor a lent buffer", "every byte string gets an answer"
pub record FirstRefuted : Type 0 where
  pub forgotten : (p : Product) → p.step ≡ forgets → ¬ FirstDemand p
  pub stopped : (p : Product) → p.read ≡ stops_always → ¬ FirstDemand p
  pub spilt : (p : Product) → p.write ≡ spills → ¬ FirstDemand p
  -- 02, R-3: "taken whole or not at all"
  pub partly : (p : Product) → p.step ≡ keeps_front → ¬ FirstDemand p

-- demand 2, of every product with this step, report, walk, reader or writer
abbrev pub StepBreaks : Step → Type 0
StepBreaks step = (p : Product) → p.step ≡ step → ¬ SecondDemand p

abbrev pub ReportBreaks : Reporter → Type 0
ReportBreaks report = (p : Product) → p.report ≡ report → ¬ SecondDemand p

abbrev pub WalkBreaks : Walker → Type 0
WalkBreaks walk = (p : Product) → p.walk ≡ walk → ¬ SecondDemand p

abbrev pub ReadBreaks : Reader → Type 0
ReadBreaks read = (p : Product) → p.read ≡ read → ¬ SecondDemand p

abbrev pub WriteBreaks : Writer → Type 0
WriteBreaks write = (p : Product) → p.write ≡ write → ¬ SecondDemand p

pub record SecondRefuted : Type 0 where
  -- "A model that refuses always, reports zeros always or ignores events breaks demand 2;"
  pub refuses : (r : Refusal) → StepBreaks (refuses_always r)
  pub zeros : ReportBreaks reports_zeros
  pub ignores : StepBreaks ignores_events
  -- "one that works only on the first event breaks 2 and 3 over runs;"
  pub once : StepBreaks works_once
  -- "invented stage times or record counts break 3's sums and 2's definition of a run."
  pub times : (stage : Stage) (time : ℕ) → StepBreaks (invents_times stage time)
  pub counts : (count : ℕ) → WalkBreaks (invents_counts count)
  -- "A constant log writer breaks 2's reading back."
  pub constant : (bytes : List ℕ) → WriteBreaks (writes_constant bytes)
  -- "Slips to exclude": "Using a CELL_PIN override from the same write; scaling precharge by ICHG's band share; charging time to the phase after the sample; judging cool before cold."
  pub written : StepBreaks same_write
  pub scaled : ReportBreaks scales_precharge
  pub timed : StepBreaks times_after
  pub cooled : StepBreaks judges_cool
  -- the rule before 02, R-1
  pub point : StepBreaks step_by_base
  -- 02, R-2 taken too far: a restart that has no test
  pub restart : StepBreaks never_restarts
  -- 02, R-5: 2% of what was measured; the spans' ends left out; a code one higher, or one lower; the ILIM ohms to 100,000; what matches none refused
  pub measured : StepBreaks by_measured
  pub ends : StepBreaks without_ends
  pub higher : StepBreaks one_higher
  pub lower : StepBreaks one_lower
  pub ilim : StepBreaks wider_ilim
  pub matchless : StepBreaks fault_refused
  -- 02, R-3: half a run taken; a settling after each byte; the override of the same run; the other flag register's flags cleared
  pub half : StepBreaks takes_half
  pub between : StepBreaks settles_between
  pub typed : StepBreaks same_run
  pub both : StepBreaks clears_both
  -- 02, R-7: the first thermistor alone, or the second; the warmer one; cool beside warm as normal, as cool or as warm; the second value read after the bits
  pub first_ts : StepBreaks by_first
  pub second_ts : StepBreaks by_second
  pub warmer : StepBreaks by_warmer
  pub mixed_normal : StepBreaks (mixed_as Normal)
  pub mixed_cool : StepBreaks (mixed_as Cool)
  pub mixed_warm : StepBreaks (mixed_as Warm)
  pub after_bits : ReadBreaks reads_after_bits
  -- 02, R-8: one hold for both thermistors; the threshold of the entry kept; cold entered late; a left band that is normal without being judged
  pub held : StepBreaks one_hold
  pub entry : StepBreaks keeps_entry
  pub late : StepBreaks cold_late
  pub unjudged : StepBreaks left_normal
  -- right after every run, and wrong on a model that passes but that no run leaves
  pub stray : StepBreaks drops_stray
  -- another byte code; a record read at place 0 alone; one number for whatever can't be read, and two that are swapped
  pub other_code : ReadBreaks reads_swapped
  pub other_code_written : WriteBreaks writes_swapped
  pub first_alone : ReadBreaks reads_first
  pub one_for_all : ReadBreaks refuses_with_one
  pub two_and_three : ReadBreaks swaps_two_and_three
  -- before 02, R-4: the record's start, for 1, for 2 or for 3; and for the reader's 5
  pub one_at_start : ReadBreaks (tells_start 1)
  pub two_at_start : ReadBreaks (tells_start 2)
  pub three_at_start : ReadBreaks (tells_start 3)
  pub five_at_start : ReadBreaks (tells_start 5)

-- demand 3, of a step, whatever is reported of its states
abbrev pub StepBreaksThird : Step → Type 0
StepBreaksThird step = (report : Reporter) → ¬ ThirdOfLists step report

pub record ThirdRefuted : Type 0 where
  -- "one that works only on the first event breaks 2 and 3 over runs"; those that refuse, report zeros or ignore events break it too
  pub refuses : (r : Refusal) → StepBreaksThird (refuses_always r)
  pub zeros : (step : Step) → ¬ ThirdOfLists step reports_zeros
  pub ignores : StepBreaksThird ignores_events
  pub once : StepBreaksThird works_once
  -- a second power-on refused: "since the latest power-on"
  pub power : StepBreaksThird powers_once
  -- "invented stage times .. break 3's sums", each stage's; with this product's report
  pub times : (stage : Stage) (time : ℕ) → ¬ ThirdOfLists (invents_times stage time) report_of
  -- and so do times that are added wrongly
  pub after : ¬ ThirdOfLists times_after report_of
  pub halved : ¬ ThirdOfLists halves_by_new report_of
  pub uncleared : ¬ ThirdOfLists keeps_times report_of
  -- the rule before 02, R-1: the customer's pack charges where the cycle is done
  pub point : ¬ ThirdOfLists step_by_base report_of
  -- 02, R-2 taken too far: it rests where a new cycle has started
  pub restart : ¬ ThirdOfLists never_restarts report_of
  -- 02, R-7, "Demand 3's suspending temperature includes it": each charges where cool beside warm suspends
  pub first_ts : ¬ ThirdOfLists by_first report_of
  pub second_ts : ¬ ThirdOfLists by_second report_of
  pub warmer : ¬ ThirdOfLists by_warmer report_of
  pub mixed_normal : ¬ ThirdOfLists (mixed_as Normal) report_of
  pub mixed_cool : ¬ ThirdOfLists (mixed_as Cool) report_of
  pub mixed_warm : ¬ ThirdOfLists (mixed_as Warm) report_of
  -- 02, R-8, "Demand 3's band includes the hold": two rest where a band was left, and two charge where one is entered, or judged again
  pub held : ¬ ThirdOfLists one_hold report_of
  pub entry : ¬ ThirdOfLists keeps_entry report_of
  pub late : ¬ ThirdOfLists cold_late report_of
  pub unjudged : ¬ ThirdOfLists left_normal report_of

-- and of what the operators may count on
pub record OperatorsRefuted : Type 0 where
  pub point : ¬ CountedOn step_by_base report_of

-- what breaks the part that a call is held to breaks the demand, whatever the rest of the product is like: so the wrong readers and writers, comparisons and calls for C that
-- `FormatRefuted`, `PairsRefuted` and `HeadsRefuted` have break it too
pub record PartsBreak : Type 0 where
  pub read : (read : Reader) → ¬ Reads read → ReadBreaks read
  pub write : (write : Writer) → ¬ Writes write → WriteBreaks write
  pub compare : (compare : Comparer) → ¬ Compares compare → (p : Product) → p.compare ≡ compare → ¬ SecondDemand p
  pub leaves : (calls : Calls) → ¬ RefusalLeaves calls → (p : Product) → p.calls ≡ calls → ¬ FirstDemand p
  pub grows : (calls : Calls) → ¬ CatchesUp calls → (p : Product) → p.calls ≡ calls → ¬ SecondDemand p
  pub images : (calls : Calls) → ¬ ThirdOfImages calls → (p : Product) → p.calls ≡ calls → ¬ ThirdDemand p
  pub lists : (step : Step) (report : Reporter) → ¬ ThirdOfLists step report → (p : Product) → p.step ≡ step → p.report ≡ report → ¬ ThirdDemand p
