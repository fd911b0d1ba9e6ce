-- Demand 1 holds of this product.
use Prim.Native.Nat.{ℕ}
use mathlib.Core.Path.{◌≡◌, refl, ◌∙◌}
use mathlib.Core.Bool.{Bool, true, false}
use mathlib.Core.List.{List, ◌++◌}
use native.Mathlib.Omega.{arith}
use lib.ListN.{length, drop, length-append, length-drop}
use lib.Seq.{drop-append_seam}
use lib.Dec.{leb}
use borrow.Author.Tests.{leb-true}
use Rattle.base.specs.Pick.{pick}
use Rattle.base.specs.Writing.{wrote, put, written}
use Rattle.base.specs.Writing as answer
use Rattle.log_event.specs.Items.{all_sound}
use Rattle.log_event.specs.Events.{items_of}
use Rattle.log_event.specs.declared.Event.{Event}
use Rattle.log_record.specs.Records.{spell_event, event_written, event_put}
use Rattle.step_event.proofs.Keeps.{refused-leaves}
use Rattle.laws_step.proofs.Given.{number-known}
use Rattle.laws_demands.specs.First.{WrittenIn}
use Rattle.laws_demands.specs.First as told
use Rattle.laws_demands.specs.Ours.{FirstHolds}
use Rattle.report_state.specs.Report.{report_of}
use Rattle.step_event.specs.Steps.{step_of}
use Rattle.laws_format.specs.Ours.{our_read}
use Rattle.c_calls.proofs.Leaves.{refusal-leaves}
use Rattle.c_calls.proofs.Lengths.{keeps-lengths}
use Rattle.laws_pairs.proofs.Comparing.{our-compares}
use Rattle.laws_format.proofs.Keeping.{our-reads}
use Rattle.laws_demands.specs.Ours.{our_walk}
use Rattle.laws_demands.proofs.Answers.{reads-answer, walked, compared}
use Rattle.laws_demands.proofs.Prints.{our-walks}

puts : (bytes buffer : List ℕ) → WrittenIn buffer (written bytes buffer, put bytes buffer)
unfolding written put
puts bytes buffer = by (leb (length bytes) (length buffer)) refl
  where
    by : (t : Bool) → leb (length bytes) (length buffer) ≡ t → WrittenIn buffer (pick t (wrote (length bytes)) (answer.refused 12 0), pick t (bytes ++ drop (length bytes) buffer) buffer)
    by true fits =
        let room = leb-true (length bytes) (length buffer) fits in
        told.written (length bytes) (bytes ++ drop (length bytes) buffer) room (length-append bytes (drop (length bytes) buffer) ∙ omega (arith, length-drop (length bytes) buffer)) (drop-append_seam bytes (drop (length bytes) buffer))
    by false short = told.no_room

event-puts : (e : Event) (buffer : List ℕ) → WrittenIn buffer (event_written e buffer, event_put e buffer)
unfolding event_written event_put
event-puts e buffer = by (all_sound (items_of e))
  where
    by : (t : Bool) → WrittenIn buffer (pick t (written (spell_event e) buffer) (answer.refused 5 0), pick t (put (spell_event e) buffer) buffer)
    by true = puts (spell_event e) buffer
    by false = told.no-spelling

pub first_holds : FirstHolds
first_holds = record {
  steps = λ m e. record { number = number-known m e; refused = refused-leaves m e };
  reads = λ bytes are at. reads-answer our_read our-reads bytes are at;
  writes = event-puts;
  walks = λ bytes are. walked step_of report_of our_read our_walk our-walks our-reads bytes are;
  compares = λ a b are bes. compared (our-compares a b are bes);
  leaves = refusal-leaves;
  keeps = keeps-lengths;
}
