-- What `print` promises, and that it allows one outcome.
use Rattle.std.specs.Prelude.{ℕ, ◌≤◌, ◌≡◌, List, length, Result}
use Rattle.base.specs.Outcomes.{One, OfTwo}
use Rattle.base.specs.Writing.{put}
use Rattle.base.specs.declared.refusal.Refusal.{Refusal}
use Rattle.step_event.specs.declared.walking.Walk.{Walk}
use Rattle.step_text.specs.Prints.{next_text, most_text, print_told, printed_in}
use Rattle.step_text.specs.declared.answer.Printed.{Printed}

abbrev pub PrintPromise : List ℕ → Walk → List ℕ → Result Printed Refusal → List ℕ → Type 0
PrintPromise log from part r after =
    (print_told r ≡ printed_in (next_text log from) part) × (after ≡ put (next_text log from).text part) × (length (next_text log from).text ≤ most_text)

-- "equal inputs allow one outcome"
pub record OneOutcome : Type 0 where
  pub print : (log : List ℕ) (from : Walk) (part : List ℕ) → One (OfTwo (PrintPromise log from part))
