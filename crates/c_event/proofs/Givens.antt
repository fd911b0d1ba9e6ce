-- What `event_of` asks: the event of a kind and its words.
use Prim.Native.Nat.{ℕ, ◌*◌, ◌≤◌}
use mathlib.Core.Path.{◌≡◌, sym, ap, ◌∙◌}
use mathlib.Core.List.{List}
use mathlib.Core.Option.{some}
use lib.ListN.{length, take}
use borrow.Author.Tests.{eq-eqb}
use Rattle.base.specs.Told.{accepted}
use Rattle.log_event.specs.Items.{spans}
use Rattle.log_event.specs.Kinds.{shapes_of, kind_row, kinds, row_for, most_numbers}
use Rattle.log_event.specs.Events.{event_of}
use Rattle.log_event.specs.declared.Event.{Event}
use Rattle.log_event.specs.declared.kinds.Kind.{Kind}
use Rattle.log_event.proofs.Remaking.{first-few}
use Rattle.c_words.specs.Words.{words_in}
use Rattle.c_words.proofs.WordLaws.{length-words, few_words}
use Rattle.c_event.specs.Given.{given_of}

-- of the words that are read, a kind's numbers are the first
pub given_is : (kind : ℕ) (bytes : List ℕ) (k : Kind) (count : ℕ) (all : List ℕ) (event : Event) → some (kind_row k) ≡ row_for kinds kind → count ≡ spans (shapes_of k) → count ≤ most_numbers
    → length bytes ≡ count * 4 → all ≡ words_in most_numbers bytes → event ≡ event_of k all → accepted event ≡ given_of kind bytes
unfolding given_of
given_is kind bytes k count all event e ec few h ea ee =
    let long : length (words_in most_numbers bytes) ≡ most_numbers = length-words most_numbers bytes in
    let same : event ≡ event_of k (words_in count bytes) =
    ee ∙ ap (event_of k) ea ∙ sym (first-few k (words_in most_numbers bytes) long) ∙ ap (λ n. event_of k (take n (words_in most_numbers bytes))) (sym ec) ∙ ap (event_of k) (few_words count most_numbers bytes few) in
    rw (← e, ← ec, eq-eqb (length bytes) (count * 4) h, same)
