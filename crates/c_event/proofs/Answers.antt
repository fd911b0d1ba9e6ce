-- Every event is given by its kind and its numbers' words.
use Prim.Native.Nat.{ℕ, ◌*◌}
use mathlib.Core.List.{List}
use lib.ListN.{length}
use borrow.Author.Tests.{eq-eqb}
use Rattle.log_event.specs.Items.{values}
use Rattle.log_event.specs.Events.{kind_of, items_of}
use Rattle.log_event.proofs.Values.{fits-words}
use Rattle.log_event.proofs.Remaking.{row-of-its-own, count_of, every-event}
use Rattle.c_words.specs.Words.{bytes_of}
use Rattle.c_words.proofs.WordLaws.{length-bytes, reads-back}
use Rattle.c_event.specs.Given.{given_of}
use Rattle.c_event.specs.Promises.{EveryGiven}

pub every_given : EveryGiven
unfolding given_of
every_given e h =
    let ns : List ℕ = values (items_of e) in
    rw (row-of-its-own (kind_of e), count_of e, eq-eqb (length (bytes_of ns)) (length ns * 4) (length-bytes ns), reads-back ns (fits-words (items_of e) h), (every-event e).back)
