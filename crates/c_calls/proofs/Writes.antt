-- What `cheukdane_write` asks, over plain values.
use Prim.Native.Nat.{ℕ}
use mathlib.Core.Path.{◌≡◌}
use mathlib.Core.List.{List}
use native.Mathlib.Omega.{arith}
use lib.ListN.{length}
use lib.Dec.{leb}
use mathlib.Core.Bool.{Bool, true, false}
use Rattle.base.specs.Pick.{pick}
use Rattle.base.specs.Writing.{wrote, refused, written}
use Rattle.log_event.specs.Items.{all_sound}
use Rattle.log_event.specs.Events.{items_of}
use Rattle.log_event.specs.declared.Event.{Event}
use Rattle.log_record.specs.Records.{spell_event, event_written}

-- a count of bytes that were written is the record's
pub counted_whole : (e : Event) (out : List ℕ) (n : ℕ) → wrote n ≡ event_written e out → n ≡ length (spell_event e)
unfolding event_written written
counted_whole e out n told = go (all_sound (items_of e)) (leb (length (spell_event e)) (length out)) told
  where
    go : (t u : Bool) → wrote n ≡ pick t (pick u (wrote (length (spell_event e))) (refused 12 0)) (refused 5 0) → n ≡ length (spell_event e)
    go true true told = cc
    go true false told = absurd (let z : ◌≡◌ {A = ℕ} 0 1 = cc in omega arith)
    go false u told = absurd (let z : ◌≡◌ {A = ℕ} 0 1 = cc in omega arith)
