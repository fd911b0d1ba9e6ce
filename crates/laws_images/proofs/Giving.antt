-- An event that words of bytes give has numbers of 32 bits.
use Prim.Native.Nat.{ℕ, ◌*◌}
use mathlib.Core.Path.{◌≡◌, refl, sym, ap, subst, ◌∙◌}
use mathlib.Core.Bool.{Bool, true, false}
use mathlib.Core.List.{List}
use mathlib.Core.Option.{Option, none, some}
use native.Mathlib.Omega.{arith}
use lib.Dec.{eqb}
use lib.ListN.{length}
use Rattle.base.specs.Pick.{pick}
use Rattle.base.specs.Told.{accepted, refused}
use Rattle.log_number.specs.Promises.{Bytes}
use Rattle.log_event.specs.Items.{Shape, Item, values, spans, items_from, AllFit}
use Rattle.log_event.specs.Kinds.{shapes_of, KindRow, kinds, row_for}
use Rattle.log_event.specs.Events.{items_of, event_of}
use Rattle.log_event.specs.declared.Event.{Event}
use Rattle.log_event.specs.declared.kinds.Kind.{Kind}
use Rattle.log_event.proofs.Table.{own_row}
use Rattle.log_event.proofs.Values.{values-from, shapes-from, words-fit}
use Rattle.log_event.proofs.Remaking.{every-kind}
use Rattle.c_words.specs.Words.{words_in}
use Rattle.c_words.specs.Promises.{AllWords}
use Rattle.c_words.proofs.WordLaws.{length-words}
use Rattle.c_event.specs.Given.{given_row, given_of}
use Rattle.laws_images.proofs.Loading.{all_words}

-- the event of a kind and as many words
made-fits : (k : Kind) (hs : List Shape) (bytes : List ℕ) → hs ≡ shapes_of k → Bytes bytes → AllFit (items_of (event_of k (words_in (spans hs) bytes)))
made-fits k hs bytes e h =
    let ns : List ℕ = words_in (spans hs) bytes in
    let long : length ns ≡ spans hs = length-words (spans hs) bytes in
    let is : List Item = items_from hs ns in
    let back : values is ≡ ns = values-from hs ns long in
    let items : items_of (event_of k ns) ≡ is = ap (λ vs. items_of (event_of k vs)) (sym back) ∙ (every-kind k is (shapes-from hs ns (omega arith) ∙ e)).items in
    subst AllFit (sym items) (words-fit is (subst AllWords (sym back) (all_words (spans hs) bytes h)))

pub given-fits : (kind : ℕ) (words : List ℕ) → Bytes words → (e : Event) → given_of kind words ≡ accepted e → AllFit (items_of e)
unfolding given_of
given-fits kind words h e m = go (row_for kinds kind) refl m
  where
    go : (x : Option KindRow) → row_for kinds kind ≡ x → given_row x words ≡ accepted e → AllFit (items_of e)
    go none o m = absurd (let z : ◌≡◌ {A = ℕ} 0 1 = cc in omega arith)
    go (some r) o m = by (eqb (length words) (spans r.shapes * 4)) m
      where
        by : (t : Bool) → pick t (accepted (event_of r.kind (words_in (spans r.shapes) words))) (refused 5) ≡ accepted e → AllFit (items_of e)
        by true m = let same : event_of r.kind (words_in (spans r.shapes) words) ≡ e = cc in subst (λ f. AllFit (items_of f)) same (made-fits r.kind r.shapes words (ap (λ (q : KindRow). q.shapes) (own_row kind r o).0) h)
        by false m = absurd (let z : ◌≡◌ {A = ℕ} 0 1 = cc in omega arith)
