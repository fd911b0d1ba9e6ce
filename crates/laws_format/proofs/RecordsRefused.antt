-- This product gives 1 to 5 for what stands at a place, and tells where, exactly when the paper's rows say so.
use Prim.Native.Nat.{ℕ, zero, suc, ◌+◌}
use mathlib.Core.Path.{◌≡◌, refl, sym, ap, ◌∙◌, subst}
use mathlib.Core.Bool.{true}
use mathlib.Core.List.{List, [], ◌∷◌, ◌++◌, append_assoc}
use mathlib.Core.Option.{Option, some}
use mathlib.Core.Option as option
use native.Mathlib.Omega.{arith}
use lib.ListN.{length, drop, length-append}
use lib.Seq.{drop-append_seam}
use Rattle.base.specs.Found.{Found, found, refused, moved}
use Rattle.log_number.specs.Promises.{Bytes}
use Rattle.log_number.proofs.Strings.{bytes_drop}
use Rattle.log_raw.specs.Raw.{Raw, held_by, read_raw}
use Rattle.log_event.specs.Items.{Shape, number, bytes, Item, num, raw, shape_of, shapes, values, Fits, AllFit, sound, all_sound}
use Rattle.log_event.specs.Kinds.{kind_byte, shapes_of, KindRow, kind_row, kinds, row_for}
use Rattle.log_event.specs.Events.{kind_of, items_of, event_of}
use Rattle.log_event.specs.declared.Event.{Event}
use Rattle.log_event.specs.declared.kinds.Kind.{Kind}
use Rattle.log_event.proofs.Table.{own_row}
use Rattle.log_event.proofs.Remaking.{row-of-its-own, every-event, every-kind}
use Rattle.log_record.specs.Items.{spell_item, spell_items, as_num, as_raw, read_item, behind, and_then, read_items}
use Rattle.log_record.specs.Records.{Met, of_kind, of_row, read_record}
use Rattle.log_record.specs.Records as log
use Rattle.log_record.proofs.ItemLaws.{item-read, item-stands, all-sound}
use Rattle.laws_format.specs.Format.{Stand, none, Listed, NoKind}
use Rattle.laws_format.specs.Unreadable.{NoNumber, NoRaw, NoItem, of_number, of-raw, NoRecord, no_kind, stopped}
use Rattle.laws_format.proofs.Formats.{stands, item-then, listed-is, listed}
use Rattle.laws_format.proofs.NumbersRefused.{Numbered, value, no_number, numbered, refused-number}
use Rattle.laws_format.proofs.RawsRefused.{raw-refused, refused-raw}

-- ---- one item
item_refused : (h : Shape) (s : List ℕ) → Bytes s → (n p : ℕ) → read_item h s ≡ refused n p → NoItem h n s p
item_refused number s bs n p e = of_number n p s (go (numbered s bs) e)
  where
    go : {t : List ℕ} {x : Found ℕ} → Numbered t x → as_num x ≡ refused n p → NoNumber n t p
    go (value m groups rest h g) e = absurd (let z : ◌≡◌ {A = ℕ} 0 1 = cc in omega arith)
    go (no_number m q t bad) e =
        let en : m ≡ n = cc in
        let ep : q ≡ p = cc in
        rw (← en, ← ep) bad
item_refused (bytes k) s bs n p e = of-raw k n p s (go (read_raw k s) refl e)
  where
    go : (x : Found Raw) → read_raw k s ≡ x → as_raw x ≡ refused n p → NoRaw (held_by k) n s p
    go (found r c) ex e = absurd (let z : ◌≡◌ {A = ℕ} 0 1 = cc in omega arith)
    go (refused m q) ex e =
        let en : m ≡ n = cc in
        let ep : q ≡ p = cc in
        rw (← en, ← ep) (raw-refused k s bs m q ex)

refused-item : {h : Shape} {n p : ℕ} {s : List ℕ} → NoItem h n s p → read_item h s ≡ refused n p
refused-item (of_number n p s bad) = ap as_num (refused-number bad)
refused-item (of-raw k n p s bad) = ap as_raw (refused-raw k bad)

-- ---- items one after the other
data Itemed (hs : List Shape) : List ℕ → Found (List Item) → Type 0 where
  all : (s : List ℕ) (is : List Item) (d : ℕ) → Itemed hs s (found is d)
  stops : (n p q : ℕ) (early : List Item) (h : Shape) (later : List Shape) (before left : List ℕ) → Stand early before → shapes early ++ (h ∷ later) ≡ hs → NoItem h n left p
      → q ≡ length before + p → Itemed hs (before ++ left) (refused n q)

behind-one : (h : Shape) (hs : List Shape) (i : Item) → shape_of i ≡ h → Fits i → sound i ≡ true → {rest : List ℕ} {x : Found (List Item)} → Itemed hs rest x
    → Itemed (h ∷ hs) (spell_item i ++ rest) (behind i (moved (length (spell_item i)) x))
behind-one h hs i is fits sounds (all s js d) = all _ _ _
behind-one h hs i is fits sounds (stops n p q early g later before left so shaped bad e) =
    rw (← append_assoc (spell_item i) before left)
    (stops n p (length (spell_item i) + q) (i ∷ early) g later (spell_item i ++ before) left (item-then i fits sounds so) (ap (λ k. k ∷ (shapes early ++ (g ∷ later))) is ∙ ap (λ l. h ∷ l) shaped) bad
    (omega (arith, length-append (spell_item i) before)))

itemed : (hs : List Shape) (s : List ℕ) → Bytes s → Itemed hs s (read_items hs s)
unfolding read_items
itemed [] s bs = all s [] 0
itemed (h ∷ hs) s bs = go (read_item h s) refl (itemed hs)
  where
    go : (x : Found Item) → read_item h s ≡ x → ((t : List ℕ) → Bytes t → Itemed hs t (read_items hs t)) → Itemed (h ∷ hs) s (and_then x (λ d. read_items hs (drop d s)))
    go (refused n p) ex ih = stops n p p [] h hs [] s none refl (item_refused h s bs n p ex) (omega arith)
    go (found i c) ex ih =
        let st = item-stands h s bs i c ex in
        let k = behind-one h hs i st.shaped st.fits st.sounds (ih (drop c s) (bytes_drop c s bs)) in
        subst (λ t. Itemed (h ∷ hs) t (behind i (moved c (read_items hs (drop c s))))) (sym st.start)
        (subst (λ (d : ℕ). Itemed (h ∷ hs) (spell_item i ++ drop c s) (behind i (moved d (read_items hs (drop c s))))) (sym st.long) k)

stopped-at : (early : List Item) → AllFit early → all_sound early ≡ true → (h : Shape) (later : List Shape) (left : List ℕ) (n p : ℕ) → read_item h left ≡ refused n p
    → read_items (shapes early ++ (h ∷ later)) (spell_items early ++ left) ≡ refused n (length (spell_items early) + p)
unfolding read_items spell_items
stopped-at [] fits sounds h later left n p e = let none : p ≡ 0 + p = omega arith in simp e (ap (λ q. refused n q) none)
stopped-at (i ∷ is) fits sounds h later left n p e =
    let b = all-sound i is sounds in
    let k = stopped-at is fits.1 b.1 h later left n p e in
    let there : length (spell_item i) + (length (spell_items is) + p) ≡ length (spell_item i ++ spell_items is) + p = omega (arith, length-append (spell_item i) (spell_items is)) in
    simp (append_assoc, item-read i fits.0 b.0 (spell_items is ++ left), drop-append_seam, k) (ap (λ q. refused n q) there)

-- ---- the table: each kind has an event, with any items of its shapes
pub event-with : (k : Kind) (is : List Item) → shapes is ≡ shapes_of k → (e : Event) × (kind_of e ≡ k) × Listed e (kind_byte k) is
event-with k is shaped =
    let made = every-kind k is shaped in
    let e : Event = event_of k (values is) in
    (e, made.kind, subst (λ l. Listed e (kind_byte k) l) made.items (subst (λ (b : ℕ). Listed e b (items_of e)) (ap kind_byte made.kind) (listed e)))

-- an item of a shape, and items of shapes
abbrev zeros : ℕ → List ℕ
zeros zero = []
zeros (suc k) = 0 ∷ zeros k

zeros-long : (k : ℕ) → length (zeros k) ≡ k
zeros-long zero = refl
zeros-long (suc k) = ap suc (zeros-long k)

some_item : (h : Shape) → (i : Item) × (shape_of i ≡ h)
some_item number = (num 0, refl)
some_item (bytes k) = (raw (record { count = 0; words = zeros k }), ap bytes (zeros-long k))

some-items : (hs : List Shape) → (is : List Item) × (shapes is ≡ hs)
some-items [] = ([], refl)
some-items (h ∷ hs) =
    let i = some_item h in
    let k = some-items hs in
    (i.0 ∷ k.0, ap (λ g. g ∷ shapes k.0) i.1 ∙ ap (λ l. h ∷ l) k.1)

pub an-event : (k : Kind) → (e : Event) × (kind_of e ≡ k) × ((is : List Item) × Listed e (kind_byte k) is)
an-event k = let is = some-items (shapes_of k) in let e = event-with k is.0 is.1 in (e.0, e.1, (is.0, e.2))

pub shapes-both : (is js : List Item) → shapes (is ++ js) ≡ shapes is ++ shapes js
shapes-both [] js = refl
shapes-both (i ∷ is) js = ap (λ l. shape_of i ∷ l) (shapes-both is js)

-- a byte has no row exactly if the paper lists no event under it
pub none-listed : (b : ℕ) → row_for kinds b ≡ option.none → NoKind b
none-listed b n e is l =
    let z : some (kind_row (kind_of e)) ≡ option.none = sym (row-of-its-own (kind_of e)) ∙ ap (row_for kinds) (sym (listed-is l).0) ∙ n in
    absurd (let z : ◌≡◌ {A = ℕ} 0 1 = cc in omega arith)

pub no_row : (b : ℕ) → NoKind b → row_for kinds b ≡ option.none
no_row b out = go (row_for kinds b) refl
  where
    go : (x : Option KindRow) → row_for kinds b ≡ x → x ≡ option.none
    go option.none e = refl
    go (some r) e =
        let own = own_row b r e in
        let a = an-event r.kind in
        let byte : kind_byte r.kind ≡ b = ap (λ (q : KindRow). q.byte) (sym own.0) ∙ own.1 in
        absurd (out a.0 a.2.0 (subst (λ (c : ℕ). Listed a.0 c a.2.0) byte a.2.1))

-- ---- a record
pub data Recorded : List ℕ → Met → Type 0 where
  a-record : (s : List ℕ) (e : Event) (c : ℕ) → Recorded s (log.met e c)
  no_record : (n p : ℕ) (s : List ℕ) → NoRecord n s p → Recorded s (log.refused n p)
  no_byte : Recorded [] log.end

of-items : (k : Kind) {s : List ℕ} {x : Found (List Item)} → Itemed (shapes_of k) s x → Recorded (kind_byte k ∷ s) (of_kind k x)
of-items k (all s is d) = a-record _ _ _
of-items k (stops n p q early h later before left so shaped bad there) =
    let next = some_item h in
    let rest = some-items later in
    let whole : shapes (early ++ (next.0 ∷ rest.0)) ≡ shapes_of k =
    shapes-both early (next.0 ∷ rest.0) ∙ ap (λ g. shapes early ++ (g ∷ shapes rest.0)) next.1 ∙ ap (λ l. shapes early ++ (h ∷ l)) rest.1 ∙ shaped in
    let e = event-with k (early ++ (next.0 ∷ rest.0)) whole in
    rw there (no_record n _ _ (stopped n (kind_byte k) p e.0 early rest.0 next.0 before left e.2 so (subst (λ g. NoItem g n left p) (sym next.1) bad)))

of-kind : (k : Kind) (s : List ℕ) → Bytes s → Recorded (kind_byte k ∷ s) (of_kind k (read_items (shapes_of k) s))
of-kind k s bs = of-items k (itemed (shapes_of k) s bs)

of-row : (b : ℕ) (s : List ℕ) → Bytes s → (x : Option KindRow) → row_for kinds b ≡ x → Recorded (b ∷ s) (of_row x s)
of-row b s bs option.none e = no_record 4 0 _ (no_kind b s (none-listed b e))
of-row b s bs (some r) e =
    let own = own_row b r e in
    let is : kind_row r.kind ≡ r = sym own.0 in
    let byte : kind_byte r.kind ≡ b = ap (λ (q : KindRow). q.byte) is ∙ own.1 in
    let shaped : shapes_of r.kind ≡ r.shapes = ap (λ (q : KindRow). q.shapes) is in
    rw (← byte, ← shaped) (of-kind r.kind s bs)

pub recorded : (s : List ℕ) → Bytes s → Recorded s (read_record kinds s)
unfolding read_record
recorded [] bs = no_byte
recorded (b ∷ s) bs = of-row b s (λ i. bs (suc i)) (row_for kinds b) refl

pub refused-record : {n p : ℕ} {s : List ℕ} → NoRecord n s p → read_record kinds s ≡ log.refused n p
unfolding read_record
refused-record (no_kind b rest out) = simp (no_row b out)
refused-record (stopped n kind place e early later next before left l so bad) =
    let i = listed-is l in
    let k = stands so in
    let shaped : shapes early ++ (shape_of next ∷ shapes later) ≡ shapes_of (kind_of e) = sym (shapes-both early (next ∷ later)) ∙ ap shapes i.1 ∙ (every-event e).shaped in
    let read : read_items (shapes_of (kind_of e)) (before ++ left) ≡ refused n (length before + place) =
    rw (← shaped, k.same) (stopped-at early k.fits k.sound (shape_of next) (shapes later) left n place (refused-item bad)) in
    simp (i.0, row-of-its-own (kind_of e), read)
