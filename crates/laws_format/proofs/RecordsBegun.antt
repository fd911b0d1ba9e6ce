-- A log that ends inside a record: with its last number or raw bytes ended, and then what the kind still lacks, it has one; but a length that goes on past one group is no length of raw
-- bytes. So bytes that are refused with 1 start some record, or a length that is refused with 5.
use Prim.Native.Nat.{ℕ, suc, ◌+◌, ◌<◌}
use mathlib.Core.Path.{◌≡◌, refl, sym, ap, ◌∙◌, subst}
use mathlib.Core.List.{List, [], ◌∷◌, ◌++◌, append_assoc, append-nil}
use native.Mathlib.Omega.{arith}
use borrow.Author.Rules.{rules}
use lib.ListN.{length, length-append}
use lib.Seq.{drop-append_seam}
use Rattle.log_number.specs.Promises.{Bytes}
use Rattle.log_number.proofs.Strings.{bytes_drop, bytes-both, bytes-each}
use Rattle.log_event.specs.Items.{Shape, Item, num, raw, shape_of, shapes}
use Rattle.log_event.specs.Kinds.{kind_byte, shapes_of}
use Rattle.log_event.specs.Events.{kind_of}
use Rattle.log_event.specs.declared.Event.{Event}
use Rattle.log_event.specs.declared.kinds.Kind.{Kind}
use Rattle.log_event.specs.declared.kinds.Kind.TheVariants.{PowerOn, Set, Write, TakeFlags, Observe, Service, Reset, WriteRun, PowerOnResistors, ObserveTwo, PowerOnEdition, ReadFlags}
use Rattle.log_event.proofs.Remaking.{every-event}
use Rattle.laws_format.specs.Format.{Stand, none, one, run, Listed, Spells, kind-then-numbers}
use Rattle.laws_format.specs.Unreadable.{NoRecord, no_kind, stopped}
use Rattle.laws_format.proofs.Formats.{listed-is}
use Rattle.laws_format.proofs.ItemsDecided.{Roomy, ItemGoesOn, to-an-item, to-a-length, item-grows, some-spelled}
use Rattle.laws_format.proofs.RecordsRefused.{event-with, shapes-both}

abbrev AllRoomy : List Shape → Type 0
AllRoomy [] = Unit {0}
AllRoomy (h ∷ hs) = Roomy h × AllRoomy hs

roomy : (k : Kind) → AllRoomy (shapes_of k)
roomy PowerOn = search rules
roomy Set = search rules
roomy Write = search rules
roomy TakeFlags = tt
roomy Observe = search rules
roomy Service = tt
roomy Reset = tt
roomy WriteRun = search rules
roomy PowerOnResistors = search rules
roomy ObserveTwo = search rules
roomy PowerOnEdition = search rules
roomy ReadFlags = search rules

roomy-rest : (hs gs : List Shape) → AllRoomy (hs ++ gs) → AllRoomy gs
roomy-rest [] gs r = r
roomy-rest (h ∷ hs) gs r = roomy-rest hs gs r.1

-- ---- what a kind still lacks
record Lacked (hs : List Shape) : Type 0 where
  items : List Item
  shaped : shapes items ≡ hs
  bytes : List ℕ
  known : Bytes bytes
  stand : Stand items bytes

lacked : (hs : List Shape) → AllRoomy hs → Lacked hs
lacked [] r = record { items = []; shaped = refl; bytes = []; known = bytes-each [] tt; stand = none }
lacked (h ∷ hs) r =
    let i = some-spelled h r.0 in
    let k = lacked hs r.1 in
    record {
      items = i.0 ∷ k.items;
      shaped = ap (λ g. g ∷ shapes k.items) i.1 ∙ ap (λ l. h ∷ l) k.shaped;
      bytes = i.2.0 ++ k.bytes;
      known = bytes-both i.2.0 k.bytes i.2.1 k.known;
      stand = i.2.2 k.items k.bytes k.stand;
    }

stand-then : {is : List Item} {before : List ℕ} → Stand is before → {js : List Item} {after : List ℕ} → Stand js after → Stand (is ++ js) (before ++ after)
stand-then none so = so
stand-then (one n is groups bytes h g rest) {js} {after} so =
    subst (λ l. Stand (num n ∷ (is ++ js)) l) (sym (append_assoc groups bytes after)) (one n (is ++ js) groups (bytes ++ after) h g (stand-then rest so))
stand-then (run r is groups held bytes h g rest) {js} {after} so =
    subst (λ l. Stand (raw r ∷ (is ++ js)) l) (sym (append_assoc groups (held ++ bytes) after ∙ ap (λ l. groups ++ l) (append_assoc held bytes after)))
    (run r (is ++ js) groups held (bytes ++ after) h g (stand-then rest so))

-- ---- the bytes go on to some event's spelling, or to a length that is none
pub data Begins (s more : List ℕ) : Type 0 where
  a-record : (e : Event) → Spells e (s ++ more) → Begins s more
  a-length : (p : ℕ) → p < length s → NoRecord 5 (s ++ more) p → Begins s more

pub record-begins : {n p : ℕ} {s : List ℕ} → NoRecord n s p → n ≡ 1 → Bytes s → (more : List ℕ) × Bytes more × Begins s more
record-begins (no_kind b rest out) is bs = absurd (omega arith)
record-begins (stopped n kind place e early later next before left l so bad) is bs =
    let i = listed-is l in
    let shaped : shapes early ++ (shape_of next ∷ shapes later) ≡ shapes_of (kind_of e) = sym (shapes-both early (next ∷ later)) ∙ ap shapes i.1 ∙ (every-event e).shaped in
    let room = roomy-rest (shapes early) (shape_of next ∷ shapes later) (subst AllRoomy (sym shaped) (roomy (kind_of e))) in
    let in_left : Bytes left = subst Bytes (drop-append_seam before left) (bytes_drop (length before) (before ++ left) (λ j. bs (suc j))) in
    let g = item-grows room.0 bad is in_left in
    go i.0 shaped room.1 g.0 g.1 g.2
  where
    go : kind ≡ kind_byte (kind_of e) → shapes early ++ (shape_of next ∷ shapes later) ≡ shapes_of (kind_of e) → AllRoomy (shapes later) → (tail : List ℕ) → Bytes tail
        → ItemGoesOn (shape_of next) left tail → (more : List ℕ) × Bytes more × Begins (kind ∷ (before ++ left)) more
    go is-kind shaped room tail bt (to-an-item item is-item then) =
        let lack = lacked (shapes later) room in
        let rest : List ℕ = tail ++ lack.bytes in
        let items : List Item = early ++ (item ∷ lack.items) in
        let whole : shapes items ≡ shapes_of (kind_of e) =
        shapes-both early (item ∷ lack.items) ∙ ap (λ g. shapes early ++ (g ∷ shapes lack.items)) is-item ∙ ap (λ l. shapes early ++ (shape_of next ∷ l)) lack.shaped ∙ shaped in
        let f = event-with (kind_of e) items whole in
        let bytes : before ++ ((left ++ tail) ++ lack.bytes) ≡ (before ++ left) ++ rest = ap (λ t. before ++ t) (append_assoc left tail lack.bytes) ∙ sym (append_assoc before left rest) in
        let spelling = kind-then-numbers f.0 kind items _ (subst (λ (b : ℕ). Listed f.0 b items) (sym is-kind) f.2) (stand-then so (then lack.items lack.bytes lack.stand)) in
        (rest, bytes-both tail lack.bytes bt lack.known, a-record f.0 (subst (λ t. Spells f.0 (kind ∷ t)) bytes spelling))
    go is-kind shaped room tail bt (to-a-length some none-like) =
        let row = stopped 5 kind 0 e early later next before ((left ++ tail) ++ []) l so (none-like []) in
        let bytes : before ++ ((left ++ tail) ++ []) ≡ (before ++ left) ++ tail = ap (λ t. before ++ t) (append-nil (left ++ tail)) ∙ sym (append_assoc before left tail) in
        (tail, bt, a-length (suc (length before + 0)) (omega (arith, some, length-append before left)) (subst (λ t. NoRecord 5 (kind ∷ t) (suc (length before + 0))) bytes row))
