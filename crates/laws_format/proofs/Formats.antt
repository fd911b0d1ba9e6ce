-- The paper's format is what this product's definitions spell.
use Prim.Native.Nat.{ℕ, zero, suc, ◌+◌, ◌-◌, ◌*◌, ◌/◌, ◌%◌, ◌^◌, ◌≤◌, ◌<◌}
use mathlib.Core.Path.{◌≡◌, refl, sym, ap, ◌∙◌, subst}
use mathlib.Core.Bool.{true}
use mathlib.Core.List.{List, [], ◌∷◌, ◌++◌, append_assoc}
use native.Mathlib.Omega.{arith}
use native.Mathlib.Decide.{dec_lt}
use lib.IntN.{ℤ, pos, negsuc}
use lib.ListN.{length}
use Rattle.base.specs.Found.{found}
use Rattle.base.proofs.Tests.{and-iff}
use Rattle.log_number.specs.Ibat.{logged_of}
use Rattle.log_number.specs.Number.{with_high_bit, spell, read_number}
use Rattle.log_number.proofs.Spellings.{spell-small, spell-more, reads-back}
use Rattle.c_words.specs.Promises.{AllWords}
use Rattle.log_raw.specs.Raw.{counted, has_spelling, spell_raw}
use Rattle.log_event.specs.Items.{Item, num, raw, Fits, AllFit, sound, all_sound}
use Rattle.log_event.specs.Kinds.{kind_byte}
use Rattle.log_event.specs.Events.{kind_of, items_of}
use Rattle.log_event.specs.declared.Event.{Event}
use Rattle.log_event.specs.declared.Event.TheVariants.{PowerOn, Set, Write, TakeFlags, Observe, Service, Reset, WriteRun, PowerOnResistors, ObserveTwo, PowerOnEdition, ReadFlags}
use Rattle.log_record.specs.Items.{spell_item, spell_items}
use Rattle.log_record.specs.Records.{spell_event}
use Rattle.log_record.specs.Promises.{Spellable}
use Rattle.log_record.proofs.ItemLaws.{all-sound}
use Rattle.log_record.proofs.RecordLaws.{spellings-differ}
use Rattle.laws_format.specs.Format.{Groups, last, more, largest, Stand, none, one, run, Ibat, from_zero, below-zero, Listed, power-on, set, write, take-flags, observe, service, reset, write-run, power-on-resistors, observe-two, power-on-edition, read-flags, Spells, kind-then-numbers, AllSmall, AllSpelt, InRange, Signed32, SpelledOnce}
use Rattle.laws_format.proofs.Raws.{spelled-raw, holds-counted}

-- ---- groups
pub groups-are : {n : ℕ} {groups : List ℕ} → Groups n groups → groups ≡ spell n
groups-are (last n h) = sym (spell-small n h)
groups-are (more low n groups h p g) =
    let m = low + 128 * n in
    let head : with_high_bit m ≡ low + 128 = omega arith in
    let tail : m / 128 ≡ n = omega arith in
    ap (λ l. (low + 128) ∷ l) (groups-are g) ∙ sym (spell-more m (omega arith) ∙ ap (λ x. x ∷ spell (m / 128)) head ∙ ap (λ x. (low + 128) ∷ spell x) tail)

grouped-below : (k n : ℕ) → n < k → Groups n (spell n)
grouped-below zero n h = absurd (omega arith)
grouped-below (suc k) n h = go (dec_lt n 128) (λ big. grouped-below k (n / 128) (omega arith))
  where
    go : Dec (n < 128) → (128 ≤ n → Groups (n / 128) (spell (n / 128))) → Groups n (spell n)
    go (yes y) ih = rw (spell-small n y) (last n y)
    go (no y) ih =
        let big : 128 ≤ n = omega arith in
        let whole : n % 128 + 128 * (n / 128) ≡ n = omega arith in
        rw (spell-more n big) (subst (λ (m : ℕ). Groups m (with_high_bit n ∷ spell (n / 128))) whole (more (n % 128) (n / 128) (spell (n / 128)) (omega arith) (omega arith) (ih big)))

pub grouped : (n : ℕ) → Groups n (spell n)
grouped n = grouped-below (suc n) n (omega arith)

pub number_read : (n : ℕ) (groups rest : List ℕ) → n ≤ largest → Groups n groups → read_number (groups ++ rest) ≡ found n (length groups)
number_read n groups rest h g = rw (groups-are g) (reads-back n (omega arith) rest)

-- ---- numbers and raw bytes, one after the other
pub record Stands (is : List Item) (bytes : List ℕ) : Type 0 where
  pub same : bytes ≡ spell_items is
  pub fits : AllFit is
  pub sound : all_sound is ≡ true

pub stands : {is : List Item} {bytes : List ℕ} → Stand is bytes → Stands is bytes
unfolding spell_items spell_raw
stands none = record { same = refl; fits = tt; sound = refl }
stands (one n is groups bytes h g others) =
    let k = stands others in
    record { same = ap (λ l. l ++ bytes) (groups-are g) ∙ ap (λ l. spell n ++ l) k.same; fits = (omega arith, k.fits); sound = k.sound }
stands (run r is groups held bytes h g others) =
    let k = stands others in
    let s = spelled-raw h in
    let first : groups ++ held ≡ spell r.count ++ counted r = ap (λ l. l ++ held) (groups-are g ∙ ap spell (sym h.long)) ∙ ap (λ l. spell r.count ++ l) s.same in
    record {
      same = sym (append_assoc groups held bytes) ∙ ap (λ l. l ++ bytes) first ∙ ap (λ l. (spell r.count ++ counted r) ++ l) k.same;
      fits = (s.fits, k.fits);
      sound = (and-iff (has_spelling r) (all_sound is)).1 (s.sound, k.sound);
    }

pub item-then : (i : Item) → Fits i → sound i ≡ true → {is : List Item} {bytes : List ℕ} → Stand is bytes → Stand (i ∷ is) (spell_item i ++ bytes)
unfolding spell_raw
item-then (num n) h t {is} {bytes} others = let small : n < 2 ^ 32 = h in one n is (spell n) bytes (omega arith) (grouped n) others
item-then (raw r) h t {is} {bytes} others =
    let held = holds-counted r h t in
    rw (append_assoc (spell r.count) (counted r) bytes)
    (run r is (spell r.count) (counted r) bytes held (subst (λ (n : ℕ). Groups n (spell r.count)) held.long (grouped r.count)) others)

pub standing : (is : List Item) → AllFit is → all_sound is ≡ true → Stand is (spell_items is)
unfolding spell_items
standing [] h t = none
standing (i ∷ is) h t = let b = all-sound i is t in item-then i h.0 b.0 (standing is h.1 b.1)

-- numbers in range are words
pub small-words : (ns : List ℕ) → AllSmall ns → AllWords ns
small-words [] h = tt
small-words (n ∷ ns) h = let small : n ≤ largest = h.0 in (omega arith, small-words ns h.1)

all-spelt : (is : List Item) → AllFit is → all_sound is ≡ true → AllSpelt is
all-spelt [] h t = tt
all-spelt (num n ∷ is) h t = let small : n < 2 ^ 32 = h.0 in (omega arith, all-spelt is h.1 t)
all-spelt (raw r ∷ is) h t = let b = all-sound (raw r) is t in ((counted r, holds-counted r h.0 b.0), all-spelt is h.1 b.1)

spelt-fits : (is : List Item) → AllSpelt is → AllFit is × (all_sound is ≡ true)
spelt-fits [] h = (tt, refl)
spelt-fits (num n ∷ is) h = let small : n ≤ largest = h.0 in let k = spelt-fits is h.1 in ((omega arith, k.0), k.1)
spelt-fits (raw r ∷ is) h =
    let k = spelt-fits is h.1 in
    let s = spelled-raw h.0.1 in
    ((s.fits, k.0), (and-iff (has_spelling r) (all_sound is)).1 (s.sound, k.1))

-- ---- the table
ibat-is : {z : ℤ} {n : ℕ} → Ibat z n → n ≡ logged_of z
ibat-is (from_zero n) = refl
ibat-is (below-zero k) = omega arith

ibat-logged : (z : ℤ) → Ibat z (logged_of z)
ibat-logged (pos n) = from_zero n
ibat-logged (negsuc k) = let e : 2 * suc k - 1 ≡ 2 * k + 1 = omega arith in subst (λ (n : ℕ). Ibat (negsuc k) n) e (below-zero k)

pub listed-is : {e : Event} {kind : ℕ} {is : List Item} → Listed e kind is → (kind ≡ kind_byte (kind_of e)) × (is ≡ items_of e)
listed-is (power-on p) = (refl, refl)
listed-is (set number value) = (refl, refl)
listed-is (write address byte) = (refl, refl)
listed-is take-flags = (refl, refl)
listed-is (observe s ibat i) = (refl, rw (ibat-is i))
listed-is service = (refl, refl)
listed-is reset = (refl, refl)
listed-is (write-run address held) = (refl, refl)
listed-is (power-on-resistors r) = (refl, refl)
listed-is (observe-two t ibat i) = (refl, rw (ibat-is i))
listed-is (power-on-edition p edition) = (refl, refl)
listed-is (read-flags address) = (refl, refl)

pub listed : (e : Event) → Listed e (kind_byte (kind_of e)) (items_of e)
listed (PowerOn p) = power-on p
listed (Set number value) = set number value
listed (Write address byte) = write address byte
listed TakeFlags = take-flags
listed (Observe s) = observe s (logged_of s.ibat) (ibat-logged s.ibat)
listed Service = service
listed Reset = reset
listed (WriteRun address held) = write-run address held
listed (PowerOnResistors r) = power-on-resistors r
listed (ObserveTwo t) = observe-two t (logged_of t.sample.ibat) (ibat-logged t.sample.ibat)
listed (PowerOnEdition v) = power-on-edition v.profile v.edition
listed (ReadFlags address) = read-flags address

-- ---- events
pub spells-are : {e : Event} {bytes : List ℕ} → Spells e bytes → (bytes ≡ spell_event e) × Spellable e
unfolding spell_event
spells-are (kind-then-numbers e kind is bytes l so) =
    let i = listed-is l in
    let k = stands so in (
      ap (λ b. b ∷ bytes) i.0 ∙ ap (λ t. kind_byte (kind_of e) ∷ t) (k.same ∙ ap spell_items i.1),
      record { fits = subst AllFit i.1 k.fits; sound = sym (ap all_sound i.1) ∙ k.sound },
    )

pub spelled : (e : Event) → Spellable e → Spells e (spell_event e)
unfolding spell_event
spelled e h = kind-then-numbers e (kind_byte (kind_of e)) (items_of e) (spell_items (items_of e)) (listed e) (standing (items_of e) h.fits h.sound)

pub fits : (e : Event) → InRange e → Spellable e
fits e h = let k = spelt-fits (items_of e) (h (kind_byte (kind_of e)) (items_of e) (listed e)) in record { fits = k.0; sound = k.1 }

in-range : (e : Event) → Spellable e → InRange e
in-range e h kind is l = subst AllSpelt (sym (listed-is l).1) (all-spelt (items_of e) h.fits h.sound)

signed-fits : (z : ℤ) → Signed32 z → logged_of z ≤ largest
signed-fits (pos n) h = omega arith
signed-fits (negsuc k) h = omega arith

pub one-spelling : SpelledOnce
one-spelling = record {
  some = λ e. (λ h. (spell_event e, spelled e (fits e h)), λ s. in-range e (spells-are s.1).1);
  one = λ e a b p q. (spells-are p).0 ∙ sym (spells-are q).0;
  apart = λ e f a p q. spellings-differ e f (spells-are p).1 (spells-are q).1 (sym (spells-are p).0 ∙ (spells-are q).0);
  signed = λ z h. (logged_of z, (ibat-logged z, signed-fits z h));
}
