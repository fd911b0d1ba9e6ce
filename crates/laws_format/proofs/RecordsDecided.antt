-- Bytes that start with no record: which of them decide that.
use Prim.Native.Nat.{ℕ, suc, ◌+◌, ◌-◌, ◌≤◌, ◌<◌}
use mathlib.Core.Path.{◌≡◌, refl, sym, ap, ◌∙◌, subst}
use mathlib.Core.List.{List, ◌∷◌, ◌++◌, append_assoc}
use mathlib.Core.Logic.{◌≢◌}
use native.Mathlib.Omega.{arith}
use lib.ListN.{length, take, get_or, length-append}
use lib.Seq.{take-append-add, take-append_seam, take-append-le, drop-append_seam, get_or-drop}
use Rattle.log_raw.specs.Raw.{Raw}
use Rattle.log_event.specs.Items.{Item, num, raw, bytes, shape_of}
use Rattle.log_event.specs.declared.Event.{Event}
use Rattle.laws_format.specs.Format.{Groups, Stand, Listed}
use Rattle.laws_format.specs.Unreadable.{NoRecord, no_kind, stopped}
use Rattle.laws_format.proofs.ItemsDecided.{item-among, item-within, item-ends, item-fifth, item-enough, item-cut, item-zero, item-length}

-- ---- which numbers there are, and where the place is
pub record-among : {n p : ℕ} {s : List ℕ} → NoRecord n s p → (1 ≤ n) × (n ≤ 5)
record-among (no_kind b rest out) = (omega arith, omega arith)
record-among (stopped n kind place e early later next before left l so bad) = let k = item-among bad in (k.0, k.1)

pub record-within : {n p : ℕ} {s : List ℕ} → NoRecord n s p → (p ≤ length s) × (n ≢ 1 → p < length s) × (0 < length s)
record-within (no_kind b rest out) = (omega arith, λ other. omega arith, omega arith)
record-within (stopped n kind place e early later next before left l so bad) =
    let k = item-within bad in
    let long = length-append before left in
    (omega (arith, k.0), λ other. omega (arith, k.1 other), omega arith)

pub record-ends : {n p : ℕ} {s : List ℕ} → NoRecord n s p → n ≡ 1 → p ≡ length s
record-ends (no_kind b rest out) is = absurd (omega arith)
record-ends (stopped n kind place e early later next before left l so bad) is = let k = item-ends bad is in omega (arith, length-append before left)

pub record-starts : {n p : ℕ} {s : List ℕ} → NoRecord n s p → n ≡ 4 → p ≡ 0
record-starts (no_kind b rest out) is = refl
record-starts (stopped n kind place e early later next before left l so bad) is = absurd ((item-among bad).2 is)

-- ---- where in the record
pub record Starts (s : List ℕ) : Type 0 where
  pub event : Event
  pub kind : ℕ
  pub early : List Item
  pub next : Item
  pub later : List Item
  pub listed : Listed event kind (early ++ (next ∷ later))
  pub bytes : List ℕ
  pub left : List ℕ
  pub spelled : Stand early bytes
  pub stands : s ≡ kind ∷ (bytes ++ left)

-- ---- the bytes up to and including it are enough, and without it the record is cut off
stopped-take : (kind m : ℕ) (before left : List ℕ) → take (suc (length before + m)) (kind ∷ (before ++ left)) ≡ kind ∷ (before ++ take m left)
stopped-take kind m before left = ap (λ l. kind ∷ l) (take-append-add before left m)

pub record-enough : {n p : ℕ} {s : List ℕ} → NoRecord n s p → n ≢ 1 → n ≢ 5 → (rest : List ℕ) → NoRecord n (take (suc p) s ++ rest) p
record-enough (no_kind b tail out) other far rest = no_kind b rest out
record-enough (stopped n kind place e early later next before left l so bad) other far rest =
    let one : suc (length before + place) ≡ length before + suc place = omega arith in
    let bytes : take (suc (suc (length before + place))) (kind ∷ (before ++ left)) ++ rest ≡ kind ∷ (before ++ (take (suc place) left ++ rest)) =
    ap (λ k. take (suc k) (kind ∷ (before ++ left)) ++ rest) one ∙ ap (λ l. l ++ rest) (stopped-take kind (suc place) before left)
    ∙ ap (λ l. kind ∷ l) (append_assoc before (take (suc place) left) rest) in
    subst (λ l. NoRecord n l (suc (length before + place))) (sym bytes)
    (stopped n kind place e early later next before (take (suc place) left ++ rest) l so (item-enough bad other far rest))

pub record-cut : {n p : ℕ} {s : List ℕ} → NoRecord n s p → n ≢ 4 → NoRecord 1 (take p s) p
record-cut (no_kind b rest out) other = absurd (other refl)
record-cut (stopped n kind place e early later next before left l so bad) other =
    rw (stopped-take kind place before left) (stopped 1 kind place e early later next before (take place left) l so (item-cut bad))

-- ---- 2: a zero byte behind one with the high bit
pub record-zero : {n p : ℕ} {s : List ℕ} → NoRecord n s p → n ≡ 2 → (0 < p) × (get_or s p 1 ≡ 0) × (128 ≤ get_or s (p - 1) 0)
record-zero (no_kind b rest out) is = absurd (omega arith)
record-zero (stopped n kind place e early later next before left l so bad) is =
    let k = item-zero bad is in
    let at : (d i : ℕ) → get_or (before ++ left) (length before + i) d ≡ get_or left i d = λ d i.
    sym (get_or-drop (length before) (before ++ left) i d) ∙ ap (λ l. get_or l i d) (drop-append_seam before left) in
    let before-it : suc (length before + place) - 1 ≡ suc (length before + (place - 1)) = omega (arith, k.0) in
    (omega arith, at 1 place ∙ k.1, rw (before-it, at 0 (place - 1)) k.2)

-- ---- 3: the fifth byte of a number, or of a length, of the record
pub record Fifth (s : List ℕ) (p : ℕ) : Type 0 where
  pub starts : Starts s
  pub counts : p ≡ suc (length starts.bytes) + 4

pub record-fifth : {n p : ℕ} {s : List ℕ} → NoRecord n s p → n ≡ 3 → Fifth s p
record-fifth (no_kind b rest out) is = absurd (omega arith)
record-fifth (stopped n kind place e early later next before left l so bad) is = record {
  starts = record { event = e; kind = kind; early = early; next = next; later = later; listed = l; bytes = before; left = left; spelled = so; stands = refl };
  counts = let k = item-fifth bad is in omega arith;
}

-- ---- 5: a length, which its last group decides
pub record AtLength (s : List ℕ) (p : ℕ) : Type 0 where
  pub starts : Starts s
  pub counts : p ≡ suc (length starts.bytes)
  pub held : Raw
  pub is-raw : starts.next ≡ raw held
  pub value : ℕ
  pub groups : List ℕ
  pub spelled : Groups value groups
  pub some : 0 < length groups
  pub rest : List ℕ
  pub there : starts.left ≡ groups ++ rest
  pub enough : (tail : List ℕ) → NoRecord 5 (take (p + length groups) s ++ tail) p
  pub cut : (m : ℕ) → m ≡ p + length groups - 1 → NoRecord 1 (take m s) m

a-run : (i : Item) (k : ℕ) → shape_of i ≡ bytes k → (r : Raw) × (i ≡ raw r)
a-run (num n) k e = absurd (let z : ◌≡◌ {A = ℕ} 0 1 = cc in omega arith)
a-run (raw r) k e = (r, refl)

pub record-length : {n p : ℕ} {s : List ℕ} → NoRecord n s p → n ≡ 5 → AtLength s p
record-length (no_kind b rest out) is = absurd (omega arith)
record-length (stopped n kind place e early later next before left l so bad) is =
    let k = item-length bad is in
    let r = a-run next k.k k.is-raw in
    let here : place ≡ 0 = k.first in
    let first : suc (length before + place) ≡ suc (length before) = omega arith in
    let whole : (tail : List ℕ) → take (suc (length before + place) + length k.groups) (kind ∷ (before ++ left)) ++ tail ≡ kind ∷ (before ++ (k.groups ++ tail)) = λ tail.
    ap (λ m. take m (kind ∷ (before ++ left)) ++ tail) (let z : suc (length before + place) + length k.groups ≡ suc (length before + length k.groups) = omega arith in z)
    ∙ ap (λ t. t ++ tail) (stopped-take kind (length k.groups) before left)
    ∙ ap (λ t. (kind ∷ (before ++ take (length k.groups) t)) ++ tail) k.stands
    ∙ ap (λ t. (kind ∷ (before ++ t)) ++ tail) (take-append_seam k.groups k.rest)
    ∙ ap (λ t. kind ∷ t) (append_assoc before k.groups tail) in
    record {
      starts = record { event = e; kind = kind; early = early; next = next; later = later; listed = l; bytes = before; left = left; spelled = so; stands = refl };
      counts = first;
      held = r.0;
      is-raw = r.1;
      value = k.value;
      groups = k.groups;
      spelled = k.spelled;
      some = k.some;
      rest = k.rest;
      there = k.stands;
      enough = λ tail.
          subst (λ t. NoRecord 5 t (suc (length before + place))) (sym (whole tail))
          (subst (λ (q : ℕ). NoRecord 5 (kind ∷ (before ++ (k.groups ++ tail))) (suc (length before + q))) (sym here) (stopped 5 kind 0 e early later next before (k.groups ++ tail) l so (k.enough tail)));
      cut = λ m em.
          let one : ℕ = length k.groups - 1 in
          let far : m ≡ suc (length before + one) = omega (arith, k.some) in
          let part : take m (kind ∷ (before ++ left)) ≡ kind ∷ (before ++ take one k.groups) =
          ap (λ j. take j (kind ∷ (before ++ left))) far ∙ stopped-take kind one before left ∙ ap (λ t. kind ∷ (before ++ take one t)) k.stands
          ∙ ap (λ t. kind ∷ (before ++ t)) (take-append-le one k.groups k.rest (omega arith)) in
          subst (λ t. NoRecord 1 t m) (sym part) (subst (λ (q : ℕ). NoRecord 1 (kind ∷ (before ++ take one k.groups)) q) (sym far) (stopped 1 kind one e early later next before (take one k.groups) l so k.cut));
    }
