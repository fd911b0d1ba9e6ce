-- Pieces written one after the other, each into the rest of a lent part: what holds at each turn of such a loop.
use Rattle.std.proofs.Common.{◌≡◌, ℕ, zero, suc, ◌+◌, ◌-◌, ◌<◌, ◌≤◌, List, [], ◌∷◌, ◌++◌, length, get_or, take, drop, sym, refl, ap, ◌∙◌, add-one, arith, length-append, length-drop, drop_of_length-le, length-take-le, drop-cons}
use lib.Seq.{sets, length-sets}
use borrow.Rule.Slice.PartMut.{put_mid}
use Rattle.base.specs.Writing.{Wrote, wrote, put, written}
use Rattle.base.proofs.Puts.{lent, sets-append, written-fits}

-- the pieces' bytes, one after the other
abbrev pub joined : List (List ℕ) → List ℕ
joined [] = []
joined (p ∷ ps) = p ++ joined ps

-- what is left to be written after i of the pieces
unfoldable pub left : List (List ℕ) → ℕ → List ℕ
left ps i = joined (drop i ps)

-- the i-th piece
abbrev pub piece_at : List (List ℕ) → ℕ → List ℕ
piece_at ps i = get_or ps i []

pub left-all : (ps : List (List ℕ)) → left ps 0 ≡ joined ps
unfolding left
left-all ps = refl

left-more : (ps : List (List ℕ)) (i : ℕ) → i < length ps → left ps i ≡ piece_at ps i ++ left ps (i + 1)
unfolding left
left-more ps i h = rw (add-one, drop-cons ps i [] h)

pub left-long : (ps : List (List ℕ)) (i : ℕ) → i < length ps → length (left ps i) ≡ length (piece_at ps i) + length (left ps (i + 1))
left-long ps i h = ap length (left-more ps i h) ∙ length-append (piece_at ps i) (left ps (i + 1))

left-none : (ps : List (List ℕ)) (i : ℕ) → length ps ≤ i → left ps i ≡ []
unfolding left
left-none ps i h = rw (drop_of_length-le ps {i = i} h)

pub none-long : (ps : List (List ℕ)) (i : ℕ) → length ps ≤ i → length (left ps i) ≡ 0
none-long ps i h = ap length (left-none ps i h)

-- i of the pieces are written, from `start` on in what was `first`, which has room for all; the next goes to `at`
pub record Turn (ps : List (List ℕ)) (first : List ℕ) (start : ℕ) (out : List ℕ) (at i : ℕ) : Type 0 where
  pub room : start + length (joined ps) ≤ length first
  pub same : sets out at (left ps i) ≡ sets first start (joined ps)
  pub long : length out ≡ length first
  pub place : at + length (left ps i) ≡ start + length (joined ps)

pub first-turn : (ps : List (List ℕ)) (first : List ℕ) (start : ℕ) → start + length (joined ps) ≤ length first → Turn ps first start first start 0
unfolding left
first-turn ps first start h = record { room = h; same = refl; long = refl; place = refl }

module _ {ps : List (List ℕ)} {first : List ℕ} {start : ℕ} {out : List ℕ} {at i : ℕ} (turn : Turn ps first start out at i) where
  -- what one piece more does: it has room, so it is written whole, and the next turn holds
  pub record More (p : List ℕ) : Type 0 where
    pub fits : at + length p ≤ length out
    pub whole : (r : Wrote) → r ≡ written p (take (length out - at) (drop at out)) → r ≡ wrote (length p)
    pub next : (ys : List ℕ) (n : ℕ) → ys ≡ put p (take (length out - at) (drop at out)) → length p ≡ n → Turn ps first start (put_mid at (length out - at) out ys) (at + n) (i + 1)

  pub more : i < length ps → (p : List ℕ) → piece_at ps i ≡ p → More p
  more inside p is =
      let then : left ps i ≡ p ++ left ps (i + 1) = rw (← is) (left-more ps i inside) in
      let long : length (left ps i) ≡ length p + length (left ps (i + 1)) = ap length then ∙ length-append p (left ps (i + 1)) in
      let has : at + length p ≤ length out = omega (arith, turn.room, turn.long, turn.place, long) in
      record {
        fits = has;
        whole = λ r e. e ∙ sym (written-fits p (take (length out - at) (drop at out)) (rw (length-take-le (length out - at) (drop at out) (rw length-drop (omega arith))) (omega arith)));
        next = λ ys n e en.
            let put_is : put_mid at (length out - at) out ys ≡ sets out at p = rw e (lent p out at has) in
            rw (← en, put_is) (record {
              room = turn.room;
              same = sym (sets-append p (left ps (i + 1)) out at) ∙ ap (sets out at) (sym then) ∙ turn.same;
              long = length-sets out at p ∙ turn.long;
              place = omega (arith, turn.place, long);
            });
      }

  -- all are written
  pub record Done : Type 0 where
    pub same : out ≡ sets first start (joined ps)
    pub place : at ≡ start + length (joined ps)

  pub done : length ps ≤ i → Done
  done h = record { same = ap (sets out at) (sym (left-none ps i h)) ∙ turn.same; place = omega (arith, turn.place, none-long ps i h) }

-- ---- pieces made of a list, each in the same way
module _ {A : Type 0} (text : A → List ℕ) where
  abbrev pub each : List A → List (List ℕ)
  each [] = []
  each (x ∷ xs) = text x ∷ each xs

  pub each_long : (xs : List A) → length (each xs) ≡ length xs
  each_long [] = refl
  each_long (x ∷ xs) = ap suc (each_long xs)

  pub each_at : (xs : List A) (other : A) (i : ℕ) → i < length xs → piece_at (each xs) i ≡ text (get_or xs i other)
  each_at [] other i h = absurd (omega arith)
  each_at (x ∷ xs) other zero h = refl
  each_at (x ∷ xs) other (suc i) h = each_at xs other i (omega arith)
