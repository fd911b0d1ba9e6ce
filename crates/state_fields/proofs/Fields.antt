-- Laws of fields that are put: each field that is put has its code, every other stands; and words are settled by their fields.
use Prim.Native.Nat.{ℕ, zero, suc, ◌+◌, ◌*◌, ◌/◌, ◌%◌, ◌^◌, ◌≤◌, ◌<◌}
use mathlib.Core.Path.{◌≡◌, refl, sym, ap, subst, ◌∙◌}
use mathlib.Core.Bool.{Bool, true, false}
use mathlib.Core.List.{List, [], ◌∷◌}
use native.Mathlib.Nat.{not-suc-le-zero, add_comm, mod-one, mod-lt, mod-eq_of_lt}
use native.Mathlib.Omega.{arith}
use borrow.Author.Tests.{eqb-true}
use lib.Dec.{eqb}
use lib.ListN.{length, get_or}
use lib.Pow.{pow_pos, mod-pow-add}
use Rattle.base.specs.Pick.{pick}
use Rattle.base.proofs.Tests.{and-iff}
use Rattle.state_parts.specs.declared.registers.Registers.{Registers}
use Rattle.state_parts.specs.declared.words.Words.{Words}
use Rattle.state_table.specs.Rows.{Field, bit_of}
use Rattle.state_table.specs.Packed.{no_field, fits}
use Rattle.state_table.proofs.Tested.{every, at, stacked}
use Rattle.state_table.proofs.Unpacked.{fit}
use Rattle.state_fields.specs.Words.{words_of, bits_at, put_at}
use Rattle.state_fields.specs.Held.{field_in, with_field, field_of, puts}
use Rattle.state_fields.proofs.Puts.{put-there, put-below, put-above, higher, above_of, joined}
use Rattle.state_fields.proofs.Maps.{Fit, map_of, get-map, put_map, fit-put, words-one}

abbrev pub Whole : Words → Type 0
Whole w = Fit (words_of w)

-- a field in the words is so many bits of the map's number
module _ (f : Field) (ok : fits f ≡ true) (w : Words) (whole : Whole w) where
  inside : bit_of f < 320
  inside = let k = fit f ok in let a = k.address in let l = k.low in omega arith

  pub field-map : field_in f w ≡ bits_at (bit_of f) f.width (map_of w)
  field-map = get-map w whole (bit_of f) f.width inside (fit f ok).one_word

  pub with-map : (code : ℕ) → map_of (with_field f code w) ≡ put_at (bit_of f) f.width code (map_of w)
  with-map code = put_map w whole (bit_of f) f.width inside (fit f ok).one_word code

  pub with-whole : (code : ℕ) → Whole (with_field f code w)
  with-whole code = fit-put w whole (bit_of f) f.width code inside (fit f ok).one_word

  module _ (code : ℕ) where
    abbrev after : Words
    after = with_field f code w

    pub field-there : field_in f after ≡ code % 2 ^ f.width
    field-there =
        get-map after (with-whole code) (bit_of f) f.width inside (fit f ok).one_word ∙ ap (bits_at (bit_of f) f.width) (with-map code)
        ∙ put-there (bit_of f) f.width code (map_of w)

-- of two words whose numbers have the same bits in a field, the field is the same
module _ (r : Field) (ok : fits r ≡ true) where
  pub same-field : (a b : Words) → Whole a → Whole b → bits_at (bit_of r) r.width (map_of a) ≡ bits_at (bit_of r) r.width (map_of b) → field_in r a ≡ field_in r b
  same-field a b wa wb e = field-map r ok a wa ∙ e ∙ sym (field-map r ok b wb)

  -- a field below one that is put, or above it, stands
  module _ (f : Field) (fok : fits f ≡ true) (w : Words) (whole : Whole w) (code : ℕ) where
    pub field-under : bit_of r + r.width ≤ bit_of f → field_in r (with_field f code w) ≡ field_in r w
    field-under h =
        same-field (with_field f code w) w (with-whole f fok w whole code) whole
        (ap (bits_at (bit_of r) r.width) (with-map f fok w whole code) ∙ put-below (bit_of f) f.width code (map_of w) (bit_of r) r.width h)

    pub field-over : bit_of f + f.width ≤ bit_of r → field_in r (with_field f code w) ≡ field_in r w
    field-over h =
        same-field (with_field f code w) w (with-whole f fok w whole code) whole
        (ap (bits_at (bit_of r) r.width) (with-map f fok w whole code) ∙ put-above (bit_of f) f.width code (map_of w) (bit_of r) r.width h)

-- a field of rows that stand one above the other starts where they do, or later
pub stack-from : (fs : List Field) (i from top : ℕ) → stacked from fs top ≡ true → i < length fs → from ≤ bit_of (get_or fs i no_field)
stack-from [] i from top e h = absurd (not-suc-le-zero h)
stack-from (f ∷ fs) zero from top e h =
    let q : from ≡ bit_of f = eqb-true from (bit_of f) ((and-iff (eqb from (bit_of f)) (stacked (bit_of f + f.width) fs top)).0 e).0 in omega arith
stack-from (f ∷ fs) (suc i) from top e h =
    let both = (and-iff (eqb from (bit_of f)) (stacked (bit_of f + f.width) fs top)).0 e in
    let q : from ≡ bit_of f = eqb-true from (bit_of f) both.0 in
    let more = stack-from fs i (bit_of f + f.width) top both.1 (omega arith) in
    omega arith

stack-to : (fs : List Field) (from top : ℕ) → stacked from fs top ≡ true → from ≤ top
stack-to [] from top e = let q = eqb-true from top e in omega arith
stack-to (f ∷ fs) from top e =
    let both = (and-iff (eqb from (bit_of f)) (stacked (bit_of f + f.width) fs top)).0 e in
    let q : from ≡ bit_of f = eqb-true from (bit_of f) both.0 in
    let more = stack-to fs (bit_of f + f.width) top both.1 in
    omega arith

module _ (on : Field → Bool) (code : Field → ℕ) where
  -- one field's turn
  abbrev pub turned : Field → Words → Words
  turned f w = pick (on f) (with_field f (code f) w) w

  pub turned-whole : (f : Field) → fits f ≡ true → (w : Words) → Whole w → Whole (turned f w)
  turned-whole f ok w whole = go (on f)
    where
      go : (t : Bool) → Whole (pick t (with_field f (code f) w) w)
      go true = with-whole f ok w whole (code f)
      go false = whole

  pub turned-there : (f : Field) → fits f ≡ true → (w : Words) → Whole w → field_in f (turned f w) ≡ pick (on f) (code f % 2 ^ f.width) (field_in f w)
  turned-there f ok w whole = go (on f)
    where
      go : (t : Bool) → field_in f (pick t (with_field f (code f) w) w) ≡ pick t (code f % 2 ^ f.width) (field_in f w)
      go true = field-there f ok w whole (code f)
      go false = refl

  turned-under : (r : Field) → fits r ≡ true → (f : Field) → fits f ≡ true → (w : Words) → Whole w → bit_of r + r.width ≤ bit_of f → field_in r (turned f w) ≡ field_in r w
  turned-under r g f ok w whole h = go (on f)
    where
      go : (t : Bool) → field_in r (pick t (with_field f (code f) w) w) ≡ field_in r w
      go true = field-under r g f ok w whole (code f) h
      go false = refl

  turned-over : (r : Field) → fits r ≡ true → (f : Field) → fits f ≡ true → (w : Words) → Whole w → bit_of f + f.width ≤ bit_of r → field_in r (turned f w) ≡ field_in r w
  turned-over r g f ok w whole h = go (on f)
    where
      go : (t : Bool) → field_in r (pick t (with_field f (code f) w) w) ≡ field_in r w
      go true = field-over r g f ok w whole (code f) h
      go false = refl

  turned-top : (f : Field) → fits f ≡ true → (w : Words) → Whole w → (top : ℕ) → bit_of f + f.width ≤ top → map_of (turned f w) / 2 ^ top ≡ map_of w / 2 ^ top
  turned-top f ok w whole top h = go (on f)
    where
      go : (t : Bool) → map_of (pick t (with_field f (code f) w) w) / 2 ^ top ≡ map_of w / 2 ^ top
      go true =
          ap (λ (n : ℕ). n / 2 ^ top) (with-map f ok w whole (code f))
          ∙ above_of (bit_of f + f.width) top (put_at (bit_of f) f.width (code f) (map_of w)) (map_of w) h (higher (bit_of f) f.width (code f) (map_of w))
      go false = refl

  pub puts_whole : (fs : List Field) (w : Words) → every fits fs ≡ true → Whole w → Whole (puts on code fs w)
  puts_whole [] w g whole = whole
  puts_whole (f ∷ fs) w g whole = let k = (and-iff (fits f) (every fits fs)).0 g in puts_whole fs (turned f w) k.1 (turned-whole f k.0 w whole)

  -- a field below all of them stands
  puts-under : (r : Field) → fits r ≡ true → (fs : List Field) (from top : ℕ) (w : Words) → every fits fs ≡ true → stacked from fs top ≡ true → Whole w
      → bit_of r + r.width ≤ from → field_in r (puts on code fs w) ≡ field_in r w
  puts-under r g [] from top w h e whole l = refl
  puts-under r g (f ∷ fs) from top w h e whole l =
      let k = (and-iff (fits f) (every fits fs)).0 h in
      let both = (and-iff (eqb from (bit_of f)) (stacked (bit_of f + f.width) fs top)).0 e in
      let q : from ≡ bit_of f = eqb-true from (bit_of f) both.0 in
      puts-under r g fs (bit_of f + f.width) top (turned f w) k.1 both.1 (turned-whole f k.0 w whole) (omega arith)
      ∙ turned-under r g f k.0 w whole (omega arith)

  -- each of them has its code, or stands
  pub puts-at : (fs : List Field) (i from top : ℕ) (w : Words) → every fits fs ≡ true → stacked from fs top ≡ true → Whole w → i < length fs
      → field_in (get_or fs i no_field) (puts on code fs w)
      ≡ pick (on (get_or fs i no_field)) (code (get_or fs i no_field) % 2 ^ (get_or fs i no_field).width) (field_in (get_or fs i no_field) w)
  puts-at [] i from top w h e whole l = absurd (not-suc-le-zero l)
  puts-at (f ∷ fs) zero from top w h e whole l =
      let k = (and-iff (fits f) (every fits fs)).0 h in
      let both = (and-iff (eqb from (bit_of f)) (stacked (bit_of f + f.width) fs top)).0 e in
      puts-under f k.0 fs (bit_of f + f.width) top (turned f w) k.1 both.1 (turned-whole f k.0 w whole) (omega arith) ∙ turned-there f k.0 w whole
  puts-at (f ∷ fs) (suc i) from top w h e whole l =
      let r = get_or fs i no_field in
      let k = (and-iff (fits f) (every fits fs)).0 h in
      let both = (and-iff (eqb from (bit_of f)) (stacked (bit_of f + f.width) fs top)).0 e in
      let more = stack-from fs i (bit_of f + f.width) top both.1 (omega arith) in
      puts-at fs i (bit_of f + f.width) top (turned f w) k.1 both.1 (turned-whole f k.0 w whole) (omega arith)
      ∙ ap (λ (x : ℕ). pick (on r) (code r % 2 ^ r.width) x) (turned-over r (at fits fs i k.1 (omega arith)) f k.0 w whole more)

  -- and what is above them stands
  pub puts-top : (fs : List Field) (from top : ℕ) (w : Words) → every fits fs ≡ true → stacked from fs top ≡ true → Whole w → map_of (puts on code fs w) / 2 ^ top ≡ map_of w / 2 ^ top
  puts-top [] from top w h e whole = refl
  puts-top (f ∷ fs) from top w h e whole =
      let k = (and-iff (fits f) (every fits fs)).0 h in
      let both = (and-iff (eqb from (bit_of f)) (stacked (bit_of f + f.width) fs top)).0 e in
      puts-top fs (bit_of f + f.width) top (turned f w) k.1 both.1 (turned-whole f k.0 w whole)
      ∙ turned-top f k.0 w whole top (stack-to fs (bit_of f + f.width) top both.1)

-- words that agree in all of these fields agree below their top
module _ (a b : Words) (wa : Whole a) (wb : Whole b) where
  agree : (fs : List Field) (from top : ℕ) → every fits fs ≡ true → stacked from fs top ≡ true
      → ((i : ℕ) → i < length fs → field_in (get_or fs i no_field) a ≡ field_in (get_or fs i no_field) b)
      → map_of a % 2 ^ from ≡ map_of b % 2 ^ from → map_of a % 2 ^ top ≡ map_of b % 2 ^ top
  agree [] from top h e same k = subst (λ (t : ℕ). map_of a % 2 ^ t ≡ map_of b % 2 ^ t) (eqb-true from top e) k
  agree (f ∷ fs) from top h e same k =
      let g = (and-iff (fits f) (every fits fs)).0 h in
      let both = (and-iff (eqb from (bit_of f)) (stacked (bit_of f + f.width) fs top)).0 e in
      let q : from ≡ bit_of f = eqb-true from (bit_of f) both.0 in
      let here : bits_at (bit_of f) f.width (map_of a) ≡ bits_at (bit_of f) f.width (map_of b) =
      sym (field-map f g.0 a wa) ∙ same 0 (omega arith) ∙ field-map f g.0 b wb in
      let low : map_of a % 2 ^ bit_of f ≡ map_of b % 2 ^ bit_of f = subst (λ (t : ℕ). map_of a % 2 ^ t ≡ map_of b % 2 ^ t) q k in
      agree fs (bit_of f + f.width) top g.1 both.1 (λ i l. same (suc i) (omega arith)) (
      ap (λ (t : ℕ). map_of a % 2 ^ t) (add_comm (bit_of f) f.width) ∙ mod-pow-add (map_of a) f.width (bit_of f)
      ∙ ap (λ (x : ℕ). x * 2 ^ bit_of f + map_of a % 2 ^ bit_of f) here ∙ ap (λ (x : ℕ). bits_at (bit_of f) f.width (map_of b) * 2 ^ bit_of f + x) low
      ∙ sym (mod-pow-add (map_of b) f.width (bit_of f)) ∙ ap (λ (t : ℕ). map_of b % 2 ^ t) (add_comm f.width (bit_of f)))

  pub settled : (fs : List Field) (top : ℕ) → every fits fs ≡ true → stacked 0 fs top ≡ true
      → ((i : ℕ) → i < length fs → field_in (get_or fs i no_field) a ≡ field_in (get_or fs i no_field) b)
      → map_of a / 2 ^ top ≡ map_of b / 2 ^ top → a ≡ b
  settled fs top h e same k =
      words-one a b wa wb (joined top (map_of a) (map_of b) (agree fs 0 top h e same (mod-one (map_of a) ∙ sym (mod-one (map_of b)))) k)

-- a field's value is below what its width holds
pub field-mod : (f : Field) (g : Registers) → field_of f g % 2 ^ f.width ≡ field_of f g
field-mod f g = mod-eq_of_lt (mod-lt _ (pow_pos f.width))
