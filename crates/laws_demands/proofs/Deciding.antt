-- A log's last line tells what decided it: its records up to there are had by every log that agrees with it up to there, and then the reader's own places decide.
use Prim.Native.Nat.{ℕ, zero, suc, ◌≤◌, ◌<◌}
use mathlib.Core.Path.{◌≡◌, refl, sym, ap, ◌∙◌, subst}
use mathlib.Core.List.{List, [], ◌∷◌, ◌++◌, append-nil}
use mathlib.Core.Logic.{◌≢◌}
use native.Mathlib.Omega.{arith}
use native.Mathlib.Decide.{ℕ_discrete}
use lib.ListN.{length, take, length-drop}
use lib.Seq.{length-take-le, take-append-le, take-take, take_all}
use Rattle.log_number.specs.Promises.{Bytes}
use Rattle.log_number.proofs.Strings.{bytes_take, bytes-both}
use Rattle.log_event.specs.declared.Event.{Event}
use Rattle.log_record.specs.Records.{refused}
use Rattle.laws_format.specs.Readers.{Reader, Reads}
use Rattle.laws_format.specs.Deciding.{Decided, by_byte, by_end, refused_with, number_by, GoesOn, to-a-record, to-a-length}
use Rattle.laws_format.proofs.Only.{stands}
use Rattle.laws_format.proofs.RecordsDecided.{record-within}
use Rattle.laws_format.proofs.ItemsDecided.{some-groups}
use Rattle.laws_format.proofs.Deciding.{format-decides}
use Rattle.laws_heads.specs.Given.{NoRecordAt, unreadable, at-end, Ending, ReplayGives, stops, goes_on}
use Rattle.laws_heads.proofs.Givens.{few}
use Rattle.laws_heads.proofs.Every.{every-input-gives}
use Rattle.laws_heads.proofs.Growing.{onward, ends_with}
use Rattle.laws_demands.specs.Printed.{Log, read_on, log_from, log_by}
use Rattle.laws_demands.specs.Deciding.{code_by, LinesDecide}

module _ (read : Reader) (d : Reads read) where
  -- ---- a log as it was read, by its records and how they end
  abbrev log_of : List Event → Ending → Log
  log_of es ending = record { events = es; code = ending.code; offset = ending.told }

  stopped : {bytes : List ℕ} → Bytes bytes → {place code told : ℕ} → NoRecordAt bytes place code told → (more : ℕ → Log)
      → read_on place (read bytes place) more ≡ record { events = []; code = code; offset = told }
  stopped {bytes} bs {place} (unreadable n decided row) more = ap (λ x. read_on place x more) ((d.refuses bytes bs place n decided).1 row)
  stopped {bytes} bs {place} (at-end late) more = ap (λ x. read_on place x more) ((d.ends bytes bs place).1 late)

  log_is : (bytes : List ℕ) → Bytes bytes → {place : ℕ} {es : List Event} {ending : Ending} → ReplayGives bytes place es ending → (most : ℕ) → length es < most
      → log_from read most bytes place ≡ log_of es ending
  unfolding log_from
  log_is bytes bs g zero h = absurd (omega arith)
  log_is bytes bs (stops place code told k) (suc most) h = stopped bs k (λ next. log_from read most bytes next)
  log_is bytes bs (goes_on place e next es ending k more) (suc most) h =
      ap (λ x. read_on place x (λ after. log_from read most bytes after)) (stands read d bytes place e next k)
      ∙ ap (λ (l : Log). record { events = e ∷ l.events; code = l.code; offset = l.offset }) (log_is bytes bs more most (omega arith))

  whole_is : (bytes : List ℕ) → Bytes bytes → {es : List Event} {ending : Ending} → ReplayGives bytes 0 es ending → log_by read bytes ≡ log_of es ending
  whole_is bytes bs g = log_is bytes bs g (suc (length bytes)) (omega (arith, few g))

  -- ---- a log of which some record can't be read
  pub record Unread (bytes : List ℕ) (n told next : ℕ) : Type 0 where
    pub refuses : read bytes next ≡ refused n told
    pub behind : next ≤ told
    pub inside : told ≤ length bytes
    pub before : n ≢ 1 → told < length bytes

  unread : {bytes : List ℕ} → Bytes bytes → {n told next : ℕ} → NoRecordAt bytes next n told → n ≢ 0 → Unread bytes n told next
  unread bs (at-end late) bad = absurd (bad refl)
  unread {bytes} bs {next = next} (unreadable n told row) bad =
      let k = record-within row.row in
      let long = length-drop next bytes in
      record {
        refuses = (d.refuses bytes bs next n told).1 row;
        behind = omega (arith, row.counts);
        inside = omega (arith, k.0, k.2, row.counts);
        before = λ other. omega (arith, k.1 other, row.counts);
      }

  module _ (bytes : List ℕ) (bs : Bytes bytes) {es : List Event} {n told next : ℕ} (g : ReplayGives bytes 0 es (record { code = n; told = told; next = next })) (bad : n ≢ 0) where
    u : Unread bytes n told next
    u = unread bs (ends_with g) bad

    -- a log that agrees with it up to that record has the same records before
    agrees : (other : List ℕ) → Bytes other → ((k : ℕ) → k ≤ length bytes → k ≤ next → take k other ≡ take k bytes) → {fs : List Event} {ending : Ending}
        → ReplayGives other next fs ending → log_by read other ≡ log_of (es ++ fs) ending
    agrees other bo agree h = whole_is other bo (onward bytes other g agree h)

    refused-there : (other : List ℕ) → Bytes other → ((k : ℕ) → k ≤ length bytes → k ≤ next → take k other ≡ take k bytes) → (m at : ℕ) → read other next ≡ refused m at
        → log_by read other ≡ record { events = es; code = m; offset = at }
    refused-there other bo agree m at r =
        agrees other bo agree (stops next m at (unreadable m at ((d.refuses other bo next m at).0 r)))
        ∙ ap (λ fs. record { events = fs; code = m; offset = at }) (append-nil es)

    same_line : n ≢ 1 → n ≢ 5 → (rest : List ℕ) → Bytes rest → log_by read (take (suc told) bytes ++ rest) ≡ record { events = es; code = n; offset = told }
    same_line other far rest br =
        refused-there (take (suc told) bytes ++ rest) (bytes-both (take (suc told) bytes) rest (bytes_take (suc told) bytes bs) br)
        (λ k inside before.
        take-append-le k (take (suc told) bytes) rest (omega (arith, length-take-le (suc told) bytes (u.before other), u.behind))
        ∙ take-take k (suc told) bytes (omega (arith, u.behind)))
        n told ((format-decides read d).same bytes bs next n told u.refuses other far rest br)

    cut-agrees : (k : ℕ) → k ≤ length bytes → k ≤ next → take k (take told bytes) ≡ take k bytes
    cut-agrees k inside before = take-take k told bytes (omega (arith, u.behind))

    cut_line : n ≢ 4 → log_by read (take told bytes) ≡ record { events = es; code = 1; offset = told }
    cut_line other = refused-there (take told bytes) (bytes_take told bytes bs) cut-agrees 1 told ((format-decides read d).cut bytes bs next n told u.refuses other)

    -- without the byte another code is given: 1; and for 4, none
    needed : n ≢ 1 → code_by read (take told bytes) ≢ n
    needed other same = go (ℕ_discrete n 4)
      where
        go : Dec (n ≡ 4) → ⊥
        go (no far) = other (sym same ∙ ap (λ (l : Log). l.code) (cut_line far))
        go (yes is) =
            let start : told ≡ next = (format-decides read d).start bytes bs next told (subst (λ (m : ℕ). read bytes next ≡ refused m told) is u.refuses) in
            let over : NoRecordAt (take told bytes) next 0 next = at-end (omega (arith, start, length-take-le told bytes u.inside)) in
            bad (sym same ∙ ap (λ (l : Log). l.code) (agrees (take told bytes) (bytes_take told bytes bs) cut-agrees (stops next 0 next over)))

    -- the end, and some longer log that has a record more and no code
    open-end : n ≡ 1 → (more : List ℕ) × Bytes more × (code_by read (bytes ++ more) ≢ 1)
    open-end is =
        let k = (format-decides read d).goes_on bytes bs next told (subst (λ (m : ℕ). read bytes next ≡ refused m told) is u.refuses) in
        (k.0, k.1, go k.0 k.1 k.2)
      where
        before : (more : List ℕ) (i : ℕ) → i ≤ length bytes → i ≤ next → take i (bytes ++ more) ≡ take i bytes
        before more i inside ahead = take-append-le i bytes more inside

        go : (more : List ℕ) → Bytes more → GoesOn read bytes more next → code_by read (bytes ++ more) ≢ 1
        go more bm (to-a-record e m) one =
            let all = bytes-both bytes more bs bm in
            let far = length (bytes ++ more) in
            let last : ReplayGives (bytes ++ more) next (e ∷ []) (record { code = 0; told = far; next = far }) =
            goes_on next e far [] _ (d.only (bytes ++ more) all next e far m) (stops far 0 far (at-end (omega arith))) in
            let z : ◌≡◌ {A = ℕ} 0 1 = sym (ap (λ (l : Log). l.code) (agrees (bytes ++ more) all (before more) last)) ∙ one in
            omega arith
        go more bm (to-a-length p ahead m) one =
            let z : ◌≡◌ {A = ℕ} 5 1 = sym (ap (λ (l : Log). l.code) (refused-there (bytes ++ more) (bytes-both bytes more bs bm) (before more) 5 p m)) ∙ one in
            omega arith

    -- for 5 the length's last group
    length-there : code_by read bytes ≡ n → n ≡ 5 → (last : ℕ) × (told ≤ last) × Decided (code_by read) bytes last
    length-there code is =
        let k = (format-decides read d).first bytes bs next told (subst (λ (m : ℕ). read bytes next ≡ refused m told) is u.refuses) in
        let some : told ≤ k.last = omega (arith, k.behind, some-groups k.spelled) in
        (k.last, some, go k.last some k.decided k.same k.cut)
      where
        go : (last : ℕ) → told ≤ last → Decided (number_by read next) bytes last → ((rest : List ℕ) → Bytes rest → read (take (suc last) bytes ++ rest) next ≡ refused 5 told)
            → read (take last bytes) next ≡ refused 1 last → Decided (code_by read) bytes last
        go last some (by_end there more bm other) same cut = absurd (other (ap refused_with (subst (λ l. read (l ++ more) next ≡ refused 5 told) (take_all (suc last) bytes (omega arith)) (same more bm)) ∙ sym (ap refused_with u.refuses ∙ is)))
        go last some (by_byte inside enough needed) same cut =
            by_byte inside
            (λ rest br. ap (λ (l : Log). l.code) (refused-there (take (suc last) bytes ++ rest) (bytes-both (take (suc last) bytes) rest (bytes_take (suc last) bytes bs) br)
            (λ k within ahead.
            take-append-le k (take (suc last) bytes) rest (omega (arith, length-take-le (suc last) bytes inside, u.behind))
            ∙ take-take k (suc last) bytes (omega (arith, u.behind)))
            5 told (same rest br)) ∙ sym (code ∙ is))
            (λ same_code.
            let z : ◌≡◌ {A = ℕ} 1 5 = sym (ap (λ (l : Log). l.code) (refused-there (take last bytes) (bytes_take last bytes bs) (λ k within ahead. take-take k last bytes (omega (arith, u.behind))) 1 last cut)) ∙ same_code ∙ code ∙ is in
            omega arith)

    decided-there : code_by read bytes ≡ n → n ≢ 5 → Decided (code_by read) bytes told
    decided-there code far = go (ℕ_discrete n 1)
      where
        go : Dec (n ≡ 1) → Decided (code_by read) bytes told
        go (yes is) =
            let o = open-end is in
            by_end (((format-decides read d).ends bytes bs next n told u.refuses).0 is) o.0 o.1 (λ same. o.2 (same ∙ code ∙ is))
        go (no other) =
            by_byte (u.before other) (λ rest br. ap (λ (l : Log). l.code) (same_line other far rest br) ∙ sym code) (λ same. needed other (same ∙ code))

-- ---- every log
pub lines-decide : LinesDecide
lines-decide read d = record {
  decided = λ bytes bs h far.
      let o = one bytes bs in
      let code = ap (λ (l : Log). l.code) o.2 in
      subst (Decided (code_by read) bytes) (sym (ap (λ (l : Log). l.offset) o.2)) (decided-there read d bytes bs o.1 (λ z. h (code ∙ z)) code (λ z. far (code ∙ z)));
  length = λ bytes bs h.
      let o = one bytes bs in
      let code = ap (λ (l : Log). l.code) o.2 in
      let k = length-there read d bytes bs o.1 (λ z. omega (arith, z, h, code)) code (sym code ∙ h) in
      let there = ap (λ (l : Log). l.offset) o.2 in
      (k.0, omega (arith, k.1, there), k.2);
  same = λ bytes bs h other far rest br.
      let o = one bytes bs in
      let code = ap (λ (l : Log). l.code) o.2 in
      rw o.2 (same_line read d bytes bs o.1 (λ z. h (code ∙ z)) (λ z. other (code ∙ z)) (λ z. far (code ∙ z)) rest br);
  cut = λ bytes bs h other.
      let o = one bytes bs in
      let code = ap (λ (l : Log). l.code) o.2 in
      rw o.2 (cut_line read d bytes bs o.1 (λ z. h (code ∙ z)) (λ z. other (code ∙ z)));
}
  where
    one : (bytes : List ℕ) → Bytes bytes → (x : List Event × Ending) × ReplayGives bytes 0 x.0 x.1 × (log_by read bytes ≡ record { events = x.0; code = x.1.code; offset = x.1.told })
    one bytes bs =
        let k = every-input-gives.replay bytes bs 0 in
        let g = k.1.0.1 in
        ((k.0, k.1.0.0), g, whole_is read d bytes bs g)
