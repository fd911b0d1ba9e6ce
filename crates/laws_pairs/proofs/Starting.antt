-- The records that a log starts with: read one after the other exactly if they are spelled one after the other. Then what stands after them.
use Prim.Native.Nat.{ℕ, ◌+◌, ◌≤◌, ◌<◌}
use mathlib.Core.Path.{◌≡◌, refl, sym, ap, ◌∙◌}
use mathlib.Core.List.{List, [], ◌∷◌, ◌++◌, append_assoc}
use native.Mathlib.Omega.{arith}
use lib.ListN.{length, drop, length-append}
use lib.Seq.{drop-append_seam}
use Rattle.log_number.specs.Promises.{Bytes}
use Rattle.log_event.specs.Kinds.{kinds}
use Rattle.log_event.specs.declared.Event.{Event}
use Rattle.log_record.specs.Records.{spell_event, Met, met, refused, end, record_at}
use Rattle.log_record.specs.Logs.{spell_log}
use Rattle.log_record.proofs.RecordLaws.{one-spelling}
use Rattle.log_pairs.specs.Promises.{Records}
use Rattle.laws_format.specs.Format.{Spells, SpellsAll, no-events, event-then}
use Rattle.laws_format.specs.Unreadable.{NoRecord, no_kind, stopped}
use Rattle.laws_format.proofs.Formats.{spelled}
use Rattle.laws_format.proofs.Keeping.{our-reads}

-- what is spelled is read
pub all_read : {es : List Event} {bytes : List ℕ} → SpellsAll es bytes → (before rest : List ℕ) (at to : ℕ) (log : List ℕ)
    → at ≡ length before → to ≡ at + length bytes → log ≡ before ++ (bytes ++ rest) → Records log at es to
all_read no-events before rest at to log e f g = omega arith
all_read (event-then e es s bytes sp so) before rest at to log there far same =
    let split : log ≡ before ++ (s ++ (bytes ++ rest)) = same ∙ ap (λ l. before ++ l) (append_assoc s bytes rest) in
    let read : record_at kinds log at ≡ met e (at + length s) = rw (split, there) (our-reads.back e s sp before (bytes ++ rest)) in
    let on = all_read so (before ++ s) rest (at + length s) to log (omega (arith, length-append before s)) (omega (arith, length-append s bytes)) (split ∙ sym (append_assoc before s (bytes ++ rest))) in
    (at + length s, read, on)

-- what is read is spelled
pub all-spelled : (log : List ℕ) → Bytes log → (at : ℕ) (es : List Event) (to : ℕ) → Records log at es to → SpellsAll es (spell_log es) × (to ≡ at + length (spell_log es))
unfolding spell_log
all-spelled log bs at [] to r = (no-events, omega (arith, r))
all-spelled log bs at (e ∷ es) to r =
    let s = one-spelling log bs at e r.0 r.1 in
    let k = all-spelled log bs r.0 es to r.2 in
    (event-then e es _ _ (spelled e s.spellable) k.0, omega (arith, s.long, k.1, length-append (spell_event e) (spell_log es)))

pub bad-bytes : {n place : ℕ} {rest : List ℕ} → NoRecord n rest place → 0 < length rest
bad-bytes (no_kind b rest out) = omega arith
bad-bytes (stopped n kind place e early later next before left l so bad) = omega arith

-- what stands after a log's start, and what is read there
pub data After (at : ℕ) : List ℕ → Met → Type 0 where
  event : (e : Event) (next : ℕ) (spelling rest : List ℕ) → Spells e spelling → After at (spelling ++ rest) (met e next)
  unreadable : (n place : ℕ) (rest : List ℕ) → NoRecord n rest place → After at rest (refused n (at + place))
  over : After at [] end

nothing : {at : ℕ} (rest : List ℕ) → length rest ≤ 0 → After at rest end
nothing [] h = over
nothing (b ∷ rest) h = absurd (omega arith)

module _ (start rest : List ℕ) (bs : Bytes (start ++ rest)) where
  here : drop (length start) (start ++ rest) ≡ rest
  here = drop-append_seam start rest

  pub after : After (length start) rest (record_at kinds (start ++ rest) (length start))
  after = by (record_at kinds (start ++ rest) (length start)) refl
    where
      by : (x : Met) → record_at kinds (start ++ rest) (length start) ≡ x → After (length start) rest x
      by (met e next) m = let k = our-reads.only (start ++ rest) bs (length start) e next m in rw (sym here ∙ k.start) (event e next k.spelling (drop next (start ++ rest)) k.spells)
      by (refused n place) m = let k = (our-reads.refuses (start ++ rest) bs (length start) n place).0 m in rw k.counts (unreadable n k.after rest (rw here at k.row))
      by end m = nothing rest (omega (arith, (our-reads.ends (start ++ rest) bs (length start)).0 m, length-append start rest))

  pub refused-there : (n place : ℕ) → NoRecord n rest place → record_at kinds (start ++ rest) (length start) ≡ refused n (length start + place)
  refused-there n place row = (our-reads.refuses (start ++ rest) bs (length start) n (length start + place)).1 (record { after = place; row = rw here row; counts = refl })

  pub not-over : 0 < length rest → ¬ (record_at kinds (start ++ rest) (length start) ≡ end)
  not-over some m = let k = (our-reads.ends (start ++ rest) bs (length start)).0 m in absurd (omega (arith, length-append start rest))
