-- Where a walk ends is within its log, and so the last line has the whole offset.
use Prim.Native.Nat.{ℕ, zero, suc, ◌≤◌}
use mathlib.Core.Path.{◌≡◌, refl, ap}
use mathlib.Core.Logic.{◌≢◌}
use mathlib.Core.List.{List, [], ◌∷◌}
use native.Mathlib.Omega.{arith}
use native.Mathlib.Nat.{mod-eq_of_lt}
use lib.ListN.{length}
use Rattle.log_number.specs.Promises.{Bytes}
use Rattle.log_event.specs.Kinds.{kinds}
use Rattle.log_record.specs.Records.{record_at}
use Rattle.log_record.specs.Records as log
use Rattle.log_record.proofs.Inside.{refused-inside}
use Rattle.state_parts.specs.declared.state.Model.{Model}
use Rattle.report_text.specs.Text.{end_text, low32}
use Rattle.step_event.specs.Walks.{WalkTold, met, unreadable, end, after_read, walk_of}
use Rattle.step_event.specs.Pages.{StopTold, Passed, passed_by, page_of, end_by}
use Rattle.step_event.specs.Pages as page
use Rattle.step_event.specs.declared.walking.Walk.{Walk}
use Rattle.step_event.proofs.Moves.{walk-moves}
use Rattle.step_text.specs.Prints.{last_text}

-- ---- where records end
abbrev StopWithin : ℕ → StopTold → Type 0
StopWithin most page.full = Unit {0}
StopWithin most page.end = Unit {0}
StopWithin most (page.unreadable n p) = p ≤ most

pub record Within (most : ℕ) (p : Passed) : Type 0 where
  pub last : p.last.place ≤ most
  pub stop : StopWithin most p.stop

module _ (bytes : List ℕ) (bs : Bytes bytes) where
  stops : (w : Walk) → w.place ≤ length bytes → (n p : ℕ) → (x : log.Met) → record_at kinds bytes w.place ≡ x → (m : Model) → after_read w x ≡ unreadable n p m → p ≤ length bytes
  stops w h n p (log.met e next) s m is = absurd (let z : ◌≡◌ {A = ℕ} 0 1 = cc in omega arith)
  stops w h n p (log.refused k q) s m is = let same : q ≡ p = cc in omega (arith, (refused-inside bytes w.place k q s).inside, same)
  stops w h n p log.end s m is = absurd (let z : ◌≡◌ {A = ℕ} 0 1 = cc in omega arith)

  first : (most : ℕ) (w : Walk) → w.place ≤ length bytes → ((v : Walk) → v.place ≤ length bytes → Within (length bytes) (page_of most bytes v))
      → (x : WalkTold) → walk_of bytes w ≡ x → Within (length bytes) (passed_by w x (λ v. page_of most bytes v))
  unfolding walk_of
  first most w h ih (met m) is = let k = ih m.walk (walk-moves bytes bs w m is).1 in record { last = k.last; stop = k.stop }
  first most w h ih (unreadable n p m) is = record { last = h; stop = stops w h n p (record_at kinds bytes w.place) refl m is }
  first most w h ih end is = record { last = h; stop = tt }

  pub within : (most : ℕ) (w : Walk) → w.place ≤ length bytes → Within (length bytes) (page_of most bytes w)
  unfolding page_of
  within zero w h = record { last = h; stop = tt }
  within (suc most) w h = first most w h (λ v k. within most v k) (walk_of bytes w) refl

-- ---- and so the last line
whole : (n : ℕ) → n ≤ 65536 → low32 n ≡ n
whole n h = mod-eq_of_lt (omega arith)

pub last-is : (most : ℕ) → most ≤ 65536 → (p : Passed) → Within most p → p.stop ≢ page.full → last_text p.last.number p.last.place p.stop ≡ end_text (end_by p.last p.stop)
last-is most few p k h = go p.stop k.stop h
  where
    go : (s : StopTold) → StopWithin most s → s ≢ page.full → last_text p.last.number p.last.place s ≡ end_text (end_by p.last s)
    go page.full w h = absurd (h refl)
    go page.end w h = ap (λ n. end_text (p.last.number ∷ 0 ∷ n ∷ [])) (whole p.last.place (omega (arith, k.last)))
    go (page.unreadable code start) w h = ap (λ n. end_text (p.last.number ∷ code ∷ n ∷ [])) (whole start (omega (arith, w)))
