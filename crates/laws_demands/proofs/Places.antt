-- A record that is played is answered with the place at which it starts, or with that of what decided that it can't be read.
use Prim.Native.Nat.{ℕ}
use mathlib.Core.Path.{◌≡◌, refl, sym, ◌∙◌}
use mathlib.Core.List.{List}
use mathlib.Core.Logic.{inl, inr}
use mathlib.Core.Option.{none, some}
use native.Mathlib.Omega.{arith}
use lib.ListN.{length}
use borrow.Author.Tests.{eq-eqb, ne_eqb}
use Rattle.base.specs.Told.{Told, accepted, refused}
use Rattle.state_parts.specs.declared.state.Model.{Model}
use Rattle.log_number.specs.Promises.{Bytes}
use Rattle.log_event.specs.Events.{kind_of}
use Rattle.log_event.specs.Kinds.{kind_byte, kind_row, kinds}
use Rattle.log_event.specs.declared.kinds.Kind.{Kind}
use Rattle.log_event.proofs.Remaking.{row-of-its-own}
use Rattle.log_record.specs.Records.{Met, met, end, record_at}
use Rattle.log_record.specs.Records as log
use Rattle.c_calls.specs.Landing.{ready_of}
use Rattle.c_calls.specs.Playing.{play_ready, play_of}
use Rattle.laws_format.proofs.Keeping.{our-reads}
use Rattle.laws_format.proofs.KindsListed.{kinds-listed}
use Rattle.laws_format.proofs.RecordsRefused.{no_row}
use Rattle.laws_format.proofs.RecordsDecided.{record-among}
use Rattle.laws_heads.proofs.Third.{not-ready}
use Rattle.laws_demands.specs.Second.{PlayedAt}

-- no kind has the number that stands for none
pub some-kind : (k : Kind) → kind_byte k ≡ 0 → ⊥
some-kind k e =
    let z : some (kind_row k) ≡ none = sym (row-of-its-own k) ∙ no_row (kind_byte k) ((kinds-listed (kind_byte k)).1 (inl e)) in
    let y : ◌≡◌ {A = ℕ} 0 1 = cc in
    omega arith

module _ (image bytes : List ℕ) (are : Bytes bytes) (place : ℕ) (shown : List ℕ) where
  by : (m : Told Model) → ready_of image (length shown) 28 ≡ m → (x : Met) → record_at kinds bytes place ≡ x → PlayedAt place x (play_ready m x image place shown).answer
  by (refused number) r (met e next) h = record { place = λ other. refl; five = λ e. inr refl; next = λ k. refl }
  by (refused number) r (log.refused n decided) h =
      let low = record-among ((our-reads.refuses bytes are place n decided).0 h).row in
      record {
        place = λ other. rw (ne_eqb number n (λ e. omega (arith, e, other, not-ready image (length shown) 28 number r, low.1)));
        five = λ e. inr refl;
        next = λ k. refl;
      }
  by (refused number) r end h = record { place = λ other. refl; five = λ e. inr refl; next = λ k. refl }
  by (accepted m) r (met e next) h = record { place = λ other. refl; five = λ e. inr refl; next = λ k. absurd (some-kind (kind_of e) k) }
  by (accepted m) r (log.refused n decided) h = record { place = λ other. rw (eq-eqb n n refl); five = λ e. inl (rw (eq-eqb 5 n (sym e))); next = λ k. refl }
  by (accepted m) r end h = record { place = λ other. refl; five = λ e. inr refl; next = λ k. refl }

  pub plays-at : PlayedAt place (record_at kinds bytes place) (play_of image bytes place shown).answer
  unfolding play_of
  plays-at = by (ready_of image (length shown) 28) refl (record_at kinds bytes place) refl
