-- What a register reset leaves of the stored fields: the resets, but for the fields that the sheet doesn't mark.
use Prim.Native.Nat.{ℕ}
use mathlib.Core.Path.{◌≡◌, refl, ap, ◌∙◌}
use mathlib.Core.Bool.{Bool, true, false, not, ◌&&◌, false≢true}
use mathlib.Core.List.{List, [], ◌∷◌}
use Rattle.base.specs.Pick.{pick}
use Rattle.base.proofs.Tests.{and-iff}
use Rattle.state_parts.specs.declared.profile.Profile.{Profile}
use Rattle.state_parts.specs.declared.words.Words.{Words}
use Rattle.state_table.specs.Rows.{Field, fields, fields_of, is_stored}
use Rattle.state_fields.specs.Words.{bits_in, put_in, no_words}
use Rattle.state_fields.specs.Held.{field_in, with_field, puts, gathered, start_words, restored_by}
use Rattle.state_fields.proofs.Gathers.{stored, over-gathered}

-- codes that agree where they are put come to the same
puts-same : (on : Field → Bool) (one other : Field → ℕ) → ((f : Field) → on f ≡ true → one f ≡ other f) → (fs : List Field) (w : Words) → puts on one fs w ≡ puts on other fs w
puts-same on one other same [] w = refl
puts-same on one other same (f ∷ fs) w = puts-same on one other same fs (pick (on f) (with_field f (one f) w) w) ∙ ap (puts on other fs) (go (on f) refl)
  where
    go : (t : Bool) → on f ≡ t → pick t (with_field f (one f) w) w ≡ pick t (with_field f (other f) w) w
    go true e = ap (λ (code : ℕ). with_field f code w) (same f e)
    go false e = refl

pub gathered-same : (p : Profile) (one other : Field → ℕ) → ((f : Field) → stored f ≡ true → one f ≡ other f) → gathered p one ≡ gathered p other
unfolding gathered fields_of
gathered-same p one other same = puts-same stored one other same fields no_words

-- stored, and not marked
abbrev kept : Field → Bool
kept f = is_stored f.access && not f.restored

turned_round : (s t : Bool) (own reset : ℕ) → s ≡ true → pick (s && not t) own reset ≡ pick t reset own
turned_round true true own reset e = refl
turned_round true false own reset e = refl
turned_round false t own reset e = absurd (false≢true e)

pub over-resets : (p : Profile) (w : Words) → puts kept (λ (f : Field). field_in f w) fields (start_words p) ≡ restored_by p w
unfolding start_words restored_by
over-resets p w =
    over-gathered p kept (λ (f : Field). field_in f w) (λ (f : Field). f.reset) (λ f e. ((and-iff (stored f) (not f.restored)).0 e).0)
    ∙ gathered-same p (λ (f : Field). pick (kept f) (field_in f w) f.reset) (λ (f : Field). pick f.restored f.reset (field_in f w))
    (λ f e. turned_round (stored f) f.restored (field_in f w) f.reset e)

-- VINDPM, STOP_WD_CHG and EN_BYPASS_LL_EXIT: no other stored field is unmarked
pub three-kept : (p : Profile) (w : Words)
    → put_in 0xCF 1 (bits_in 0xCF 1 w) (put_in 0x91 1 (bits_in 0x91 1 w) (put_in 0x44 11 (bits_in 0x44 11 w) (start_words p))) ≡ restored_by p w
unfolding fields
three-kept p w = over-resets p w
