-- The text of a run is what this product prints, and no other text is.
use Prim.Native.Nat.{ℕ}
use mathlib.Core.Path.{◌≡◌, refl, sym, ap, subst, ◌∙◌}
use mathlib.Core.Bool.{Bool, true, false}
use mathlib.Core.List.{List, [], ◌∷◌, ◌++◌, append_assoc}
use lib.ListN.{length}
use lib.Dec.{ltb}
use Rattle.base.specs.Pick.{pick}
use Rattle.report_state.specs.declared.line.Line.{Line}
use Rattle.report_text.specs.Text.{line_text, end_text}
use Rattle.report_pages.specs.Text.{numbers_of, lines_text}
use Rattle.step_event.specs.Pages.{StopTold, full, end, unreadable, whole_of, end_by, end_of}
use Rattle.step_event.specs.declared.walking.Walk.{Walk}
use Rattle.step_text.specs.Runs.{run_text}
use Rattle.laws_pairs.proofs.Texts.{our-texts}
use Rattle.laws_demands.specs.Product.{LogLines}
use Rattle.laws_demands.specs.Printed.{refused_run, line_numbers, RunText, last-line, line-then}
use Rattle.laws_demands.specs.Ours.{our_walk}

-- lines and a last line of three numbers
run-text : (ls : List Line) (records code offset : ℕ)
    → RunText ls (records ∷ code ∷ offset ∷ []) (lines_text ls ++ end_text (records ∷ code ∷ offset ∷ []))
unfolding lines_text numbers_of
run-text [] records code offset = last-line records code offset _ ((our-texts.ending records code offset (end_text (records ∷ code ∷ offset ∷ []))).1 refl)
run-text (l ∷ ls) records code offset =
    let last = end_text (records ∷ code ∷ offset ∷ []) in
    subst (λ (t : List ℕ). RunText (l ∷ ls) (records ∷ code ∷ offset ∷ []) t) (sym (append_assoc (line_text (line_numbers l)) (lines_text ls) last))
    (line-then l ls (records ∷ code ∷ offset ∷ []) (line_text (line_numbers l)) (lines_text ls ++ last) ((our-texts.line _ _ (line_text (line_numbers l))).1 refl) (run-text ls records code offset))

only-text : {ls : List Line} {last text : List ℕ} → RunText ls last text → text ≡ lines_text ls ++ end_text last
unfolding lines_text numbers_of
only-text (last-line records code offset text h) = (our-texts.ending records code offset text).0 h
only-text (line-then l ls last text rest h more) =
    ap (λ (t : List ℕ). t ++ rest) ((our-texts.line _ _ text).0 h) ∙ ap (λ (t : List ℕ). line_text (line_numbers l) ++ t) (only-text more)
    ∙ sym (append_assoc (line_text (line_numbers l)) (lines_text ls) (end_text last))

-- the last line always has three
three : (ls : List Line) (w : Walk) (stop : StopTold) → RunText ls (end_by w stop) (lines_text ls ++ end_text (end_by w stop))
three ls w full = run-text ls w.number 0 w.place
three ls w end = run-text ls w.number 0 w.place
three ls w (unreadable number place) = run-text ls w.number number place

abbrev walk_by : List ℕ → Bool → LogLines
walk_by bytes long = pick long refused_run (record { lines = (whole_of bytes).lines; last = end_of bytes })

by_length : (bytes : List ℕ) (long : Bool)
    → RunText (walk_by bytes long).lines (walk_by bytes long).last (pick long (end_text (0 ∷ 13 ∷ 0 ∷ [])) (lines_text (whole_of bytes).lines ++ end_text (end_of bytes)))
unfolding lines_text
by_length bytes true = run-text [] 0 13 0
by_length bytes false = three (whole_of bytes).lines (whole_of bytes).last (whole_of bytes).stop

pub our-text : (bytes : List ℕ) → RunText (our_walk bytes).lines (our_walk bytes).last (run_text bytes)
unfolding run_text
our-text bytes = by_length bytes (ltb 65536 (length bytes))

pub only-ours-printed : (bytes text : List ℕ) → RunText (our_walk bytes).lines (our_walk bytes).last text → text ≡ run_text bytes
only-ours-printed bytes text h = only-text h ∙ sym (only-text (our-text bytes))
