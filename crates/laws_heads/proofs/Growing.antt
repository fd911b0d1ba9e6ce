-- Records that a log has up to a place are had by every log that agrees with it up to there; so a replay of a longer log goes on where the one before it stopped.
use Prim.Native.Nat.{ℕ, ◌≤◌}
use mathlib.Core.Path.{◌≡◌, refl, sym, ap, ◌∙◌}
use mathlib.Core.List.{List, [], ◌∷◌, ◌++◌}
use native.Mathlib.Omega.{arith}
use lib.ListN.{length, take, drop, length-append, length-drop, length-take, take-append-drop}
use lib.Seq.{length-take-le, take-append-le, drop-append-le, take_at}
use Rattle.base.specs.Told.{Told, accepted, refused}
use Rattle.log_number.proofs.Strings.{bytes-both}
use Rattle.log_event.specs.declared.Event.{Event}
use Rattle.state_parts.specs.declared.state.Model.{Model}
use Rattle.step_event.specs.Steps.{step_of}
use Rattle.c_image.specs.Images.{image_of, model_in}
use Rattle.c_calls.specs.Landing.{Left, left}
use Rattle.c_calls.specs.Replaying.{replay_of}
use Rattle.c_calls.specs.Promises.{our_calls}
use Rattle.c_calls.specs.declared.answer.Replayed.{Replayed}
use Rattle.laws_format.specs.Readers.{SpelledAt}
use Rattle.laws_format.proofs.Only.{ahead}
use Rattle.laws_third.specs.Demand.{ran_by}
use Rattle.laws_heads.specs.Given.{NoRecordAt, Ending, ReplayGives, stops, goes_on}
use Rattle.laws_heads.specs.Second.{replayed_with}
use Rattle.laws_heads.specs.Growing.{ComesTo, GoesOn, CatchesUp}
use Rattle.laws_heads.proofs.Every.{every-input-gives}
use Rattle.laws_heads.proofs.Replaying.{replay-is, loads-after}

-- ---- a record, in a log that agrees up to its end
-- what stands from one place up to another, before what stands from there on
parted : (bytes : List ℕ) (at next : ℕ) → at ≤ next → next ≤ length bytes → drop at bytes ≡ drop at (take next bytes) ++ drop next bytes
parted bytes at next h l =
    ap (drop at) (sym (take-append-drop next bytes)) ∙ drop-append-le at (take next bytes) (drop next bytes) (omega (arith, length-take-le next bytes l))

elsewhere : (bytes other : List ℕ) {at : ℕ} {e : Event} {next : ℕ} → SpelledAt bytes at e next → take next other ≡ take next bytes → next ≤ length other → SpelledAt other at e next
elsewhere bytes other {at} {e} {next} k agree inside =
    let a = ahead k in
    let piece : List ℕ = drop at (take next bytes) in
    let long : length piece ≡ length k.spelling = omega (arith, a, k.long, length-drop at (take next bytes), length-take-le next bytes a.1) in
    let both : piece ++ drop next bytes ≡ k.spelling ++ drop next bytes = sym (parted bytes at next (omega (arith, a)) a.1) ∙ k.start in
    let same : piece ≡ k.spelling =
    sym (take_at piece (drop next bytes) (length k.spelling) long) ∙ ap (take (length k.spelling)) both ∙ take_at k.spelling (drop next bytes) (length k.spelling) refl in
    record {
      spelling = k.spelling;
      spells = k.spells;
      long = k.long;
      start = parted other at next (omega (arith, a)) inside ∙ ap (λ l. drop at l ++ drop next other) agree ∙ ap (λ l. l ++ drop next other) same;
    }

-- ---- and records one after the other
pub further : {bytes : List ℕ} {place : ℕ} {es : List Event} {ending : Ending} → ReplayGives bytes place es ending → place ≤ ending.next
further (stops place code told h) = omega arith
further (goes_on place e next es ending k more) = omega (arith, ahead k, further more)

pub ends_with : {bytes : List ℕ} {place : ℕ} {es : List Event} {ending : Ending} → ReplayGives bytes place es ending → NoRecordAt bytes ending.next ending.code ending.told
ends_with (stops place code told h) = h
ends_with (goes_on place e next es ending k more) = ends_with more

-- so much of it as is within the log
long-enough : (bytes other : List ℕ) (k : ℕ) → k ≤ length bytes → take k other ≡ take k bytes → k ≤ length other
long-enough bytes other k inside agree = omega (arith, ap length agree, length-take-le k bytes inside, length-take k other)

pub onward : (bytes other : List ℕ) {place : ℕ} {es fs : List Event} {first then : Ending} → ReplayGives bytes place es first
    → ((k : ℕ) → k ≤ length bytes → k ≤ first.next → take k other ≡ take k bytes) → ReplayGives other first.next fs then → ReplayGives other place (es ++ fs) then
onward bytes other (stops place code told h) agree g = g
onward bytes other {fs = fs} {then = then} (goes_on place e next es first k more) agree g =
    let inside = (ahead k).1 in
    let same = agree next inside (further more) in
    goes_on place e next (es ++ fs) then (elsewhere bytes other k same (long-enough bytes other next inside same)) (onward bytes other more agree g)

-- ---- a longer log
ran-after : (es fs : List Event) (m : Model) → ran_by step_of m (es ++ fs) ≡ ran_by step_of (ran_by step_of m es) fs
unfolding ran_by
ran-after [] fs m = refl
ran-after (e ∷ es) fs m = ran-after es fs (step_of m e).model

-- bytes that are no image
no-image : (image bytes : List ℕ) (place n : ℕ) → model_in image ≡ refused n → replay_of image bytes place ≡ left (record { number = n; code = 0; records = 0; place = place; next = place }) image
unfolding replay_of
no-image image bytes place n e = rw e

-- both calls by their events, and the whole by those of both
comes-to : (es fs : List Event) (m : Model) (a b : Ending) {whole first then : Left Replayed} → whole ≡ left (replayed_with (length (es ++ fs)) b) (image_of (ran_by step_of m (es ++ fs)))
    → first ≡ left (replayed_with (length es) a) (image_of (ran_by step_of m es)) → then ≡ left (replayed_with (length fs) b) (image_of (ran_by step_of (ran_by step_of m es) fs)) → ComesTo whole first then
comes-to es fs m a b w f t =
    rw (w, f, t)
    (record {
      image = ap image_of (ran-after es fs m);
      number = refl;
      code = refl;
      place = refl;
      next = refl;
      records = omega (arith, length-append es fs);
    })

pub catches-up : CatchesUp our_calls
catches-up image bytes more bs bm place = go (model_in image) refl
  where
    go : (x : Told Model) → model_in image ≡ x → GoesOn our_calls image bytes more place
    go (refused n) e = rw (no-image image bytes place n e, no-image image (bytes ++ more) place n e) (record { image = refl; number = refl; code = refl; place = refl; next = refl; records = refl })
    go (accepted m) e =
        let all = bytes-both bytes more bs bm in
        let one = every-input-gives.replay bytes bs place in
        let first = one.1.0 in
        let two = every-input-gives.replay (bytes ++ more) all first.0.next in
        let then = two.1.0 in
        let after = ran_by step_of m one.0 in
        let early = replay-is image m e bytes bs first.1 in
        let late =
        ap (λ (l : Left Replayed). replay_of l.bytes (bytes ++ more) l.answer.next) early
        ∙ replay-is (image_of after) after (loads-after image m e bytes bs first.1) (bytes ++ more) all then.1 in
        let whole = replay-is image m e (bytes ++ more) all (onward bytes (bytes ++ more) first.1 (λ k inside before. take-append-le k bytes more inside) then.1) in
        comes-to one.0 two.0 m first.0 then.0 whole early late
