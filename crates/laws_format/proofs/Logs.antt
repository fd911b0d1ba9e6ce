-- Records one after the other: events have no two spellings, and no two lists of events share one.
use Prim.Native.Nat.{ℕ, ◌<◌}
use mathlib.Core.Path.{◌≡◌, refl, sym, ap, ◌∙◌}
use mathlib.Core.List.{List, ◌++◌}
use native.Mathlib.Omega.{arith}
use lib.ListN.{length, drop}
use lib.Seq.{drop-append_seam}
use Rattle.log_event.specs.Kinds.{kinds}
use Rattle.log_event.specs.declared.Event.{Event}
use Rattle.log_record.specs.Records.{met, read_record}
use Rattle.log_record.proofs.RecordLaws.{reads-back}
use Rattle.laws_format.specs.Format.{Spells, kind-then-numbers, SpellsAll, no-events, event-then, AllSpelledOnce}
use Rattle.laws_format.proofs.Formats.{spells-are}

pub some_bytes : {e : Event} {spelling : List ℕ} → Spells e spelling → (rest : List ℕ) → 0 < length (spelling ++ rest)
some_bytes (kind-then-numbers e kind ns bytes l so) rest = omega arith

starts_with : {e : Event} {spelling : List ℕ} → Spells e spelling → (rest : List ℕ) → read_record kinds (spelling ++ rest) ≡ met e (length spelling)
starts_with sp rest = let k = spells-are sp in rw k.0 (reads-back _ k.1 rest)

all_one : {es : List Event} {a b : List ℕ} → SpellsAll es a → SpellsAll es b → a ≡ b
all_one no-events no-events = refl
all_one (event-then _ _ s a p so) (event-then _ _ t b q to) = ap (λ l. l ++ a) ((spells-are p).0 ∙ sym (spells-are q).0) ∙ ap (λ l. t ++ l) (all_one so to)

all_apart : {es fs : List Event} {a b : List ℕ} → SpellsAll es a → SpellsAll fs b → a ≡ b → es ≡ fs
all_apart no-events no-events e = refl
all_apart no-events (event-then f fs t b q to) e = absurd (let k = ap length e in omega (arith, some_bytes q b))
all_apart (event-then e es s a p so) no-events h = absurd (let k = ap length h in omega (arith, some_bytes p a))
all_apart (event-then e es s a p so) (event-then f fs t b q to) h =
    let read : met e (length s) ≡ met f (length t) = sym (starts_with p a) ∙ ap (read_record kinds) h ∙ starts_with q b in
    let first : e ≡ f = cc in
    let long : length s ≡ length t = cc in
    let rest : a ≡ b = sym (drop-append_seam s a) ∙ ap (λ n. drop n (s ++ a)) long ∙ ap (drop (length t)) h ∙ drop-append_seam t b in
    let others = all_apart so to rest in
    cc

pub one-spelling-of-all : AllSpelledOnce
one-spelling-of-all = record {
  one = λ es a b p q. all_one p q;
  apart = λ es fs a p q. all_apart p q refl;
}
