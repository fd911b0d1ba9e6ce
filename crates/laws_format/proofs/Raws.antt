-- Raw bytes: those that the format says are held are those that this product's definitions spell.
use Prim.Native.Nat.{ℕ, ◌*◌, ◌^◌, ◌≤◌, ◌<◌}
use mathlib.Core.Path.{◌≡◌, refl, sym, ◌∙◌}
use mathlib.Core.Bool.{true}
use mathlib.Core.List.{List}
use native.Mathlib.Omega.{arith}
use lib.ListN.{length, get_or-eq_default}
use lib.Seq.{get_or-take, length-take-le, ext_get_or}
use Rattle.log_number.specs.Promises.{Bytes}
use Rattle.c_words.specs.Words.{bytes_of, words_in}
use Rattle.c_words.proofs.WordLaws.{length-words, length-bytes}
use Rattle.log_raw.specs.Raw.{Raw, held_by, byte_of, counted, has_spelling}
use Rattle.log_raw.specs.Promises.{Fits}
use Rattle.log_raw.proofs.Packing.{words_small, all-kept}
use Rattle.log_raw.proofs.Soundness.{spelling-told}
use Rattle.log_raw.proofs.Spellings.{bytes-long, cut}
use Rattle.laws_format.specs.Format.{Holds}

pub record Spelled (r : Raw) (bytes : List ℕ) : Type 0 where
  pub fits : Fits r
  pub sound : has_spelling r ≡ true
  pub same : bytes ≡ counted r

pub spelled-raw : {r : Raw} {bytes : List ℕ} → Holds r bytes → Spelled r bytes
unfolding byte_of
spelled-raw {r} {bytes} h =
    let all : length (bytes_of r.words) ≡ length r.words * 4 = length-bytes r.words in
    let long : length (counted r) ≡ r.count = length-take-le r.count (bytes_of r.words) (omega (arith, h.long, h.most)) in
    record {
      fits = record { low = omega (arith, h.long, h.low); small = h.small };
      sound = spelling-told.holds r (record {
        some = omega (arith, h.long, h.some);
        most = omega (arith, h.long, h.most);
        rest = λ i l. h.each i ∙ get_or-eq_default bytes 0 (omega (arith, h.long));
      });
      same = ext_get_or 0 bytes (counted r) (sym h.long ∙ sym long) (λ i l. sym (h.each i) ∙ sym (get_or-take r.count (bytes_of r.words) i 0 (omega (arith, h.long))));
    }

pub holds-counted : (r : Raw) → Fits r → has_spelling r ≡ true → Holds r (counted r)
unfolding byte_of
holds-counted r fits has =
    let sound = spelling-told.told r has in
    let long = bytes-long r fits sound in
    record {
      long = sym long;
      some = omega (arith, sound.some);
      low = omega (arith, fits.low);
      most = omega (arith, sound.most);
      small = fits.small;
      each = λ i. sym (cut r fits sound i);
    }

-- bytes that so many words have room for are held by them
pub holds-words : (k : ℕ) (bytes : List ℕ) → Bytes bytes → 1 ≤ length bytes → length bytes < 2 ^ 32 → length bytes ≤ held_by k → Holds (record { count = length bytes; words = words_in k bytes }) bytes
unfolding byte_of
holds-words k bytes bs some low most = record {
  long = refl;
  some = some;
  low = omega arith;
  most = rw (length-words k bytes) most;
  small = words_small k bytes bs;
  each = λ i. all-kept k bytes bs most i;
}
